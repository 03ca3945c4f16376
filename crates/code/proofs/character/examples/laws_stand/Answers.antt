use Rattle.std.proofs.Common.{refl}
use Rattle.code.specs.Characters.{encoded, decoded, after}
use Rattle.code.specs.Laws.{Examples}
use Rattle.code.proofs.Laws as laws
use Rattle.code.proofs.InvertedBits.{inverted_bit_turns_disparity}
use Rattle.code.proofs.Commas.{comma_starts_k28_5, k28_5_starts_with_comma}
use Rattle.code.proofs.character.examples.laws_stand.Goals as goal

worked : Examples
unfolding encoded decoded after
worked = record {
  encoded_35 = refl;
  decoded_15 = refl;
  encoded_b7 = refl;
  other_column = refl;
  encoded_f1 = refl;
  align_first = refl;
  align_middle = refl;
  align_last = refl;
}

pub returns : goal.returns
returns c = record {
  examples = worked;
  laws = record {
    decoding_undoes_encoding = laws.decoding_undoes_encoding;
    decoded_stands_there = laws.decoded_stands_there;
    one_code_to_a_character = laws.one_code_to_a_character;
    next_disparities_agree = laws.next_disparities_agree;
    like_columns_keep_disparity = laws.like_columns_keep_disparity;
    unlike_columns_set_disparity = laws.unlike_columns_set_disparity;
    characters_fit = laws.characters_fit;
    disparity_fits = laws.disparity_fits;
    bits_make_their_number = laws.bits_make_their_number;
    inverted_bit_turns_disparity = inverted_bit_turns_disparity;
    comma_starts_k28_5 = comma_starts_k28_5;
    k28_5_starts_with_comma = k28_5_starts_with_comma;
  };
}
