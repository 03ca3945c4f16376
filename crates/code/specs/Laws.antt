-- Laws of the code, over every valid code, both disparities and every bit.
use Rattle.std.specs.Prelude.{◌≡◌, ℕ, ◌-◌, ◌/◌, ◌%◌, ◌<◌, true, false, T, ◌⊎◌, List, [], ◌∷◌, ◌++◌, take, drop, Some, None, Ok, Err}
use Rattle.code.specs.declared.character.Code.{Code}
use Rattle.code.specs.Bits.{bits_of, number_of, inverted}
use Rattle.code.specs.Kinds.{kind_number, code_with}
use Rattle.code.specs.Characters.{encoded, decoded, after, used_after, valid, unlike}
use Rattle.code.specs.Encodings.{encoding}
use Rattle.code.specs.Decodings.{decoding, decode_refusal}
use Rattle.code.specs.declared.character.decoding.DecodeRefusal.TheVariants.{NotInColumn}

-- Decoding undoes encoding.
abbrev pub DecodingUndoesEncoding : Type 0
DecodingUndoesEncoding =
    (kind byte d : ℕ) → T (valid kind byte) → d < 2 → decoded (encoded kind byte d) d ≡ Some (code_with kind byte)

-- A character is read in a column as a code only if that code is valid and stands there with it. With the law above,
-- a character is valid in a column exactly if some valid code stands there with it.
abbrev pub DecodedStandsThere : Type 0
DecodedStandsThere =
    (character d : ℕ) (c : Code) → decoded character d ≡ Some c → T (valid (kind_number c.kind) c.byte) × (encoded (kind_number c.kind) c.byte d ≡ character)

-- A character stands for one code, also where it is read at the other disparity.
abbrev pub OneCodeToACharacter : Type 0
OneCodeToACharacter =
    (k b k' b' d d' : ℕ) → T (valid k b) → T (valid k' b') → d < 2 → d' < 2 → encoded k b d ≡ encoded k' b' d' → (k ≡ k') × (b ≡ b')

-- The receiver's rule for the next disparity, half by half, agrees with the encoder's.
abbrev pub NextDisparitiesAgree : Type 0
NextDisparitiesAgree =
    (k b d : ℕ) → T (valid k b) → d < 2
    → after (encoded k b d) d ≡ used_after 4 (encoded k b d % 16) (used_after 6 (encoded k b d / 16) d)

-- A character of a code with like columns, sent at d and read at e, is read right and keeps either disparity.
abbrev pub LikeColumnsKeepDisparity : Type 0
LikeColumnsKeepDisparity =
    (k b d e : ℕ) → T (valid k b) → d < 2 → e < 2 → unlike k b ≡ false
    → (decoded (encoded k b d) e ≡ Some (code_with k b)) × (after (encoded k b d) e ≡ e)

-- A character of a code with unlike columns is in no other column, and sets the next disparity whatever stood before.
abbrev pub UnlikeColumnsSetDisparity : Type 0
UnlikeColumnsSetDisparity =
    (k b d : ℕ) → T (valid k b) → d < 2 → unlike k b ≡ true
    → (decoded (encoded k b d) (1 - d) ≡ None) × (after (encoded k b d) (1 - d) ≡ after (encoded k b d) d)

-- A character fits ten bits, a disparity stays one, and ten bits make the number that they came from.
abbrev pub CharactersFit : Type 0
CharactersFit = (k b d : ℕ) → T (valid k b) → d < 2 → encoded k b d < 1024

abbrev pub DisparityFits : Type 0
DisparityFits = (character d : ℕ) → d < 2 → after character d < 2

abbrev pub BitsMakeTheirNumber : Type 0
BitsMakeTheirNumber = (x : ℕ) → x < 1024 → number_of (bits_of 10 x) ≡ x

-- A character with one bit inverted.
abbrev pub inverted_at : ℕ → ℕ → ℕ
inverted_at place character = number_of (inverted (bits_of 10 character) place)

-- If it is still valid in its column, it leaves the other disparity.
abbrev pub InvertedBitTurnsDisparity : Type 0
InvertedBitTurnsDisparity =
    (k b d place : ℕ) (c : Code) → T (valid k b) → d < 2 → place < 10
    → decoded (inverted_at place (encoded k b d)) d ≡ Some c
    → after (inverted_at place (encoded k b d)) d ≡ 1 - after (encoded k b d) d

-- The patterns of a comma, 0011111 and 1100000.
abbrev pub comma_at_minus : List ℕ
comma_at_minus = 0 ∷ 0 ∷ 1 ∷ 1 ∷ 1 ∷ 1 ∷ 1 ∷ []

abbrev pub comma_at_plus : List ℕ
comma_at_plus = 1 ∷ 1 ∷ 0 ∷ 0 ∷ 0 ∷ 0 ∷ 0 ∷ []

abbrev pub Comma : List ℕ → Type 0
Comma bits = (bits ≡ comma_at_minus) ⊎ (bits ≡ comma_at_plus)

-- In two characters sent one after the other, a comma that begins in the first is the start of a K28.5.
abbrev pub CommaStartsK28_5 : Type 0
CommaStartsK28_5 =
    (k b k' b' d place : ℕ) → T (valid k b) → T (valid k' b') → d < 2 → place < 10
    → Comma (take 7 (drop place (bits_of 10 (encoded k b d) ++ bits_of 10 (encoded k' b' (after (encoded k b d) d)))))
    → (place ≡ 0) × (k ≡ 1) × (b ≡ 0xBC)

-- A K28.5 starts with the first pattern at minus, and with the second at plus.
abbrev pub K28_5StartsWithComma : Type 0
K28_5StartsWithComma =
    (take 7 (bits_of 10 (encoded 1 0xBC 0)) ≡ comma_at_minus) × (take 7 (bits_of 10 (encoded 1 0xBC 1)) ≡ comma_at_plus)

-- Worked examples; the last three are the characters of ALIGN(0) sent at minus, of which the second stands twice.
pub record Examples : Type 0 where
  pub encoded_35 : encoding 0 0x35 0 ≡ Ok (record { character = 0b1010101001; disparity = 0 })
  pub decoded_15 : decoding 0b1010101011 0 ≡ Ok (record { code = code_with 0 0x15; disparity = 1 })
  pub encoded_b7 : encoding 0 0xB7 0 ≡ Ok (record { character = 0b1110101010; disparity = 1 })
  pub other_column : decoding 0b1110101010 1 ≡ Err (decode_refusal (NotInColumn 1))
  pub encoded_f1 : encoding 0 0xF1 0 ≡ Ok (record { character = 0b1000110111; disparity = 1 })
  pub align_first : encoding 1 0xBC 0 ≡ Ok (record { character = 0b0011111010; disparity = 1 })
  pub align_middle : encoding 0 0x4A 1 ≡ Ok (record { character = 0b0101010101; disparity = 1 })
  pub align_last : encoding 0 0x7B 1 ≡ Ok (record { character = 0b0010011100; disparity = 0 })

pub record CodeLaws : Type 0 where
  pub decoding_undoes_encoding : DecodingUndoesEncoding
  pub decoded_stands_there : DecodedStandsThere
  pub one_code_to_a_character : OneCodeToACharacter
  pub next_disparities_agree : NextDisparitiesAgree
  pub like_columns_keep_disparity : LikeColumnsKeepDisparity
  pub unlike_columns_set_disparity : UnlikeColumnsSetDisparity
  pub characters_fit : CharactersFit
  pub disparity_fits : DisparityFits
  pub bits_make_their_number : BitsMakeTheirNumber
  pub inverted_bit_turns_disparity : InvertedBitTurnsDisparity
  pub comma_starts_k28_5 : CommaStartsK28_5
  pub k28_5_starts_with_comma : K28_5StartsWithComma
