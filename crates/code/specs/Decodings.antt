-- What decoding answers.
use Rattle.std.specs.Prelude.{ℕ, Bool, false, cond, ◌&&◌, [], ◌∷◌, Some, None, Ok, Err, Option, Result, ◌==◌, nat_lt, slice_index_or}
use Rattle.code.specs.Refusals.{Refusal, plain}
use Rattle.code.specs.Kinds.{kind_number}
use Rattle.code.specs.Characters.{after, decoded}
use Rattle.code.specs.declared.character.Code.{Code}
use Rattle.code.specs.declared.character.decoding.Decoded.{Decoded}
use Rattle.code.specs.declared.character.decoding.DecodeRefusal.{DecodeRefusal}
use Rattle.code.specs.declared.character.decoding.DecodeRefusal.TheVariants.{NotACharacter, DisparityAboveOne, NotInColumn}

-- Not in the column comes with the next disparity.
abbrev pub decode_refusal : DecodeRefusal → Refusal
decode_refusal NotACharacter = plain 1
decode_refusal DisparityAboveOne = plain 14
decode_refusal (NotInColumn next) = record { number = 20; values = next ∷ [] }

-- A character that stands for a code or for none, with the disparity after it.
abbrev pub read_as : Option Code → ℕ → Result Decoded Refusal
read_as (Some code) next = Ok (record { code = code; disparity = next })
read_as None next = Err (decode_refusal (NotInColumn next))

-- The first number that applies, or the code and the disparity after its character.
abbrev pub decoding : ℕ → ℕ → Result Decoded Refusal
decoding character disparity =
    cond (nat_lt 1023 character) (Err (decode_refusal NotACharacter))
    (cond (nat_lt 1 disparity) (Err (decode_refusal DisparityAboveOne))
    (read_as (decoded character disparity) (after character disparity)))

-- The answer is this data byte with this disparity after it.
abbrev pub is_decoded : Result Decoded Refusal → ℕ → ℕ → Bool
is_decoded (Ok d) byte next = kind_number d.code.kind == 0 && d.code.byte == byte && d.disparity == next
is_decoded (Err r) byte next = false

-- The answer is that the character is not in the column, with this disparity after it.
abbrev pub is_out_of_column : Result Decoded Refusal → ℕ → Bool
is_out_of_column (Ok d) next = false
is_out_of_column (Err r) next = r.number == 20 && slice_index_or r.values 0 2 == next
