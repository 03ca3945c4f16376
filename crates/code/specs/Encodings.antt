-- What encoding answers.
use Rattle.std.specs.Prelude.{ℕ, Bool, false, cond, not, ◌&&◌, Ok, Err, Result, ◌==◌, nat_lt}
use Rattle.code.specs.Refusals.{Refusal, plain}
use Rattle.code.specs.Characters.{encoded, data_character, special_character, after, special}
use Rattle.code.specs.declared.character.Encoded.{Encoded}
use Rattle.code.specs.declared.character.encoding.EncodeRefusal.{EncodeRefusal}
use Rattle.code.specs.declared.character.encoding.EncodeRefusal.TheVariants.{KindAboveOne, NotSpecial, DisparityAboveOne}

abbrev pub encode_refusal : EncodeRefusal → Refusal
encode_refusal KindAboveOne = plain 5
encode_refusal NotSpecial = plain 6
encode_refusal DisparityAboveOne = plain 14

-- A character with the disparity after it.
abbrev pub followed : ℕ → ℕ → Encoded
followed character disparity = record { character = character; disparity = after character disparity }

abbrev pub data_sent : ℕ → ℕ → Encoded
data_sent byte disparity = followed (data_character byte disparity) disparity

abbrev pub special_sent : ℕ → ℕ → Encoded
special_sent byte disparity = followed (special_character byte disparity) disparity

abbrev pub sent_as : ℕ → ℕ → ℕ → Encoded
sent_as kind byte disparity = followed (encoded kind byte disparity) disparity

-- The first number that applies, or the character and the disparity after it.
abbrev pub encoding : ℕ → ℕ → ℕ → Result Encoded Refusal
encoding kind byte disparity =
    cond (nat_lt 1 kind) (Err (encode_refusal KindAboveOne))
    (cond (kind == 1 && not (special byte)) (Err (encode_refusal NotSpecial))
    (cond (nat_lt 1 disparity) (Err (encode_refusal DisparityAboveOne))
    (Ok (sent_as kind byte disparity))))

-- The answer is this character with this disparity after it.
abbrev pub is_encoded : Result Encoded Refusal → ℕ → ℕ → Bool
is_encoded (Ok e) character next = e.character == character && e.disparity == next
is_encoded (Err r) character next = false
