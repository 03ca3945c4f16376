-- Bits of numbers, the first sent first.
use Rattle.std.specs.Prelude.{ℕ, zero, suc, ◌+◌, ◌-◌, ◌*◌, ◌/◌, ◌%◌, ◌^◌, List, [], ◌∷◌, slice_index, slice_set}

-- The n lowest bits of a number, highest first.
abbrev pub bits_of : ℕ → ℕ → List ℕ
bits_of zero x = []
bits_of (suc n) x = x / 2 ^ n % 2 ∷ bits_of n x

-- The number that bits after others make.
abbrev pub number_after : ℕ → List ℕ → ℕ
number_after high [] = high
number_after high (bit ∷ bits) = number_after (2 * high + bit) bits

abbrev pub number_of : List ℕ → ℕ
number_of bits = number_after 0 bits

-- The bits with the one at a place inverted.
abbrev pub inverted : List ℕ → ℕ → List ℕ
inverted bits place = slice_set bits place (1 - slice_index bits place)
