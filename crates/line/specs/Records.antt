-- Records without a header. The first byte of a record counts its bits, and the others hold them, highest bit first.
use Rattle.std.specs.Prelude.{ℕ, ◌/◌, min, List, [], ◌∷◌, ◌++◌, length, take, drop, slice_index}
use Rattle.std.specs.List.{flat_map}
use Rattle.std.specs.Simd.{first_chunks}
use Rattle.code.specs.Bits.{bits_of}

-- The records of a recording, which has at most 65,536 bytes.
abbrev pub records : List ℕ → List (List ℕ)
records bytes = first_chunks 16 (min (length bytes / 16) 4096) bytes

-- The 120 places that a record has for bits.
abbrev pub bit_places : List ℕ → List ℕ
bit_places block = flat_map (bits_of 8) (drop 1 block)

-- The bits that a record holds: as many as its first byte counts.
abbrev pub held_bits : List ℕ → List ℕ
held_bits block = take (slice_index block 0) (bit_places block)

-- All bits of some records, one record after another.
abbrev pub all_bits : List (List ℕ) → List ℕ
all_bits blocks = flat_map held_bits blocks

-- The bits of some records, less those that are gone from the first.
abbrev pub bits_left : List (List ℕ) → ℕ → List ℕ
bits_left [] gone = []
bits_left (block ∷ blocks) gone = drop gone (held_bits block) ++ all_bits blocks
