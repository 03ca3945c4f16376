-- What a line means that packs its bits in bytes, and what its bytes hold after a call.
use Rattle.std.specs.Prelude.{◌≡◌, ℕ, ◌+◌, List, [], ◌∷◌, ◌++◌, length, slice_set}
use Rattle.std.specs.List.{flat_map}
use Rattle.code.specs.Bits.{bits_of, inverted}
use Rattle.line.specs.Rings.{place_of, in_use}
use Rattle.line.specs.Waiting.{Meaning}
use Rattle.line.specs.Writing.{accepted}
use Rattle.line.specs.declared.ring.Ring.{Ring}
use Rattle.lines.specs.declared.packed_line.PackedLine.{PackedLine}

-- All bits of some bytes, the highest of each first.
unfoldable pub byte_bits : List ℕ → List ℕ
byte_bits bytes = flat_map (bits_of 8) bytes

-- What the line means: the bits in use wait.
abbrev pub packed_meaning : PackedLine → Meaning
packed_meaning line =
    record {
      waiting = in_use (byte_bits line.bytes.now) line.ring;
      capacity = line.ring.size;
    }

-- All bits of the line's memory.
abbrev pub memory_bits : PackedLine → List ℕ
memory_bits line = byte_bits line.bytes.now

-- The memory with bits written over it from place k of the ring on.
unfoldable pub overwritten : Ring → ℕ → List ℕ → List ℕ → List ℕ
overwritten ring k [] memory = memory
overwritten ring k (bit ∷ bits) memory = overwritten ring (k + 1) bits (slice_set memory (place_of ring k) bit)

-- Bits joined those that wait behind the last: what the line means then, and what its memory holds.
pub record Appended (before : PackedLine) (bits : List ℕ) (after : PackedLine) : Type 0 where
  pub line : packed_meaning after ≡ (accepted ((packed_meaning before).waiting ++ bits) (packed_meaning before)).line
  pub memory : memory_bits after ≡ overwritten before.ring before.ring.count bits (memory_bits before)
  pub front : after.ring.front ≡ before.ring.front
  pub count : after.ring.count ≡ before.ring.count + length bits
  pub lent : after.bytes.ghost_name ≡ before.bytes.ghost_name

-- The memory with the bits of a character behind the last that waits.
abbrev pub bits_put : PackedLine → ℕ → List ℕ
bits_put line character = overwritten line.ring line.ring.count (bits_of 10 character) (memory_bits line)

-- The memory with the bit that waits at a place inverted.
abbrev pub bits_turned : PackedLine → ℕ → List ℕ
bits_turned line place = inverted (memory_bits line) (place_of line.ring place)
