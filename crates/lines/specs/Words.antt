-- What a line means that keeps one character to a word, and what its words hold after a call.
use Rattle.std.specs.Prelude.{ℕ, ◌+◌, ◌-◌, ◌*◌, ◌/◌, ◌%◌, ◌^◌, List, length, drop, bit_xor, slice_index, slice_set}
use Rattle.std.specs.List.{flat_map}
use Rattle.code.specs.Bits.{bits_of}
use Rattle.line.specs.Rings.{place_of, in_use}
use Rattle.line.specs.Waiting.{Meaning}
use Rattle.line.specs.Writing.{line_capacity}
use Rattle.line.specs.declared.ring.Ring.{Ring}
use Rattle.lines.specs.declared.word_line.WordLine.{WordLine}

-- The bits of the characters in use, less those that are gone from the first.
unfoldable pub character_bits : List ℕ → Ring → ℕ → List ℕ
character_bits words ring gone = drop gone (flat_map (bits_of 10) (in_use words ring))

-- What the line means.
abbrev pub word_meaning : WordLine → Meaning
word_meaning line =
    record {
      waiting = character_bits line.words.now line.ring line.gone;
      capacity = line_capacity (10 * length line.words.now);
    }

-- The words with a character in the place behind the last.
abbrev pub words_put : WordLine → ℕ → List ℕ
words_put line character = slice_set line.words.now (place_of line.ring line.ring.count) character

-- A word with one bit of its character inverted; bit 0 is the first sent.
abbrev pub with_turned : ℕ → ℕ → ℕ
with_turned word bit = bit_xor word (2 ^ (9 - bit))

-- The words with bit number n inverted, counted from the first bit of the character at the front.
abbrev pub words_turned_at : WordLine → ℕ → List ℕ
words_turned_at line n =
    let place = place_of line.ring (n / 10) in
    slice_set line.words.now place (with_turned (slice_index line.words.now place) (n % 10))

-- The words with the bit that waits at a place inverted.
abbrev pub words_turned : WordLine → ℕ → List ℕ
words_turned line place = words_turned_at line (line.gone + place)
