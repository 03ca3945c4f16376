-- The laws of a line over words, from what holds of every such line.
use Rattle.std.proofs.Common.{◌≡◌, ℕ, ◌+◌, ◌-◌, ◌*◌, ◌<◌, ◌≤◌, length, arith}
use Rattle.line.specs.Rings.{place_of}
use Rattle.line.proofs.Rings.{place_within}
use Rattle.lines.specs.Words.{word_meaning}
use Rattle.lines.specs.declared.word_line.WordLine.{WordLine}
use Rattle.lines.proofs.Characters.{length_characters}
use Rattle.lines.proofs.Meanings.{capacity_within, capacity_small}

module _ (line : WordLine) where
  pub ring_within : line.ring.size ≤ length line.words.now
  ring_within = omega (arith, line.sized, capacity_within (10 * length line.words.now))

  pub length_waiting : length (word_meaning line).waiting ≡ 10 * line.ring.count - line.gone
  length_waiting = length_characters line.words.now line.ring ring_within line.gone

  -- A place where a bit waits lies in a character that is held.
  pub waiting_held : (place : ℕ) → place < length (word_meaning line).waiting → (line.gone + place < 10 * line.ring.count) × (10 * line.ring.count ≤ 65530)
  waiting_held place h =
      (omega (arith, length_waiting), omega (arith, line.ring.fits, line.sized, capacity_small (10 * length line.words.now)))

  pub word_within : (k : ℕ) → k < line.ring.count → place_of line.ring k < length line.words.now
  word_within k h = omega (arith, place_within line.ring k (omega (arith, line.ring.fits)), ring_within)
