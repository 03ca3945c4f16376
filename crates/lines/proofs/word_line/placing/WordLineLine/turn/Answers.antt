use Rattle.std.proofs.Common.{◌≡◌, ◌+◌, ◌-◌, ◌*◌, ◌/◌, ◌%◌, ◌^◌, ◌<◌, length, get_or, set, refl, ap, ◌∙◌, arith, rules}
use lib.Bits.{bit_xor}
use Rattle.std.proofs.lemmas.List.{length-set}
use Rattle.std.proofs.lemmas.Nat.{one_shl}
use Rattle.line.specs.Writing.{line_capacity}
use Rattle.lines.specs.Words.{character_bits, with_turned, word_meaning, words_turned}
use Rattle.lines.proofs.Characters.{bit_turns}
use Rattle.lines.proofs.Meanings.{same_meaning, turn_accepted, turn_line}
use Rattle.lines.proofs.WordLines.{ring_within, waiting_held, word_within}
use Rattle.lines.proofs.word_line.placing.WordLineLine.turn.Goals as goal
use Rattle.lines.proofs.word_line.placing.WordLineLine.turn.Goals.{After-place-at}

pub overflow_add-bit : goal.overflow_add-bit
overflow_add-bit c =
    let s = c.args.self.now in
    let held = waiting_held s c.args.place (turn_accepted (word_meaning s) c.args.place c.in_ok-check_turn.ensures) in
    search rules

-- The word of the bit is one of the ring.
within : (c : After-place-at) → c.place-at.result < length c.args.self.now.words.now
within c =
    let s = c.args.self.now in
    let held = waiting_held s c.args.place (turn_accepted (word_meaning s) c.args.place c.in_ok-check_turn.ensures) in
    omega (arith, word_within s ((s.gone + c.args.place) / 10) (omega arith), c.place-at.ensures)

pub bounds-self-at : goal.bounds-self-at
bounds-self-at c = within (goal.at.bounds-self-at c).After-place-at

pub bounds-self-at-2 : goal.bounds-self-at-2
bounds-self-at-2 c = within (goal.at.bounds-self-at-2 c).After-place-at

pub returns : goal.returns
returns c =
    let s = c.args.self.now in
    let words = s.words.now in
    let p = c.args.place in
    let bit = s.gone + p in
    let at = c.place-at.result in
    let answer = c.in_ok-check_turn.ensures in
    let held = waiting_held s p (turn_accepted (word_meaning s) p answer) in
    let new = bit_xor (get_or words at 0) ((1 * 2 ^ (9 - bit % 10)) % 2 ^ 16) in
    let turned : set words at new ≡ words_turned s p =
    ap (λ m. set words at (bit_xor (get_or words at 0) m)) (one_shl (9 - bit % 10) 16 (omega arith))
    ∙ ap (λ n. set words n (with_turned (get_or words n 0) (bit % 10))) c.place-at.ensures in
    let turns = bit_turns words s.ring (ring_within s) s.gone p (bit / 10) (bit % 10) (omega arith) (omega arith) (omega arith) in
    record {
      answer = search rules;
      line =
          same_meaning _ _
          (ap (λ ws. character_bits ws s.ring s.gone) turned ∙ turns)
          (ap (λ n. line_capacity (10 * n)) (length-set words at new))
          ∙ turn_line (word_meaning s) p answer;
      still = tt;
      words = turned;
      lent = refl;
    }
