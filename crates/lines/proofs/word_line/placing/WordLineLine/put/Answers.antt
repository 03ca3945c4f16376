use Rattle.std.proofs.Common.{◌*◌, ap, ◌∙◌, arith}
use Rattle.std.proofs.lemmas.List.{length-set}
use Rattle.line.specs.Writing.{line_capacity}
use Rattle.lines.specs.Words.{word_meaning}
use Rattle.lines.proofs.Characters.{character_joins}
use Rattle.lines.proofs.Meanings.{same_meaning, put_accepted, put_line}
use Rattle.lines.proofs.WordLines.{ring_within, length_waiting}
use Rattle.lines.proofs.word_line.placing.WordLineLine.put.Goals as goal
use Rattle.lines.proofs.word_line.placing.WordLineLine.put.Goals.{In_default}

pub returns-in-Some-clause-line : goal.returns-in-Some-clause-line
returns-in-Some-clause-line c =
    let s = c.args.self.now in
    let words = s.words.now in
    let joins = character_joins words s.ring (ring_within s) c.in-Some.place c.grow.new.self s.gone c.args.character (omega (arith, s.begun)) c.in-Some.ensures in
    same_meaning _ _ joins (ap (λ n. line_capacity (10 * n)) (length-set words c.in-Some.place c.args.character))
    ∙ put_line (word_meaning s) c.args.character c.in_ok-check_put.ensures

-- A full ring has no room for a character.
full : (c : In_default) → ⊥
full c =
    let s = c.args.self.now in
    let room = put_accepted (word_meaning s) c.args.character c.in_ok-check_put.ensures in
    omega (arith, room.1, length_waiting s, s.sized, s.begun, c.in_default.ensures)

pub returns-in_default-clause-line : goal.returns-in_default-clause-line
returns-in_default-clause-line c = absurd (full c)

pub returns-in_default-clause-words : goal.returns-in_default-clause-words
returns-in_default-clause-words c = absurd (full c)
