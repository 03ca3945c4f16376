use Rattle.std.proofs.Common.{get_or, sym, refl, ap, ◌∙◌, arith}
use Rattle.code.specs.Bits.{bits_of}
use Rattle.line.specs.Waiting.{with_first}
use Rattle.line.proofs.Rings.{first_none, first_some}
use Rattle.lines.specs.Words.{word_meaning}
use Rattle.lines.proofs.Characters.{no_characters, bit_leaves}
use Rattle.lines.proofs.WordLines.{ring_within}
use Rattle.lines.proofs.word_line.placing.WordLineTap.take.Goals as goal

pub returns-in_err-place-clause-taken : goal.returns-in_err-place-clause-taken
returns-in_err-place-clause-taken c =
    let s = c.args.self.now in
    let none = first_none s.ring c.in_err-place.ensures in
    rw c.from_residual.ensures (no_characters s.words.now s.ring s.gone none (omega (arith, s.begun)), refl)

pub returns-clause-taken : goal.returns-clause-taken
returns-clause-taken c =
    let s = c.args.self.now in
    let words = s.words.now in
    let some = first_some s.ring c.in_ok-place.place c.in_ok-place.ensures in
    let leaves = bit_leaves words s.ring (ring_within s) s.gone some.0 s.partial in
    let first = ap (λ bits. get_or bits 0 0) leaves in
    let bit = c.bit_of_character-bit.ensures.value ∙ ap (λ n. get_or (bits_of 10 (get_or words n 0)) s.gone 0) some.1 in
    c.let_go.ensures.line ∙ ap (λ b. with_first b (word_meaning c.let_go.new.self)) (first ∙ sym bit)
