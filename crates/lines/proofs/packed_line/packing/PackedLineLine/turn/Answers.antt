use Rattle.std.proofs.Common.{◌-◌, ◌<◌, get_or, set, sym, refl, ap, ◌∙◌, arith}
use Rattle.code.specs.Bits.{inverted}
use Rattle.line.specs.Rings.{in_use, place_of}
use Rattle.line.proofs.Rings.{place_within, get_in_use, set_in_use}
use Rattle.lines.specs.Packed.{memory_bits, packed_meaning}
use Rattle.lines.proofs.Meanings.{same_meaning, turn_accepted, turn_line}
use Rattle.lines.proofs.PackedLines.{size_within, ring_within, length_waiting}
use Rattle.lines.proofs.packed_line.packing.PackedLineLine.turn.Goals as goal

pub flip-requires : goal.flip-requires
flip-requires c =
    let s = c.args.self.now in
    let waits = turn_accepted (packed_meaning s) c.args.place (c.in_ok-check_turn.ensures) in
    omega (arith, place_within s.ring c.args.place (omega (arith, length_waiting s, s.ring.fits)), size_within s, c.place-place.ensures)

pub returns-clause-line : goal.returns-clause-line
returns-clause-line c =
    let s = c.args.self.now in
    let p = c.args.place in
    let bits = memory_bits s in
    let answer = c.in_ok-check_turn.ensures in
    let waits : p < s.ring.count = omega (arith, turn_accepted (packed_meaning s) p answer, length_waiting s) in
    let written = c.flip.ensures ∙ ap (inverted bits) c.place-place.ensures in
    let turns = set_in_use bits s.ring (ring_within s) p (1 - get_or bits (place_of s.ring p) 0) waits in
    let old = get_in_use bits s.ring (ring_within s) p 0 waits in
    same_meaning _ _
    (ap (λ ys. in_use ys s.ring) written ∙ (turns ∙ ap (λ b. set (in_use bits s.ring) p (1 - b)) (sym old)))
    refl
    ∙ turn_line (packed_meaning s) p answer
