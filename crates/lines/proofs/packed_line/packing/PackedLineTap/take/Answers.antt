use Rattle.std.proofs.Common.{◌*◌, ◌<◌, ◌∷◌, length, sym, ap, ◌∙◌, arith}
use Rattle.line.specs.Rings.{in_use}
use Rattle.line.proofs.Rings.{none_in_use, advanced_in_use}
use Rattle.lines.specs.Packed.{memory_bits}
use Rattle.lines.proofs.Meanings.{same_meaning}
use Rattle.lines.proofs.PackedBits.{bit_in_byte}
use Rattle.lines.proofs.PackedLines.{size_within, ring_within, same_line}
use Rattle.lines.proofs.packed_line.packing.PackedLineTap.take.Goals as goal

pub returns-in_err-place-clause-taken : goal.returns-in_err-place-clause-taken
returns-in_err-place-clause-taken c =
    let s = c.args.self.now in
    let stays = c.in_err-place.ensures in
    rw c.from_residual.ensures
    (none_in_use (memory_bits s) s.ring stays.0, ap (λ r. record { waiting = in_use (memory_bits s) r; capacity = r.size }) stays.1)

pub returns-in_err-place-clause-still : goal.returns-in_err-place-clause-still
returns-in_err-place-clause-still c =
    rw c.from_residual.ensures (same_line c.args.self.now c.advance.new.self _ (c.in_err-place.ensures).1)

pub returns-clause-taken : goal.returns-clause-taken
returns-clause-taken c =
    let s = c.args.self.now in
    let after = c.advance.new.self in
    let gone = c.in_ok-place.ensures in
    let inside : c.in_ok-place.place < 8 * length s.bytes.now = omega (arith, gone, size_within s, s.ring.first, s.ring.fits) in
    same_meaning _ _
    (advanced_in_use (memory_bits s) s.ring (ring_within s) c.in_ok-place.place after 0 gone
    ∙ ap (λ b. b ∷ in_use (memory_bits s) after) (bit_in_byte s.bytes.now c.in_ok-place.place inside ∙ sym c.bit_of_byte.ensures.value))
    (sym gone.1)
