use Rattle.std.proofs.Common.{◌≡◌, ◌-◌, get_or, set, sym, ap, ◌∙◌, arith}
use Rattle.std.proofs.lemmas.List.{set-get_or}
use Rattle.lines.specs.Packed.{byte_bits}
use Rattle.lines.proofs.PackedBits.{bit_in_byte}
use Rattle.lines.proofs.packed_line.bits.set_bit.Goals as goal

pub returns-then-bit_of_byte-bit : goal.returns-then-bit_of_byte-bit
returns-then-bit_of_byte-bit c =
    let bits = byte_bits c.args.bytes.now in
    let old = bit_in_byte c.args.bytes.now c.args.place c.requires.0 in
    let other : 1 - get_or bits c.args.place 0 ≡ c.args.bit = omega (arith, c.bit_of_byte.ensures, c.requires.1) in
    c.flip.ensures ∙ ap (set bits c.args.place) other

-- The bit stands there already.
pub returns-else-bit_of_byte-bit : goal.returns-else-bit_of_byte-bit
returns-else-bit_of_byte-bit c =
    let bits = byte_bits c.args.bytes.now in
    let old = bit_in_byte c.args.bytes.now c.args.place c.requires.0 in
    let same : get_or bits c.args.place 0 ≡ c.args.bit = omega (arith, c.bit_of_byte.ensures) in
    sym (ap (set bits c.args.place) (sym same) ∙ set-get_or bits c.args.place 0)
