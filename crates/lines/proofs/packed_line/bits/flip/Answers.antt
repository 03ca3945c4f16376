use Rattle.std.proofs.Common.{◌-◌, ◌/◌, ◌%◌, get_or, set, ap, ◌∙◌, arith}
use lib.Bits.{bit_xor}
use Rattle.std.proofs.lemmas.Nat.{one_shl}
use Rattle.lines.specs.Packed.{byte_bits}
use Rattle.lines.proofs.PackedBits.{bit_flips}
use Rattle.lines.proofs.packed_line.bits.flip.Goals as goal

pub returns : goal.returns
returns c =
    let bytes = c.args.bytes.now in
    let place = c.args.place in
    let mask = one_shl (7 - place % 8) 8 (omega arith) in
    ap (λ m. byte_bits (set bytes (place / 8) (bit_xor (get_or bytes (place / 8) 0) m))) mask
    ∙ bit_flips bytes place c.requires
