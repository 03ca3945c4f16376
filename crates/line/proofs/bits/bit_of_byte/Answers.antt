use Rattle.std.proofs.Common.{◌-◌, ◌/◌, ◌%◌, ◌^◌, arith}
use Rattle.std.proofs.lemmas.Nat.{and_mask}
use Rattle.line.proofs.bits.bit_of_byte.Goals as goal

pub returns : goal.returns
returns c =
    let value = and_mask (c.args.byte / 2 ^ (7 - c.args.place % 8)) 1 in
    record { value = value; bit = omega (arith, value) }
