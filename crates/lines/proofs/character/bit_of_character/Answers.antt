use Rattle.std.proofs.Common.{◌-◌, ◌/◌, ◌^◌, sym, ◌∙◌, arith}
use Rattle.std.proofs.lemmas.Nat.{and_mask}
use Rattle.line.proofs.BitLists.{getd_bits_of}
use Rattle.lines.proofs.character.bit_of_character.Goals as goal

pub returns : goal.returns
returns c =
    let character = c.args.character in
    let place = c.args.place in
    let bit = and_mask (character / 2 ^ (9 - place)) 1 in
    record { value = bit ∙ sym (getd_bits_of 10 place character 0 c.requires); bit = omega (arith, bit) }
