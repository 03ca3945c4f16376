use Rattle.std.proofs.Common.{◌≡◌, ◌+◌, ◌*◌, ◌/◌, ◌<◌, get_or, Fits, w8, arith}
use Rattle.std.proofs.lemmas.Bool.Decides.{nat_tests}
use Rattle.code.specs.declared.tables.TheConstants.{LOW_OF_SIX, HIGH_OF_FOUR}
use Rattle.code.specs.Kinds.{kind_number}
use Rattle.code.proofs.Computed.{small_entry}
use Rattle.code.proofs.Codes.{kind_of, four_of, only_code}
use Rattle.code.proofs.character.received.Received.only_code.Goals as goal

pub overflow_add-result : goal.overflow_add-result
overflow_add-result c =
    let four = c.match-six-div16.kind.1 in
    let six = c.args.self.number / 16 in
    let nibble : four < 16 = grind (arith, nat_tests) in
    let fits : Fits w8 (get_or HIGH_OF_FOUR four 0 * 32 + get_or LOW_OF_SIX six 0) =
    omega (arith, small_entry 8 HIGH_OF_FOUR tt four nibble, small_entry 32 LOW_OF_SIX tt six (omega arith)) in
    fits

pub returns : goal.returns
returns c =
    let kind : kind_number c.match-six-div16.kind.0 ≡ kind_of c.args.self.number = grind (arith, nat_tests) in
    let four : c.match-six-div16.kind.1 ≡ four_of c.args.self.number = grind (arith, nat_tests) in
    only_code c.args.self.number c.match-six-div16.kind.0 _ kind (cc four)
