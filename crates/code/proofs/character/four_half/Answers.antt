use Rattle.std.proofs.Common.{◌≡◌, ℕ, cond, eqb, subst, arith}
use Rattle.std.proofs.lemmas.Bool.Decides.{nat_tests}
use Rattle.code.specs.declared.tables.TheConstants.{ALTERNATE_SEVEN}
use Rattle.code.specs.Disparities.{disparity_number}
use Rattle.code.specs.Halves.{IsHalf}
use Rattle.code.specs.Characters.{four_after, four_of}
use Rattle.code.proofs.Halves.{alternate_is_half, four_in_table}
use Rattle.code.proofs.character.four_half.Goals as goal

pub returns-then-is_alternate : goal.returns-then-is_alternate
unfolding four_after
returns-then-is_alternate c =
    let d = disparity_number c.args.disparity in
    let written : cond (eqb d 0) 0b0111 0b1000 ≡ four_after c.args.low c.args.high d = grind (arith, nat_tests) in
    subst (λ (n : ℕ). IsHalf 4 ALTERNATE_SEVEN n d) written (alternate_is_half c.args.disparity)

pub returns-else-is_alternate : goal.returns-else-is_alternate
unfolding four_after
returns-else-is_alternate c =
    let d = disparity_number c.args.disparity in
    let written : four_of c.args.high d ≡ four_after c.args.low c.args.high d = grind (arith, nat_tests) in
    rw (← written) (four_in_table c.args.high c.args.disparity c.requires)
