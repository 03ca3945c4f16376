use Rattle.std.proofs.Common.{◌≡◌, ℕ, sym, ◌∙◌, ap₂, arith}
use Rattle.std.proofs.lemmas.Bool.Decides.{nat_tests}
use Rattle.code.specs.Disparities.{disparity_number}
use Rattle.code.specs.Characters.{special_character}
use Rattle.code.proofs.Halves.{special_turns}
use Rattle.code.proofs.character.special_character.Goals as goal

pub returns : goal.returns
unfolding special_character
returns c =
    let d = disparity_number c.args.disparity in
    let character : c.match-disparity.character ≡ special_character c.args.byte d = grind (arith, nat_tests) in
    let next = c.into.ensures ∙ c.other.ensures ∙ sym (special_turns c.args.byte c.args.disparity) in
    ap₂ (λ (x n : ℕ). record { character = x; disparity = n }) character next
