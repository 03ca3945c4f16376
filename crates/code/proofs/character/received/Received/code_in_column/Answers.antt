use Rattle.std.proofs.Common.{Bool, ap, sym, ◌∙◌}
use Rattle.std.specs.Bool.{then_some}
use Rattle.code.specs.Disparities.{disparity_number}
use Rattle.code.proofs.Halves.{disparity_small}
use Rattle.code.proofs.Decoding.{decoded_is}
use Rattle.code.proofs.character.received.Received.code_in_column.Goals as goal

-- decoding is a test of the only code that the character can stand for
pub returns : goal.returns
returns c =
    let code = c.only_code-code.result in
    let d = c.args.disparity in
    c.then_some.ensures
    ∙ ap (λ (stands : Bool). then_some stands code) c.stands.ensures
    ∙ sym (decoded_is c.args.self.number (disparity_number d) code (disparity_small d) c.only_code-code.ensures)
