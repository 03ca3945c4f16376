use Rattle.std.proofs.Common.{◌≡◌, ◌/◌, ◌%◌, None, get_or, unwrap_or, ap, ◌∙◌, arith}
use Rattle.code.specs.declared.tables.TheConstants.{SET_BY_SIX, SET_BY_FOUR}
use Rattle.code.specs.Disparities.{disparity_number}
use Rattle.code.specs.Characters.{after, after_half}
use Rattle.code.proofs.Halves.{set_by_six, set_by_four}
use Rattle.code.proofs.character.received.Received.next_disparity.Goals as goal

pub returns : goal.returns
unfolding after
returns c =
    let six = c.args.self.number / 16 in
    let four = c.args.self.number % 16 in
    let middle : c.unwrap_or-middle.result ≡ unwrap_or (get_or SET_BY_SIX six None) c.args.disparity = c.unwrap_or-middle.ensures in
    let next : c.unwrap_or.result ≡ unwrap_or (get_or SET_BY_FOUR four None) c.unwrap_or-middle.result = c.unwrap_or.ensures in
    ap disparity_number next
    ∙ set_by_four four c.unwrap_or-middle.result (omega arith)
    ∙ ap (after_half 4 four) (ap disparity_number middle ∙ set_by_six six c.args.disparity (omega arith))
