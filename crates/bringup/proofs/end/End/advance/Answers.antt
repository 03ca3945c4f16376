use Rattle.std.proofs.Common.{◌-◌, ap, ◌∙◌}
use Rattle.bringup.specs.Bringup.{ticks}
use Rattle.bringup.proofs.Skips.{skip_ahead, tick_ahead}
use Rattle.bringup.proofs.end.End.advance.Goals as goal

pub loop-left-preserved-then-left-gt0 : goal.loop-left-preserved-then-left-gt0
loop-left-preserved-then-left-gt0 c =
    let n = c.loop-left.left in
    let k = c.calm-calm.result in
    let calm = c.calm-calm.ensures in
    ap (ticks (n - k - 1)) c.tick.ensures ∙ tick_ahead (n - k) c.skip.new.self c.if-left-gt0.true ∙ ap (ticks (n - k)) c.skip.ensures
    ∙ skip_ahead n k c.loop-left.self calm.bounded calm.detector calm.phase ∙ c.loop-left.invariant

pub loop-left-preserved : goal.loop-left-preserved
loop-left-preserved c =
    let n = c.loop-left.left in
    let k = c.calm-calm.result in
    let calm = c.calm-calm.ensures in
    ap (ticks (n - k)) c.skip.ensures ∙ skip_ahead n k c.loop-left.self calm.bounded calm.detector calm.phase ∙ c.loop-left.invariant
