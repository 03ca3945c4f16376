use Rattle.std.proofs.Common.{◌≡◌}
use Rattle.bringup.specs.Bringup.{ticks}
use Rattle.bringup.proofs.end.End.advance.Given as goal

abbrev pub invariant-loop-left : goal.invariant-loop-left
invariant-loop-left l = ticks l.left l.self ≡ ticks l.count l.initial.self

abbrev pub decreases-loop-left : goal.decreases-loop-left
decreases-loop-left l = l.left
