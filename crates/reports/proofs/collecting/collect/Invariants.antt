use Rattle.std.proofs.Common.{◌≡◌, ◌+◌, ◌-◌, length}
use Rattle.reports.specs.Queues.{room_of}
use Rattle.reports.specs.Collecting.{collected}
use Rattle.reports.proofs.Collectings.{Completes}
use Rattle.reports.proofs.collecting.collect.Given as goal

abbrev pub invariant-loop-bits : goal.invariant-loop-bits
invariant-loop-bits g l =
    (l.bits + length (g.T.Tap.meaning l.tap).waiting ≡ length (g.T.Tap.meaning l.initial.tap).waiting)
    × ((g.T.Tap.meaning l.tap).capacity ≡ (g.T.Tap.meaning l.initial.tap).capacity)
    × Completes (collected (l.most - l.bits) (room_of l.dwords) (room_of l.reports) l.receiver.state (g.T.Tap.meaning l.tap).waiting)
    (collected l.most (room_of l.initial.dwords) (room_of l.initial.reports) l.initial.receiver.state (g.T.Tap.meaning l.initial.tap).waiting)
    l.bits l.initial.dwords l.dwords l.initial.reports l.reports
