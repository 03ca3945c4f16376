use Rattle.std.proofs.Common.{◌≡◌, ◌+◌, ◌≤◌, [], ◌++◌, length, string_bytes}
use Rattle.reports.specs.Queues.{elements, memory_of}
use Rattle.listening.specs.Listening.{told, taken}
use Rattle.listening.proofs.text.tell_all.Given as goal

-- whatever is told from here on completes the whole, and the queues are empty
abbrev pub invariant-hearing : goal.invariant-hearing
invariant-hearing g l =
    (length (g.T.Tap.meaning l.initial.tap).waiting + taken l.receiver.state (g.T.Tap.meaning l.tap).waiting ≡ length (g.T.Tap.meaning l.tap).waiting + taken l.initial.receiver.state (g.T.Tap.meaning l.initial.tap).waiting)
    × (string_bytes l.text ++ told l.receiver.state (g.T.Tap.meaning l.tap).waiting ≡ string_bytes l.initial.text ++ told l.initial.receiver.state (g.T.Tap.meaning l.initial.tap).waiting)
    × (length (g.T.Tap.meaning l.tap).waiting ≤ length (g.T.Tap.meaning l.initial.tap).waiting)
    × ((elements l.dwords ≡ []) × (length (memory_of l.dwords) ≡ 1))
    × ((elements l.reports ≡ []) × (length (memory_of l.reports) ≡ 3))

abbrev pub decreases-hearing : goal.decreases-hearing
decreases-hearing g l = length (g.T.Tap.meaning l.tap).waiting
