use Rattle.std.proofs.Common.{◌≡◌, ◌++◌, length, string_bytes}
use Rattle.reports.specs.Queues.{elements, memory_of}
use Rattle.listening.specs.Listening.{lines_of}
use Rattle.listening.proofs.text.tell_lines.Given as goal

-- the lines of what is still queued complete the text
abbrev pub invariant-loop-element : goal.invariant-loop-element
invariant-loop-element g l =
    (string_bytes l.text ++ lines_of g.T.Display.output (elements l.queue) ≡ string_bytes l.initial.text ++ lines_of g.T.Display.output (elements l.initial.queue))
    × (memory_of l.queue ≡ memory_of l.initial.queue)

abbrev pub decreases-loop-element : goal.decreases-loop-element
decreases-loop-element g l = length (elements l.queue)
