use Rattle.std.proofs.Common.{◌≡◌, length, take, drop}
use Rattle.runs.specs.Driving.{Steps}
use Rattle.runs.proofs.driving.drive.Given as goal

-- the calls so far have their answers, and the places behind all calls stay
abbrev pub invariant-loop-i : goal.invariant-loop-i
invariant-loop-i g l =
    Steps g.D.Driven.step l.initial.driven (take l.i l.calls) (take l.i l.answers) l.driven
    × (drop (length l.calls) l.answers ≡ drop (length l.calls) l.initial.answers)
