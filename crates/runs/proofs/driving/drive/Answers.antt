use Rattle.std.proofs.Common.{◌≡◌, ◌<◌, length, arith, refl}
use Rattle.std.proofs.lemmas.List.{take_all, drop-set-lt}
use Rattle.runs.specs.Driving.{done}
use Rattle.runs.proofs.Steps.{steps_on}
use Rattle.runs.proofs.driving.drive.Goals as goal

pub loop-i-init : goal.loop-i-init
loop-i-init g c = (done, refl)

pub loop-i-preserved : goal.loop-i-preserved
loop-i-preserved g c =
    let l = c.loop-i in
    let lt : l.i < length c.args.calls.now = c.loop-i-test.true in
    let room : l.i < length l.answers = omega arith in
    (steps_on g.D.Driven.step _ l.driven _ _ l.answers l.i _ _ lt room c.index-calls-i.is l.invariant.0 c.call.ensures, rw drop-set-lt l.invariant.1)

pub returns-clause-steps : goal.returns-clause-steps
returns-clause-steps g c =
    let all = c.loop-i-test.false in
    let n : length c.args.calls.now ≡ c.loop-i.i = omega arith in
    rw n (rw (take_all c.loop-i.i c.args.calls.now all) at c.loop-i.invariant.0)
