use Rattle.reports.proofs.QueueLaws.{popped, none_popped}
use Rattle.reports.proofs.queue.Queue.pop.Goals as goal

pub returns-in_err-place : goal.returns-in_err-place
returns-in_err-place g c = none_popped c.args.self.now c.from_residual.result c.advance.new.self _ c.from_residual.ensures c.in_err-place.ensures.0 c.in_err-place.ensures.1

pub returns : goal.returns
returns g c = popped c.args.self.now c.advance.new.self c.in_ok-place.place c.element_at.result c.in_ok-place.ensures (c.element_at.ensures c.element_at.result)
