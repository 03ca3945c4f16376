use Rattle.std.proofs.Common.{refl}
use Rattle.reports.proofs.QueueLaws.{appended, same_queue}
use Rattle.reports.proofs.queue.Queue.push.Goals as goal

pub returns-in_default-clause-queue : goal.returns-in_default-clause-queue
returns-in_default-clause-queue g c = (refl, same_queue c.args.self.now c.grow.new.self _ c.in_default.ensures.1)

pub returns-clause-queue : goal.returns-clause-queue
returns-clause-queue g c = appended c.args.self.now _ c.in-Some.place c.args.element c.in-Some.ensures c.store.ensures
