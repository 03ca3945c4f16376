use Rattle.reports.proofs.QueueLaws.{none_shown}
use Rattle.reports.proofs.queue.Queue.over.Goals as goal

pub returns-clause-empty : goal.returns-clause-empty
returns-clause-empty g c = none_shown c.args.memory.now c.over-ring.result.front c.over-ring.result.count c.over-ring.ensures.count
