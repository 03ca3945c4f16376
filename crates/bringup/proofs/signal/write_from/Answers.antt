use Rattle.bringup.specs.Signals.{times_of}
use Rattle.bringup.proofs.Tails.{tail_written}
use Rattle.bringup.proofs.signal.write_from.Goals as goal

pub returns : goal.returns
returns c = tail_written c.args.memory.now c.args.place (times_of c.args.signal) c.write_times.new.tail c.write_times.ensures
