use Rattle.std.proofs.Common.{arith}
use Rattle.lines.proofs.WordLines.{length_waiting}
use Rattle.lines.proofs.word_line.placing.WordLineTap.count.Goals as goal

pub returns : goal.returns
returns c = omega (arith, length_waiting c.args.self.now, c.count.ensures)
