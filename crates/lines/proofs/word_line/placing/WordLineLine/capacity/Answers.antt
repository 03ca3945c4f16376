use Rattle.std.proofs.Common.{arith}
use Rattle.lines.proofs.WordLines.{length_waiting}
use Rattle.lines.proofs.word_line.placing.WordLineLine.capacity.Goals as goal

pub returns-clause-within : goal.returns-clause-within
returns-clause-within c =
    let s = c.args.self.now in
    omega (arith, length_waiting s, s.ring.fits, c.size.ensures)
