use Rattle.std.proofs.Common.{◌≡◌, length, arith}
use Rattle.line.proofs.Recordings.{length_held}
use Rattle.line.proofs.record.held.Goals as goal

pub returns-clause-count : goal.returns-clause-count
returns-clause-count c =
    let whole : length c.args.block.now ≡ 16 = c.told-block in
    omega (arith, length_held c.args.block.now whole, c.min.ensures)
