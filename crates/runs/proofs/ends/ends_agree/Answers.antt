use Rattle.std.proofs.Common.{map}
use Rattle.agreement.proofs.Calls.{fair_lines_agree}
use Rattle.runs.specs.EndRuns.{meant}
use Rattle.runs.proofs.ends.ends_agree.Goals as goal

pub returns : goal.returns
returns c = fair_lines_agree (map meant c.args._calls.now)
