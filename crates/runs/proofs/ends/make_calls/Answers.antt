use Rattle.std.proofs.Common.{sym}
use Rattle.agreement.specs.FairLine.{both_unused}
use Rattle.runs.proofs.EndRuns.{ends_driven}
use Rattle.runs.proofs.ends.make_calls.Goals as goal

pub returns : goal.returns
returns c =
    let made = c.drive.ensures in
    let driven = ends_driven both_unused (sym c.new.ensures, sym c.new-2.ensures) made.steps in
    record { ends = driven.0; answers = (driven.1, made.rest) }
