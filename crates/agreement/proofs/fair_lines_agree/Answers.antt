use Rattle.agreement.proofs.Calls.{fair_lines_agree}
use Rattle.agreement.proofs.fair_lines_agree.Goals as goal

pub returns : goal.returns
returns c = fair_lines_agree
