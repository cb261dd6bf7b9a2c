use Rattle.check_lines.proofs.Verdict.{one_verdict}
use Rattle.check_lines.proofs.one_verdict.Goals as goal

pub returns : goal.returns
returns c = one_verdict
