use Rattle.same_meaning.proofs.SameFiles.{same_without_reason}
use Rattle.same_meaning.proofs.laws.reasons_decide.Goals as goal

pub returns : goal.returns
returns c = same_without_reason
