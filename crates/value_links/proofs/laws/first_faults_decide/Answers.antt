use Rattle.value_links.proofs.Validity.{first_faults}
use Rattle.value_links.proofs.laws.first_faults_decide.Goals as goal

pub returns : goal.returns
returns c = first_faults
