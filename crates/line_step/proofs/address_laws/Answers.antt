use Rattle.line_step.proofs.Forms.{address_laws, distance_laws}
use Rattle.line_step.proofs.address_laws.Goals as goal

pub returns-clause-costs : goal.returns-clause-costs
returns-clause-costs c = address_laws

pub returns-clause-distances : goal.returns-clause-distances
returns-clause-distances c = distance_laws
