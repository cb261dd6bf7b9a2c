use Rattle.line_step.proofs.Parts.{line_laws}
use Rattle.line_step.proofs.line_laws.Goals as goal

pub returns : goal.returns
returns c = line_laws
