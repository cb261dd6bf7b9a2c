use Rattle.line_step.proofs.Costs.{cost_formulas}
use Rattle.line_step.proofs.cost_formulas.Goals as goal

pub returns : goal.returns
returns c = cost_formulas
