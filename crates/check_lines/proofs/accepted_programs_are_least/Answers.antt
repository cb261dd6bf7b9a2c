use Rattle.check_lines.proofs.Least.{accepted_are_least, accepted_take_fewest}
use Rattle.check_lines.proofs.accepted_programs_are_least.Goals as goal

pub returns-clause-fewest : goal.returns-clause-fewest
returns-clause-fewest c = accepted_take_fewest

pub returns-clause-least : goal.returns-clause-least
returns-clause-least c = accepted_are_least
