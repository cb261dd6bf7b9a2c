use Rattle.check_units.proofs.Lowest.{accepted_lowest, accepted_least}
use Rattle.check_units.proofs.Tightness.{accepted_tight}
use Rattle.check_units.proofs.accepted_layouts_are_least.Goals as goal

pub returns-clause-lowest : goal.returns-clause-lowest
returns-clause-lowest c = accepted_lowest c.least_lens.ensures.u

pub returns-clause-least : goal.returns-clause-least
returns-clause-least c = accepted_least c.least_lens.ensures.u

pub returns-clause-tight : goal.returns-clause-tight
returns-clause-tight c = accepted_tight c.least_lens.ensures.u
