use Rattle.entry_read.proofs.OwnerLaws.{values_belong}
use Rattle.entry_read.proofs.PlaceLaws.{units_lie as lie, only_limits_count}
use Rattle.entry_read.proofs.laws.units_lie.Goals as goal

pub returns-clause-lie : goal.returns-clause-lie
returns-clause-lie c = lie

pub returns-clause-limits : goal.returns-clause-limits
returns-clause-limits c = only_limits_count

pub returns-clause-belong : goal.returns-clause-belong
returns-clause-belong c = values_belong
