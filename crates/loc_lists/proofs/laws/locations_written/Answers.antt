use Rattle.loc_lists.proofs.LocationLaws.{written}
use Rattle.loc_lists.proofs.laws.locations_written.Goals as goal

pub returns : goal.returns
returns c = written
