use Rattle.tidy_lists.proofs.PairWorlds.{location_runs}
use Rattle.tidy_lists.proofs.elsewhere.followers_of_kind.Goals as goal

pub returns-in-Locations : goal.returns-in-Locations
returns-in-Locations c = location_runs c.args.before.now c.args.after.now c.args.kind c.in-Locations.is (λ v. v.items) c.followers_of_runs.result c.followers_of_runs.ensures
