use Rattle.tidy_lists.proofs.AddedPairs.{on_ok}
use Rattle.tidy_lists.proofs.LooseLengths.{runs_among}
use Rattle.tidy_lists.proofs.loose.push_runs_among.Goals as goal

pub returns-in-Locations : goal.returns-in-Locations
returns-in-Locations c =
    on_ok c.push_runs.result (λ adds s read holds. runs_among c.args.kind c.in-Locations.is s c.args.spans.now.items c.push_runs.new.spans.items (adds s read holds)) c.push_runs.ensures
