use Rattle.std.proofs.Common.{List, length, sym, subst}
use Rattle.value_links.specs.Reading.{lists_of}
use Rattle.tidy_lists.specs.declared.due.Place.{Place}
use Rattle.tidy_lists.specs.declared.followers.Follower.{Follower}
use Rattle.tidy_lists.specs.inside.Compared.{OfBoth}
use Rattle.tidy_lists.specs.inside.DuePlaces.{AreListsDue, AreKindRunPairs}
use Rattle.tidy_lists.proofs.PairWorlds.{least_elsewhere}
use Rattle.tidy_lists.proofs.elsewhere.first_elsewhere.Goals as goal

pub first_list_elsewhere-requires-clause-due : goal.first_list_elsewhere-requires-clause-due
first_list_elsewhere-requires-clause-due c =
    subst (λ (z : List Place). OfBoth c.args.before.now c.args.after.now (λ r s. AreListsDue c.args.kind r s (length (lists_of r c.args.kind)) z)) (sym c.deref-4.ensures.value) c.in_ok-due.ensures.lists

pub first_run_elsewhere-requires-clause-pairs : goal.first_run_elsewhere-requires-clause-pairs
first_run_elsewhere-requires-clause-pairs c =
    subst (λ (z : List Follower). OfBoth c.args.before.now c.args.after.now (λ r s. AreKindRunPairs c.args.kind r s z)) (sym c.deref-5.ensures.value) c.in_ok-runs.ensures

pub returns : goal.returns
returns c =
    least_elsewhere c.args.before.now c.args.after.now c.requires.before c.requires.after c.args.kind c.in_ok-list_place.list_place c.in_ok-run_place.run_place c.lesser.result c.lesser.ensures c.in_ok-list_place.ensures c.in_ok-run_place.ensures
