use Rattle.std.proofs.Common.{rules, leb, List, ℕ, arith}
use Rattle.std.proofs.lemmas.List.Sorted.{IsPartitionedBy-leb, IsPartitionPoint-from_clause}
use Rattle.list_model.specs.declared.contribution.Contribution.{Contribution}
use Rattle.list_model.specs.Contributions.{ContributionsTile}
use Rattle.value_links.proofs.Searching.{places_rise, last_is}
use Rattle.value_links.proofs.PartPlaces.{no_part, start_of, parts_rise}
use Rattle.value_links.proofs.list_places.last_part.Goals as goal

pub returns-clause-last : goal.returns-clause-last
returns-clause-last c = λ (section : List ℕ) (tiled : ContributionsTile section c.args.parts.now).
    let parts = c.args.parts.now in
    let rise = places_rise start_of no_part parts (λ i j less inside. let later = parts_rise section parts tiled i j less inside in omega arith) in
    let parted = IsPartitionPoint-from_clause (λ (p : Contribution). leb p.at c.args.place) parts c.partition_point.result c.partition_point.ensures.partitioned (IsPartitionedBy-leb start_of parts c.args.place rise) (λ a r f' called. search rules) in
    last_is start_of no_part parts c.args.place c.partition_point.result c.checked_sub.result parted c.partition_point.ensures.bound c.checked_sub.ensures
