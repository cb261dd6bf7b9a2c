use Rattle.std.proofs.Common.{[], rules, leb}
use Rattle.std.proofs.lemmas.List.Sorted.{IsPartitionedBy-leb, IsPartitionPoint-from_clause}
use Rattle.entry_read.specs.Units.{HeadAndForest}
use Rattle.value_links.specs.Links.{held_at}
use Rattle.value_links.specs.inside.Links.{AreUnitsApart}
use Rattle.value_links.proofs.Searching.{starts_rise, last_is}
use Rattle.value_links.proofs.link.last_from.Goals as goal

pub returns-clause-last : goal.returns-clause-last
returns-clause-last c = λ (apart : AreUnitsApart c.args.units.now).
    let at = λ (u : HeadAndForest). u.head.at in
    let parted = IsPartitionPoint-from_clause (λ (u : HeadAndForest). leb u.head.at c.args.place) c.args.units.now c.partition_point.result c.partition_point.ensures.partitioned (IsPartitionedBy-leb at c.args.units.now c.args.place (starts_rise c.args.units.now apart)) (λ a r f' called. search rules) in
    last_is (λ (u : HeadAndForest). u.head.at) (held_at [] 0) c.args.units.now c.args.place c.partition_point.result c.checked_sub.result parted c.partition_point.ensures.bound c.checked_sub.ensures
