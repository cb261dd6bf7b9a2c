use Rattle.std.proofs.Common.{ltb, rules}
use Rattle.std.proofs.lemmas.List.Sorted.{IsPartitionPoint-from_clause, IsPartitionedBy-ltb}
use Rattle.entry_arena.proofs.Found.{never_falls, place_found}
use Rattle.value_links.proofs.tables.number_of.Goals as goal

pub returns : goal.returns
returns c =
    let places = c.args.places.now in
    let parted = IsPartitionedBy-ltb (λ y. y) places c.args.place (never_falls places c.requires.rising) in
    let point = IsPartitionPoint-from_clause (λ y. ltb y c.args.place) _ _ c.partition_point.ensures.partitioned parted (λ a r q k. search rules) in
    let found = place_found places c.requires.rising c.args.place c.partition_point.result c.requires.known point in
    record { inside = found.0; «is» = found.1 }
