use Rattle.std.proofs.Common.{◌≡◌, leb, rules}
use Rattle.std.proofs.lemmas.List.Sorted.{IsPartitionedBy-leb, IsPartitionPoint-from_clause}
use Rattle.entry_arena.specs.declared.entry.Entry.{Entry}
use Rattle.value_links.proofs.Owning.{firsts_rise, some_before, owner_is}
use Rattle.value_links.proofs.owners.owner_of.Goals as goal

pub overflow_sub-result : goal.overflow_sub-result
overflow_sub-result c =
    let (ds, owned) = c.requires.owned in
    let entries : c.entries.result.now ≡ c.args.forest.now.entries = c.entries.ensures.entries in
    let first = λ (e : Entry). e.first in
    let parted = IsPartitionPoint-from_clause (λ (e : Entry). leb e.first c.args.value) c.entries.result.now c.partition_point-after.result c.partition_point-after.ensures.partitioned (IsPartitionedBy-leb first c.entries.result.now c.args.value (rw entries (firsts_rise ds c.args.forest.now owned))) (λ a r f' called. search rules) in
    some_before ds c.args.forest.now owned c.args.value c.partition_point-after.result c.requires.value (rw entries at parted) (rw entries at c.partition_point-after.ensures.bound)

pub returns : goal.returns
returns c =
    let (ds, owned) = c.requires.owned in
    let entries : c.entries.result.now ≡ c.args.forest.now.entries = c.entries.ensures.entries in
    let first = λ (e : Entry). e.first in
    let parted = IsPartitionPoint-from_clause (λ (e : Entry). leb e.first c.args.value) c.entries.result.now c.partition_point-after.result c.partition_point-after.ensures.partitioned (IsPartitionedBy-leb first c.entries.result.now c.args.value (rw entries (firsts_rise ds c.args.forest.now owned))) (λ a r f' called. search rules) in
    owner_is ds c.args.forest.now owned c.args.value c.partition_point-after.result c.requires.value (rw entries at parted) (rw entries at c.partition_point-after.ensures.bound)
