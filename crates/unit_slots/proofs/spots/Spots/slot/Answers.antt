use Rattle.std.proofs.Common.{◌≡◌, ◌<◌, ◌+◌, rules, length, ltb, arith}
use Rattle.std.specs.Vec.{vec_len}
use Rattle.std.specs.List.Sorted.{IsNonDecreasingBy}
use Rattle.std.proofs.lemmas.List.Sorted.{IsPartitionPoint-from_clause, IsPartitionedBy-ltb}
use Rattle.slot_layout.specs.Rows.{form_of}
use Rattle.entry_arena.specs.declared.entry.Entry.{Entry}
use Rattle.unit_slots.proofs.SpotLaws.{IsFound, is_found, slot_inside, slot_summed, slot_fits, slot_row}
use Rattle.unit_slots.proofs.spots.Spots.slot.Goals as goal

found : (c : goal.After-row_known-1) → IsFound c.args.unit.now c.args.n c.partition_point-before.result
found c = is_found c.args.unit.now c.forest.result.now c.entries-entries.result.now c.head.result c.args.n c.partition_point-before.result c.forest.ensures c.entries-entries.ensures.entries c.head.ensures c.entries-entries.ensures.order c.partition_point-before.ensures.bound (λ (rise : IsNonDecreasingBy (λ (e : Entry). e.at) c.entries-entries.result.now). IsPartitionPoint-from_clause (λ (e : Entry). ltb e.at (c.head.result.at + c.args.n)) c.entries-entries.result.now c.partition_point-before.result c.partition_point-before.ensures.partitioned (IsPartitionedBy-ltb (λ (e : Entry). e.at) c.entries-entries.result.now (c.head.result.at + c.args.n) rise) (λ a r f' called. search rules))

pub index-requires : goal.index-requires
index-requires c =
    let (ops, own, spots) = c.requires.spots in
    let inside : c.index-to.result.now < length c.args.self.now.sums.items = slot_summed c.args.unit.now ops own c.args.self.now.starts.items c.args.self.now.sums.items spots c.args.n c.partition_point-before.result (found c) c.index-to.result.now c.index-to.ensures in
    let all : vec_len c.args.self.now.sums ≡ length c.args.self.now.sums.items = c.args.self.now.sums.ok.0 in
    omega (arith, inside, all)

found_again : (c : goal.After-row_known-2-1) → IsFound c.args.unit.now c.args.n c.partition_point-before.result
found_again c = is_found c.args.unit.now c.forest.result.now c.entries-entries.result.now c.head.result c.args.n c.partition_point-before.result c.forest.ensures c.entries-entries.ensures.entries c.head.ensures c.entries-entries.ensures.order c.partition_point-before.ensures.bound (λ (rise : IsNonDecreasingBy (λ (e : Entry). e.at) c.entries-entries.result.now). IsPartitionPoint-from_clause (λ (e : Entry). ltb e.at (c.head.result.at + c.args.n)) c.entries-entries.result.now c.partition_point-before.result c.partition_point-before.ensures.partitioned (IsPartitionedBy-ltb (λ (e : Entry). e.at) c.entries-entries.result.now (c.head.result.at + c.args.n) rise) (λ a r f' called. search rules))

pub overflow_sub-result : goal.overflow_sub-result
overflow_sub-result c =
    let (ops, own, spots) = c.requires.spots in
    slot_fits c.args.unit.now ops own c.args.self.now.starts.items c.args.self.now.sums.items spots c.args.n c.partition_point-before.result (found_again c) c.index-to.result.now c.index-to.ensures c.index.result.now c.index.ensures c.requires.there

pub returns-clause-row : goal.returns-clause-row
returns-clause-row c = λ ops own listed spots.
    slot_row c.args.unit.now ops own c.args.self.now.starts.items c.args.self.now.sums.items spots c.args.n c.partition_point-before.result (found_again c) c.index-to.result.now c.index-to.ensures c.index.result.now c.index.ensures c.requires.there listed (form_of c.args.kind)

pub returns-clause-inside : goal.returns-clause-inside
returns-clause-inside c = λ ops own spots.
    slot_inside c.args.unit.now ops own c.args.self.now.starts.items c.args.self.now.sums.items spots c.args.n c.partition_point-before.result (found_again c) c.index-to.result.now c.index-to.ensures
