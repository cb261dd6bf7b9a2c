use Rattle.std.proofs.Common.{◌≡◌, ◌≤◌, ◌<◌, ◌+◌, ◌^◌, ◌∙◌, ℕ, List, length, take, drop, sum, ap, refl, arith}
use Rattle.entry_arena.specs.declared.entry.Entry.{Entry}
use Rattle.entry_arena.specs.Arena.{Arena, entry_at}
use Rattle.unit_write.proofs.SlotLists.{part_few}
use Rattle.unit_write.proofs.SlotCounts.{none_summed, next_few, next_summed, all_summed}
use Rattle.unit_write.proofs.marks.slots_before_entries.Goals as goal

pub loop-entry-init : goal.loop-entry-init
loop-entry-init c = none_summed c.args.forest.now c.args.slots.now c.new-counts.result.items c.new-counts.ensures.items

pub sum_of-count-requires : goal.sum_of-count-requires
sum_of-count-requires c =
    let slots : List ℕ = c.args.slots.now in
    let e : Entry = entry_at c.entries-entry-items.result.now c.loop-entry.entry-index in
    let own : sum c.part.result.now ≡ sum (take e.count (drop e.first slots)) = ap sum c.part.ensures in
    let few : sum (take e.first slots) + sum (take e.count (drop e.first slots)) ≤ sum slots = part_few slots e.first e.count in
    let room : sum slots < 2 ^ 32 = c.requires in
    omega arith

pub overflow_add-count : goal.overflow_add-count
overflow_add-count c =
    let f : Arena = c.args.forest.now in
    let slots : List ℕ = c.args.slots.now in
    let id : ℕ = c.loop-entry.entry-index in
    let lent : length c.entries-entry-items.result.now ≡ length f.entries = ap length c.entries-entry-items.ensures.entries in
    let own : c.sum_of-count.result ≡ sum (take (entry_at f.entries id).count (drop (entry_at f.entries id).first slots)) = c.sum_of-count.ensures ∙ ap sum c.part.ensures ∙ ap (λ (z : List Entry). sum (take (entry_at z id).count (drop (entry_at z id).first slots))) c.entries-entry-items.ensures.entries in
    let few : c.loop-entry.count + c.sum_of-count.result ≤ sum slots = next_few f slots c.loop-entry.counts.items id c.loop-entry.count c.loop-entry.invariant c.entries-entry-items.ensures.order.valued (omega (arith, lent, c.loop-entry-test.true)) c.sum_of-count.result own in
    let room : sum slots < 2 ^ 32 = c.requires in
    omega arith

pub loop-entry-preserved : goal.loop-entry-preserved
loop-entry-preserved c =
    let f : Arena = c.args.forest.now in
    let slots : List ℕ = c.args.slots.now in
    let id : ℕ = c.loop-entry.entry-index in
    let lent : length c.entries-entry-items.result.now ≡ length f.entries = ap length c.entries-entry-items.ensures.entries in
    let own : c.sum_of-count.result ≡ sum (take (entry_at f.entries id).count (drop (entry_at f.entries id).first slots)) = c.sum_of-count.ensures ∙ ap sum c.part.ensures ∙ ap (λ (z : List Entry). sum (take (entry_at z id).count (drop (entry_at z id).first slots))) c.entries-entry-items.ensures.entries in
    next_summed f slots c.loop-entry.counts.items id c.loop-entry.count c.loop-entry.invariant c.entries-entry-items.ensures.order.valued (omega (arith, lent, c.loop-entry-test.true)) c.sum_of-count.result own _ c.push.new.self.items c.in_ok-push.ensures.items refl

pub returns : goal.returns
returns c =
    let lent : length c.entries-entry-items.result.now ≡ length c.args.forest.now.entries = ap length c.entries-entry-items.ensures.entries in
    all_summed c.args.forest.now c.args.slots.now c.loop-entry.counts.items c.loop-entry.entry-index c.loop-entry.count c.loop-entry.invariant c.entries-entry-items.ensures.order.valued
    (omega (arith, lent, c.loop-entry-test.false))
    c.push-2.new.self.items c.in_ok-push-2.ensures.items
