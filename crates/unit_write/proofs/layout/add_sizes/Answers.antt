use Rattle.std.proofs.Common.{rules, ◌≡◌, ◌≤◌, ◌<◌, ◌+◌, ◌-◌, ◌^◌, ◌∙◌, ℕ, List, length, set, get_or, sym, subst, arith}
use Rattle.std.proofs.lemmas.List.{get_or_default}
use Rattle.slot_layout.specs.Rows.{most_slots}
use Rattle.unit_write.proofs.SlotLists.{part_few}
use Rattle.unit_write.proofs.SlotLens.{AreSizesAdded, sizes_sum, more_added}
use Rattle.unit_write.proofs.layout.add_sizes.Goals as goal

pub overflow_add-index_mut : goal.overflow_add-index_mut
overflow_add-index_mut c =
    let fixed : List ℕ = c.args.lens.now.items in
    let sizes : List ℕ = c.args.sizes.now in
    let lens : List ℕ = c.loop-number.lens.items in
    let k : ℕ = c.loop-number.number in
    let inside : k < length fixed = search rules in
    let count = c.loop-number.invariant.count in
    let read : c.index_mut.result.now ≡ get_or lens k 0 = c.index_mut.ensures.value ∙ get_or_default lens k c.index_mut.result.now 0 (omega (arith, inside, count)) in
    let left = c.loop-number.invariant.left k (omega arith) in
    let small : get_or fixed k 0 < 2 ^ 31 = c.requires.room k 0 inside in
    let own = c.total_of.ensures in
    let part = part_few sizes c.loop-number.slot (c.loop-number.slot + get_or c.args.slots.now k 0 - c.loop-number.slot) in
    let few = sizes_sum sizes c.requires.small in
    let room : length sizes ≤ most_slots = c.requires.few in
    omega (arith, read, left, small, own, part, few, room)

pub loop-number-preserved : goal.loop-number-preserved
loop-number-preserved c =
    let fixed : List ℕ = c.args.lens.now.items in
    let lens : List ℕ = c.loop-number.lens.items in
    let k : ℕ = c.loop-number.number in
    let inside : k < length fixed = search rules in
    let count = c.loop-number.invariant.count in
    let read : c.index_mut.result.now ≡ get_or lens k 0 = c.index_mut.ensures.value ∙ get_or_default lens k c.index_mut.result.now 0 (omega (arith, inside, count)) in
    let more = more_added fixed c.args.slots.now c.args.sizes.now k c.loop-number.slot c.total_of.result lens inside c.loop-number.invariant c.total_of.ensures in
    subst (λ (n : ℕ). AreSizesAdded fixed c.args.slots.now c.args.sizes.now (k + 1) (c.loop-number.slot + get_or c.args.slots.now k 0) (set lens k (n + c.total_of.result))) (sym read) more
