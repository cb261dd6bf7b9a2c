use Rattle.std.proofs.Common.{rules, ◌≡◌, ◌<◌, ◌+◌, ◌^◌, ◌∙◌, ℕ, List, length, get_or, take, sum, ap, arith}
use Rattle.std.proofs.lemmas.List.{get_or_default}
use Rattle.unit_write.specs.inside.Marks.{size_before}
use Rattle.unit_write.proofs.NumbersSet.{front_small}
use Rattle.unit_write.proofs.MarkSums.{before_is, next_entry, next_end}
use Rattle.unit_write.proofs.marks.Marks.with_sizes.Goals as goal

pub overflow_add-index_mut : goal.overflow_add-index_mut
overflow_add-index_mut c =
    let sizes : List ℕ = c.args.sizes.now in
    let counts : List ℕ = c.args.self.slots_before.items in
    let old : List ℕ = c.args.self.places.entries.items in
    let new : List ℕ = c.loop-id.places.entries.items in
    let k : ℕ = c.loop-id.id in
    let each = c.requires.sizes.each in
    let inside : k < length old = search rules in
    let long = c.loop-id.invariant.raised.count in
    let read : c.index_mut.result.now ≡ get_or old k 0 = c.index_mut.ensures.value ∙ get_or_default new k c.index_mut.result.now 0 (omega (arith, inside, long)) ∙ c.loop-id.invariant.raised.left k (omega arith) in
    let own = c.index.ensures ∙ before_is sizes counts c.sum_sizes.new.counts.items k c.index.result.now c.sum_sizes.ensures (omega (arith, inside, each)) in
    let few = front_small sizes (get_or counts k 0) c.requires.small c.requires.few in
    let small : get_or old k 0 < 2 ^ 31 = c.requires.sizes.entries_small k 0 inside in
    omega (arith, read, own, few, small)

pub loop-id-preserved : goal.loop-id-preserved
loop-id-preserved c =
    let sizes : List ℕ = c.args.sizes.now in
    let counts : List ℕ = c.args.self.slots_before.items in
    let old : List ℕ = c.args.self.places.entries.items in
    let new : List ℕ = c.loop-id.places.entries.items in
    let k : ℕ = c.loop-id.id in
    let each = c.requires.sizes.each in
    let inside : k < length old = search rules in
    let long = c.loop-id.invariant.raised.count in
    let read : c.index_mut.result.now ≡ get_or old k 0 = c.index_mut.ensures.value ∙ get_or_default new k c.index_mut.result.now 0 (omega (arith, inside, long)) ∙ c.loop-id.invariant.raised.left k (omega arith) in
    let own : c.index.result.now ≡ size_before c.args.self sizes k = c.index.ensures ∙ before_is sizes counts c.sum_sizes.new.counts.items k c.index.result.now c.sum_sizes.ensures (omega (arith, inside, each)) in
    next_entry c.args.self sizes k c.loop-id.places.start (c.index_mut.result.now + c.index.result.now) new c.loop-id.places.ends.items c.loop-id.places.end inside c.loop-id.invariant (omega (arith, read, own))

pub overflow_add-index_mut-in-loop-number : goal.overflow_add-index_mut-in-loop-number
overflow_add-index_mut-in-loop-number c =
    let sizes : List ℕ = c.args.sizes.now in
    let counts : List ℕ = c.args.self.slots_before.items in
    let entries : List ℕ = c.args.self.entries_before.items in
    let old : List ℕ = c.args.self.places.ends.items in
    let new : List ℕ = c.loop-number.places.ends.items in
    let k : ℕ = c.loop-number.number in
    let each = c.requires.sizes.each in
    let each_end = c.requires.sizes.each_end in
    let long = c.loop-number.invariant.raised.count in
    let inside : k < length old = search rules in
    let read : c.index_mut-in-loop-number.result.now ≡ get_or old k 0 = c.index_mut-in-loop-number.ensures.value ∙ get_or_default new k c.index_mut-in-loop-number.result.now 0 (omega (arith, inside, long)) ∙ c.loop-number.invariant.raised.left k (omega arith) in
    let before : c.index-in-loop-number.result.now ≡ get_or entries k 0 = c.index-in-loop-number.ensures ∙ get_or_default entries k c.index-in-loop-number.result.now 0 (omega (arith, inside, each_end)) in
    let within = c.requires.sizes.within k 0 (omega (arith, inside, each_end)) in
    let own = c.index-in-loop-number-2.ensures ∙ before_is sizes counts c.sum_sizes.new.counts.items c.index-in-loop-number.result.now c.index-in-loop-number-2.result.now c.sum_sizes.ensures (omega (arith, before, within, each)) in
    let few = front_small sizes (get_or counts c.index-in-loop-number.result.now 0) c.requires.small c.requires.few in
    let small : get_or old k 0 < 2 ^ 31 = c.requires.sizes.ends_small k 0 inside in
    omega (arith, read, own, few, small)

pub loop-number-preserved : goal.loop-number-preserved
loop-number-preserved c =
    let sizes : List ℕ = c.args.sizes.now in
    let counts : List ℕ = c.args.self.slots_before.items in
    let entries : List ℕ = c.args.self.entries_before.items in
    let old : List ℕ = c.args.self.places.ends.items in
    let new : List ℕ = c.loop-number.places.ends.items in
    let k : ℕ = c.loop-number.number in
    let each = c.requires.sizes.each in
    let each_end = c.requires.sizes.each_end in
    let long = c.loop-number.invariant.raised.count in
    let inside : k < length old = search rules in
    let read : c.index_mut-in-loop-number.result.now ≡ get_or old k 0 = c.index_mut-in-loop-number.ensures.value ∙ get_or_default new k c.index_mut-in-loop-number.result.now 0 (omega (arith, inside, long)) ∙ c.loop-number.invariant.raised.left k (omega arith) in
    let before : c.index-in-loop-number.result.now ≡ get_or entries k 0 = c.index-in-loop-number.ensures ∙ get_or_default entries k c.index-in-loop-number.result.now 0 (omega (arith, inside, each_end)) in
    let within = c.requires.sizes.within k 0 (omega (arith, inside, each_end)) in
    let own = c.index-in-loop-number-2.ensures ∙ before_is sizes counts c.sum_sizes.new.counts.items c.index-in-loop-number.result.now c.index-in-loop-number-2.result.now c.sum_sizes.ensures (omega (arith, before, within, each)) in
    let size : c.index-in-loop-number-2.result.now ≡ size_before c.args.self sizes (get_or entries k 0) = own ∙ ap (λ (n : ℕ). sum (take (get_or counts n 0) sizes)) before in
    next_end c.args.self sizes k c.loop-number.places.start (c.index_mut-in-loop-number.result.now + c.index-in-loop-number-2.result.now) c.loop-number.places.entries.items new c.loop-number.places.end inside c.loop-number.invariant (omega (arith, read, size))
