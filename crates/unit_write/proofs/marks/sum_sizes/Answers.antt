use Rattle.std.proofs.Common.{rules, ◌≡◌, ◌≤◌, ◌<◌, ◌+◌, ◌*◌, ◌∙◌, ℕ, List, length, set, get_or, sum, slice_range, sym, ap, subst, arith}
use Rattle.std.proofs.lemmas.List.{get_or_default}
use Rattle.slot_layout.specs.Rows.{most_slots}
use Rattle.unit_write.proofs.NumbersSet.{AreCountsSummed, total_small, more_summed, counts_summed}
use Rattle.unit_write.proofs.marks.sum_sizes.Goals as goal

pub overflow_add-sum : goal.overflow_add-sum
overflow_add-sum c =
    let counts : List ℕ = c.args.counts.now.items in
    let sizes : List ℕ = c.args.sizes.now in
    let new : List ℕ = c.loop-number.counts.items in
    let k : ℕ = c.loop-number.number in
    let inside : k < length counts = search rules in
    let long = c.loop-number.invariant.set.count in
    let read : c.index.result.now ≡ get_or counts k 0 = c.index.ensures ∙ get_or_default new k c.index.result.now 0 (omega (arith, inside, long)) ∙ c.loop-number.invariant.set.left k (omega arith) in
    let own = c.total_of-sum.ensures ∙ ap (λ (n : ℕ). sum (slice_range sizes c.loop-number.slot n)) read in
    let few : c.loop-number.sum + c.total_of-sum.result ≤ 5 * most_slots = total_small counts sizes k c.loop-number.slot c.loop-number.sum new inside c.loop-number.invariant c.total_of-sum.result own c.requires.small c.requires.few in
    omega arith

pub loop-number-preserved : goal.loop-number-preserved
loop-number-preserved c =
    let counts : List ℕ = c.args.counts.now.items in
    let sizes : List ℕ = c.args.sizes.now in
    let new : List ℕ = c.loop-number.counts.items in
    let k : ℕ = c.loop-number.number in
    let total : ℕ = c.loop-number.sum + c.total_of-sum.result in
    let inside : k < length counts = search rules in
    let long = c.loop-number.invariant.set.count in
    let read : c.index.result.now ≡ get_or counts k 0 = c.index.ensures ∙ get_or_default new k c.index.result.now 0 (omega (arith, inside, long)) ∙ c.loop-number.invariant.set.left k (omega arith) in
    let own = c.total_of-sum.ensures ∙ ap (λ (n : ℕ). sum (slice_range sizes c.loop-number.slot n)) read in
    let more = more_summed counts sizes k c.loop-number.slot c.loop-number.sum new inside c.loop-number.invariant c.total_of-sum.result own c.requires.counts in
    subst (λ (n : ℕ). AreCountsSummed counts sizes (k + 1) n total (set new k total)) (sym read) more

pub returns : goal.returns
returns c =
    let all : length c.args.counts.now.items ≤ c.loop-number.number = search rules in
    counts_summed c.args.counts.now.items c.args.sizes.now c.loop-number.number c.loop-number.slot c.loop-number.sum c.loop-number.counts.items all c.loop-number.invariant
