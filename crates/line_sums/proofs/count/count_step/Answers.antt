use Rattle.std.proofs.Common.{◌≡◌, ◌+◌, ◌∙◌, ℕ, Option, Some, None, sym, ap, subst, rules, arith}
use Rattle.std.specs.BTreeMap.{get}
use Rattle.line_sums.specs.contracts.step.StepOrd.TheImpl.{cmp-value}
use Rattle.line_sums.specs.inside.Places.{IsPlace}
use Rattle.line_sums.proofs.Counted.{counted_again, same_true}
use Rattle.line_sums.proofs.Firsts.{once_new, once_old}
use Rattle.line_sums.proofs.Placing.{held, places_again, places_more}
use Rattle.line_sums.proofs.Prices.{counted_push, count_more}
use Rattle.line_sums.proofs.count.count_step.Goals as goal

pub overflow_add-index_mut : goal.overflow_add-index_mut
overflow_add-index_mut c =
    let told : get cmp-value.it c.args.places.now c.args.step ≡ Some c.in-Some.place = search rules in
    let at = subst (λ (o : Option ℕ). IsPlace c.args.counted.now.items c.args.step o) told (c.requires.places.each c.args.step) in
    let few = count_more c.args.counted.now.items c.in-Some.place c.index_mut.result.now at.0 in
    record { fits = omega (arith, few, c.requires.room, ap (λ x. x.count) c.index_mut.ensures.value) }

pub returns-in-Some-clause-places : goal.returns-in-Some-clause-places
returns-in-Some-clause-places c = places_again c.args.places.now c.args.counted.now.items c.in-Some.place c.index_mut.result.now (c.index_mut.result.now.count + 1) c.index_mut.ensures.value c.requires.places

pub returns-in-Some-clause-once : goal.returns-in-Some-clause-once
returns-in-Some-clause-once c =
    let told : get cmp-value.it c.args.places.now c.args.step ≡ Some c.in-Some.place = search rules in
    let at = subst (λ (o : Option ℕ). IsPlace c.args.counted.now.items c.args.step o) told (c.requires.places.each c.args.step) in
    sym (once_old c.args.counted.now.items c.args.step c.in-Some.place c.index_mut.result.now at.1 at.0 c.index_mut.ensures.value)

pub returns-in-Some-clause-prices : goal.returns-in-Some-clause-prices
returns-in-Some-clause-prices c = λ price.
    let told : get cmp-value.it c.args.places.now c.args.step ≡ Some c.in-Some.place = search rules in
    let at = subst (λ (o : Option ℕ). IsPlace c.args.counted.now.items c.args.step o) told (c.requires.places.each c.args.step) in
    let same = held c.args.counted.now.items c.args.step c.in-Some.place c.index_mut.result.now at.1 at.0 in
    counted_again price c.args.counted.now.items c.in-Some.place c.index_mut.result.now c.args.step at.0 c.index_mut.ensures.value (ap (λ x. x.step) c.index_mut.ensures.value ∙ sym (same_true c.args.step _ same))

pub returns-clause-places : goal.returns-clause-places
returns-clause-places c =
    let told : get cmp-value.it c.args.places.now c.args.step ≡ None = search rules in
    let none = subst (λ (o : Option ℕ). IsPlace c.args.counted.now.items c.args.step o) told (c.requires.places.each c.args.step) in
    rw c.in_ok-push.ensures.items (places_more c.args.places.now c.insert.new.self c.args.counted.now.items (record { step = c.args.step; count = 1 }) _ (search rules) none c.in_ok-insert.ensures.updates.0 c.requires.places)

pub returns-clause-once : goal.returns-clause-once
returns-clause-once c =
    let told : get cmp-value.it c.args.places.now c.args.step ≡ None = search rules in
    let none = subst (λ (o : Option ℕ). IsPlace c.args.counted.now.items c.args.step o) told (c.requires.places.each c.args.step) in
    rw c.in_ok-push.ensures.items (sym (once_new c.args.counted.now.items c.args.step none))

pub returns-clause-prices : goal.returns-clause-prices
returns-clause-prices c = λ price. rw c.in_ok-push.ensures.items (omega (arith, counted_push price c.args.counted.now.items (record { step = c.args.step; count = 1 })))
