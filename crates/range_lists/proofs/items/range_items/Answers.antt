use Rattle.std.proofs.Common.{◌≡◌, ◌∙◌, ◌<◌, ◌+◌, ℕ, List, length, get_or, suc, sym, subst, arith, rules}
use Rattle.std.proofs.lemmas.Result.{err_from_is_err_and}
use Rattle.list_model.specs.declared.entry.RawEntry.{RawEntry}
use Rattle.list_model.specs.declared.item.Item.{Item}
use Rattle.list_model.specs.declared.item.Meaning.TheVariants.{Live, Dead}
use Rattle.list_model.specs.declared.entry.ListKind.TheVariants.{Ranges}
use Rattle.list_model.specs.Entries.{Entry, Says, no_expr}
use Rattle.range_lists.specs.Ranges.{IsMeaning}
use Rattle.range_lists.proofs.RangeWalks.{IsWalked, IsNext, next_said, walked_on, all_live, all_dead}
use Rattle.range_lists.proofs.items.range_items.Goals as goal

abbrev no_raw : RawEntry
no_raw = record { at = 0; code = 0; a = 0; b = 0; expr = no_expr }

pub entry_step-requires-clause-entry : goal.entry_step-requires-clause-entry
entry_step-requires-clause-entry c =
    let raws = c.args.raw.now.items in
    let i = c.loop-entry.entry-index in
    let same = c.deref-entry-items.ensures.value in
    let inside : i < length raws = subst (λ (z : List RawEntry). i < length z) same c.loop-entry-test.true in
    subst (λ (z : List RawEntry). (entry : Entry) × Says Ranges (get_or z i no_raw) entry) (sym same)
    (next_said c.args.addr.now c.args.context.now raws i c.loop-entry.walk.base c.loop-entry.walk.items.items c.loop-entry.walk.dead no_raw c.loop-entry.invariant inside)

pub returns-in_err-step-clause-fault : goal.returns-in_err-step-clause-fault
returns-in_err-step-clause-fault c =
    let p = err_from_is_err_and c.from_residual.result c.from_residual.ensures.1 in
    rw (p.1, p.2) (search rules)

pub loop-entry-preserved : goal.loop-entry-preserved
loop-entry-preserved c =
    let addr = c.args.addr.now in
    let context = c.args.context.now in
    let raws = c.args.raw.now.items in
    let i = c.loop-entry.entry-index in
    let same = c.deref-entry-items.ensures.value in
    let inside : i < length raws = subst (λ (z : List RawEntry). i < length z) same c.loop-entry-test.true in
    let next = subst (λ (z : List RawEntry). IsNext addr context c.loop-entry.walk.base (get_or z i no_raw) c.in_ok-step.step) same c.in_ok-step.ensures.step in
    let new = c.go_on.new.self in
    let count : suc i ≡ i + 1 = omega arith in
    subst (λ (z : ℕ). IsWalked addr context raws z new.base new.items.items new.dead) count
    (walked_on addr context raws i c.loop-entry.walk new no_raw c.in_ok-step.step c.loop-entry.invariant inside next c.in_ok-go_on.ensures)

pub returns-then-walk-clause-meaning : goal.returns-then-walk-clause-meaning
returns-then-walk-clause-meaning c =
    all_dead c.args.addr.now c.args.context.now c.args.raw.now.items c.deref-entry-items.result.now c.loop-entry.entry-index c.loop-entry.walk c.deref-entry-items.ensures.value c.loop-entry.auto.entry-index-end c.loop-entry-test.false c.if-walk.true c.loop-entry.invariant

pub returns-then-walk-clause-whole : goal.returns-then-walk-clause-whole
returns-then-walk-clause-whole c =
    c.ranges_mean.ensures.whole c.args.addr.now c.args.context.now c.args.raw.now.items Dead
    (all_dead c.args.addr.now c.args.context.now c.args.raw.now.items c.deref-entry-items.result.now c.loop-entry.entry-index c.loop-entry.walk c.deref-entry-items.ensures.value c.loop-entry.auto.entry-index-end c.loop-entry-test.false c.if-walk.true c.loop-entry.invariant)

pub returns-clause-meaning : goal.returns-clause-meaning
returns-clause-meaning c =
    subst (λ (z : List Item). IsMeaning c.args.addr.now c.args.context.now c.args.raw.now.items (Live z)) (sym c.shrink_to_fit.ensures.items ∙ sym c.new-2.ensures)
    (all_live c.args.addr.now c.args.context.now c.args.raw.now.items c.deref-entry-items.result.now c.loop-entry.entry-index c.loop-entry.walk c.deref-entry-items.ensures.value c.loop-entry.auto.entry-index-end c.loop-entry-test.false c.if-walk.false c.loop-entry.invariant)

pub returns-clause-whole : goal.returns-clause-whole
returns-clause-whole c =
    c.ranges_mean.ensures.whole c.args.addr.now c.args.context.now c.args.raw.now.items (Live c.loop-entry.walk.items.items)
    (all_live c.args.addr.now c.args.context.now c.args.raw.now.items c.deref-entry-items.result.now c.loop-entry.entry-index c.loop-entry.walk c.deref-entry-items.ensures.value c.loop-entry.auto.entry-index-end c.loop-entry-test.false c.if-walk.false c.loop-entry.invariant)
