use Rattle.std.proofs.Common.{◌≡◌, ◌≤◌, ◌<◌, ◌+◌, ◌++◌, ◌∷◌, [], ℕ, List, length, take, sym, subst, arith}
use Rattle.std.proofs.lemmas.List.{length-append}
use Rattle.std.proofs.lemmas.Result.{err_from_is_err_and}
use Rattle.dw_base.specs.Refusals.{IsFaulty}
use Rattle.list_model.specs.Contributions.{part_end}
use Rattle.loc_lists.specs.declared.views.ViewPair.{ViewPair}
use Rattle.loc_lists.specs.Views.{view_limit, FaultViews, IsRunAt}
use Rattle.loc_lists.proofs.ViewReads.{IsFront, front_push, front_run, first_fault, second_fault}
use Rattle.loc_lists.proofs.views.read_views.Goals as goal

pub returns-in_err-first-clause-fault : goal.returns-in_err-first-clause-fault
returns-in_err-first-clause-fault c =
    let p = err_from_is_err_and c.from_residual.result c.from_residual.ensures.1 in
    let pairs = c.loop.pairs.items in
    let few : length pairs < c.args.count = omega (arith, c.loop.invariant.count, c.loop-test.true) in
    rw (p.1, p.2) (first_fault c.args.section.now c.args.part.now c.args.at c.loop.place c.args.count c.args.origin pairs c.in_err-first.field-0.0 c.requires.inside few c.loop.invariant.front c.in_err-first.ensures.fault.0 c.in_err-first.ensures.fault.1)

pub returns-in_err-last-clause-fault : goal.returns-in_err-last-clause-fault
returns-in_err-last-clause-fault c =
    let p = err_from_is_err_and c.from_residual-in_err-last.result c.from_residual-in_err-last.ensures.1 in
    let pairs = c.loop.pairs.items in
    let first = c.in_ok-first.first in
    let few : length pairs < c.args.count = omega (arith, c.loop.invariant.count, c.loop-test.true) in
    rw (p.1, p.2) (second_fault c.args.section.now c.args.part.now c.args.at c.loop.place first.end c.args.count c.args.origin first.value pairs c.in_err-last.field-0.0 c.requires.inside few c.loop.invariant.front c.in_ok-first.ensures.within.0 c.in_ok-first.ensures.within.1 c.in_ok-first.ensures.read c.in_err-last.ensures.fault.0 c.in_err-last.ensures.fault.1)

pub loop-preserved : goal.loop-preserved
loop-preserved c =
    let bytes = take (part_end c.args.part.now) c.args.section.now in
    let pairs = c.loop.pairs.items in
    let first = c.in_ok-first.first in
    let last = c.in_ok-last.last in
    let pair : ViewPair = record { first = first.value; last = last.value } in
    let same : c.push.new.pairs.items ≡ pairs ++ pair ∷ [] = c.in_ok-push.ensures in
    let size : length (pairs ++ pair ∷ []) ≡ length pairs + 1 = length-append pairs (pair ∷ []) in
    let more = front_push bytes c.args.at c.loop.place first.end last.end pairs pair c.in_ok-first.ensures.within.0 c.in_ok-last.ensures.within.0 c.in_ok-last.ensures.within.1 c.loop.invariant.front c.in_ok-first.ensures.read c.in_ok-last.ensures.read in
    record {
      inside = c.in_ok-last.ensures.within.1;
      front = subst (λ (z : List ViewPair). IsFront bytes c.args.at z last.end) (sym same) more;
      count = subst (λ (z : List ViewPair). length z ≡ c.loop.counter + 1) (sym same) (omega (arith, size, c.loop.invariant.count));
    }

pub returns-clause-pairs : goal.returns-clause-pairs
returns-clause-pairs c =
    subst (λ (z : List ViewPair). IsRunAt c.args.section.now c.args.part.now c.args.at z) (sym c.shrink_to_fit.ensures.items)
    (front_run c.args.section.now c.args.part.now c.args.at c.loop.place c.loop.pairs.items c.requires.inside c.loop.invariant.front)

pub returns-clause-whole : goal.returns-clause-whole
returns-clause-whole c =
    let pairs = c.loop.pairs.items in
    let all : length pairs ≡ c.args.count = omega (arith, c.loop.invariant.count, c.loop-test.false, c.loop.auto.counter-end) in
    let run = front_run c.args.section.now c.args.part.now c.args.at c.loop.place pairs c.requires.inside c.loop.invariant.front in
    let few : length pairs ≤ view_limit = omega (arith, all, c.if-count-gt-VIEW_LIMIT.false) in
    subst (λ (z : ℕ). ¬ IsFaulty (FaultViews c.args.section.now c.args.part.now c.args.at z)) all (c.views_read.ensures.whole c.args.section.now c.args.part.now c.args.at pairs run few)
