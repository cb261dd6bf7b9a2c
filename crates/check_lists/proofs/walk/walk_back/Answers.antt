use Rattle.std.proofs.Common.{◌-◌, ◌≡◌, ℕ, length, subst, arith, false}
use Rattle.std.specs.Prelude.{map}
use Rattle.std.proofs.lemmas.List.{length-map}
use Rattle.list_model.specs.declared.item.Item.{Item}
use Rattle.list_model.specs.Potentials.{AcceptsAt}
use Rattle.list_least.specs.Plans.{bounds_of}
use Rattle.check_lists.specs.inside.Walks.{IsFirstFrom, AreJudged}
use Rattle.check_lists.proofs.Judging.{accepted_next, refused_next}
use Rattle.check_lists.proofs.walk.walk_back.Goals as goal

abbrev d : Item
d = record { start = 0; end = 0; whole = false; expr = record { at = 0; len = 0 } }

pub loop-i-preserved-then-potentials-i : goal.loop-i-preserved-then-potentials-i
loop-i-preserved-then-potentials-i c =
    let k : ℕ = c.loop-i.i - 1 in
    let longer = c.in_ok-longer.longer in
    refused_next c.args.addr.now c.args.context.now c.args.items.now c.args.potentials.now c.loop-i.i k c.loop-i.first c.loop-i.tail longer.tail d longer.greatest (omega (arith, c.loop-i-test.true)) c.requires.few c.requires.each c.loop-i.invariant c.in_ok-longer.ensures.tail c.in_ok-longer.ensures.greatest c.if-potentials-i.true

pub loop-i-preserved : goal.loop-i-preserved
loop-i-preserved c =
    let k : ℕ = c.loop-i.i - 1 in
    let longer = c.in_ok-longer.longer in
    accepted_next c.args.addr.now c.args.context.now c.args.items.now c.args.potentials.now c.loop-i.i k c.loop-i.first c.loop-i.tail longer.tail d longer.greatest (omega (arith, c.loop-i-test.true)) c.requires.few c.requires.each c.loop-i.invariant c.in_ok-longer.ensures.tail c.in_ok-longer.ensures.greatest c.if-potentials-i.false

pub returns-clause-first : goal.returns-clause-first
returns-clause-first c =
    let items = c.args.items.now in
    let accepts : ℕ → Type 0 = AcceptsAt c.args.addr.now c.args.context.now (map bounds_of items) c.args.potentials.now in
    let none : c.loop-i.i ≡ 0 = omega (arith, c.loop-i-test.false) in
    subst (λ (n : ℕ). IsFirstFrom accepts 0 n c.loop-i.first) (length-map items bounds_of) (
    subst (λ (n : ℕ). IsFirstFrom accepts n (length (map bounds_of items)) c.loop-i.first) none c.loop-i.invariant.first_is)

pub returns-clause-size : goal.returns-clause-size
returns-clause-size c =
    let all = map bounds_of c.args.items.now in
    let none : c.loop-i.i ≡ 0 = omega (arith, c.loop-i-test.false) in
    let judged : AreJudged c.args.addr.now c.args.context.now all c.args.potentials.now 0 c.loop-i.first c.loop-i.tail = subst (λ (n : ℕ). AreJudged c.args.addr.now c.args.context.now all c.args.potentials.now n c.loop-i.first c.loop-i.tail) none c.loop-i.invariant in
    c.size_under.ensures c.args.addr.now c.args.context.now all c.args.potentials.now judged.tail_of
