use Rattle.std.proofs.Common.{List, [], get_or, sym, subst}
use Rattle.std.specs.Prelude.{◌≡◌, ◌↔◌, IsTrue}
use Rattle.list_arena.specs.Held.{HeldViews, ViewsRise}
use Rattle.same_meaning.specs.inside.Values.{HoldsPairs}
use Rattle.same_meaning.proofs.LinkComparisons.{views_told, held_rise}
use Rattle.same_meaning.proofs.values.name_same_pairs.Goals as goal

pub run_among-first-requires-clause-rising : goal.run_among-first-requires-clause-rising
run_among-first-requires-clause-rising c = subst ViewsRise (sym c.views-old.ensures) (held_rise c.args.before.now c.requires.before)

pub run_among-second-requires-clause-rising : goal.run_among-second-requires-clause-rising
run_among-second-requires-clause-rising c = subst ViewsRise (sym c.views-new.ensures) (held_rise c.args.after.now c.requires.after)

pub returns-in-Views : goal.returns-in-Views
returns-in-Views c =
    let none : HeldViews = record { list = 0; at = 0; pairs = [] } in
    let ps = (get_or c.args.before.now.views c.run_among-first.result none).pairs in
    let qs = (get_or c.args.after.now.views c.run_among-second.result none).pairs in
    let first = subst (λ (z : List HeldViews). HoldsPairs z c.args.list c.args.at (get_or z c.run_among-first.result none).pairs) c.views-old.ensures (c.run_among-first.ensures.run none) in
    let second = subst (λ (z : List HeldViews). HoldsPairs z c.in-Views.other_list c.in-Views.place (get_or z c.run_among-second.result none).pairs) c.views-new.ensures (c.run_among-second.ensures.run none) in
    let same : IsTrue c.have_same_pairs.result ↔ (ps ≡ qs) =
    subst (λ (z : List HeldViews). IsTrue c.have_same_pairs.result ↔ (ps ≡ (get_or z c.run_among-second.result none).pairs)) c.views-new.ensures
    (subst (λ (z : List HeldViews). IsTrue c.have_same_pairs.result ↔ ((get_or z c.run_among-first.result none).pairs ≡ (get_or c.views-new.result.now c.run_among-second.result none).pairs)) c.views-old.ensures (c.have_same_pairs.ensures none)) in
    views_told c.args.before.now c.args.after.now c.args.list c.args.at c.in-Views.other_list c.in-Views.place c.args.other ps qs c.have_same_pairs.result c.in-Views.is first second same
