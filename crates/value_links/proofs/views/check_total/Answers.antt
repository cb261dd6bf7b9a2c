use Rattle.std.proofs.Common.{◌≡◌, ◌≤◌, ◌+◌, ◌∙◌, ℕ, List, ◌++◌, get_or, take, drop, sym, ap, refl, arith}
use Rattle.std.proofs.lemmas.List.{take-append-drop, drop_more}
use Rattle.loc_lists.specs.Views.{view_limit}
use Rattle.value_links.specs.inside.Views.{pairs_for, total_for}
use Rattle.value_links.proofs.views.check_total.Goals as goal

pub returns-then-count-total-clause-fault : goal.returns-then-count-total-clause-fault
returns-then-count-total-clause-fault c =
    let viewings : List (ℕ × ℕ) = c.args.viewings.now in
    let index : ℕ = c.loop-place.place-index in
    let viewing : ℕ × ℕ = get_or viewings index (0, 0) in
    let total : c.loop-place.total ≡ total_for c.args.lists.now (take index viewings) = c.loop-place.invariant.is in
    let few : c.loop-place.total ≤ view_limit = c.loop-place.invariant.few in
    let count : c.pairs_with-count.result ≡ pairs_for c.args.lists.now viewing = c.pairs_with-count.ensures in
    record {
      kind = refl;
      viewing = viewing;
      front = take index viewings;
      rest = drop (index + 1) viewings;
      parts = sym (take-append-drop index viewings) ∙ ap (λ (z : List (ℕ × ℕ)). take index viewings ++ z) (drop_more viewings index (0, 0) c.loop-place-test.true);
      within = omega arith;
      past = omega (arith, total, few, count, c.if-count-total.true);
      here = refl;
    }
