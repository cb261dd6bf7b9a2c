use Rattle.std.proofs.Common.{◌≡◌, ◌<◌, ◌+◌, ◌∙◌, ℕ, List, [], ◌∷◌, ◌++◌, length, get_or, take, sym, ap, subst}
use Rattle.std.proofs.lemmas.List.{take_more}
use Rattle.loc_lists.specs.declared.views.ViewPair.{ViewPair}
use Rattle.rewriter.proofs.lists.same_run.Goals as goal

pairs_more : (all so_far new : List ViewPair) (k : ℕ) (pair : ViewPair) → so_far ≡ take k all → k < length all → pair ≡ get_or all k pair → new ≡ so_far ++ pair ∷ [] → new ≡ take (k + 1) all
pairs_more all so_far new k pair front less is pushed =
    pushed
    ∙ ap (λ (z : List ViewPair). z ++ pair ∷ []) front
    ∙ ap (λ (z : ViewPair). take k all ++ z ∷ []) is
    ∙ sym (take_more all k pair less)

pub loop-index-preserved : goal.loop-index-preserved
loop-index-preserved c = λ d.
    let less : c.loop-index.index < length (get_or c.args.views.now c.args.number d).pairs = subst (λ (z : ℕ). c.loop-index.index < z) (c.pair_count-index-end.ensures d) c.loop-index-test.true in
    pairs_more (get_or c.args.views.now c.args.number d).pairs c.loop-index.pairs.items c.push.new.self.items c.loop-index.index c.pair.result (c.loop-index.invariant d) less (c.pair.ensures d c.pair.result) c.in_ok-push.ensures.items
