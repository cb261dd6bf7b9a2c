use Rattle.std.proofs.Common.{◌≡◌, ◌<◌, ◌+◌, ℕ, length, get_or, take, Bool, cond, subst, arith}
use Rattle.list_arena.specs.Held.{HeldList}
use Rattle.value_links.specs.inside.Views.{raw_pairs}
use Rattle.value_links.proofs.ViewTotals.{one_more_pair}
use Rattle.value_links.proofs.views.pair_count.Goals as goal
use Rattle.value_links.proofs.views.pair_count.Goals.{then-is_bounded, else-is_bounded}

pub loop-index-preserved : goal.loop-index-preserved
loop-index-preserved c =
    let i : ℕ = c.loop-index.index in
    let raws = λ (d : HeldList). (get_or c.args.lists.now c.args.number d).raw in
    let more = λ (d : HeldList).
    let count : c.entry_count-index-end.result ≡ length (raws d) = c.entry_count-index-end.ensures d in
    let inside : i < length (raws d) = omega arith in
    one_more_pair (raws d) i c.entry.result c.is_bounded.result inside (c.entry.ensures d c.entry.result) c.is_bounded.ensures in
    elim c.if-is_bounded.branch [
      | then-is_bounded w ↦ record {
        is = λ d.
            let old : c.loop-index.count ≡ raw_pairs (take i (raws d)) = c.loop-index.invariant.is d in
            let here : raw_pairs (take (i + 1) (raws d)) ≡ raw_pairs (take i (raws d)) + 1 = subst (λ (z : Bool). raw_pairs (take (i + 1) (raws d)) ≡ raw_pairs (take i (raws d)) + cond z 1 0) w.if-is_bounded.true (more d) in
            omega arith;
        few = omega arith;
      }
      | else-is_bounded w ↦ record {
        is = λ d.
            let old : c.loop-index.count ≡ raw_pairs (take i (raws d)) = c.loop-index.invariant.is d in
            let here : raw_pairs (take (i + 1) (raws d)) ≡ raw_pairs (take i (raws d)) + 0 = subst (λ (z : Bool). raw_pairs (take (i + 1) (raws d)) ≡ raw_pairs (take i (raws d)) + cond z 1 0) w.if-is_bounded.false (more d) in
            omega arith;
        few = omega arith;
      }
    ]
