use Rattle.std.proofs.Common.{◌+◌, List, take, sym, subst}
use Rattle.spelled.specs.Spelled.{Joined, Appends}
use Rattle.loc_lists.specs.declared.views.ViewPair.{ViewPair}
use Rattle.loc_lists.specs.Views.{ShortestPair}
use Rattle.list_write.proofs.Putting.{run_put}
use Rattle.list_write.proofs.list.put_run.Goals as goal

pub loop-pair-preserved : goal.loop-pair-preserved
loop-pair-preserved c =
    let i = c.loop-pair.pair-index in
    let old = c.args.out.now.items in
    let mid = c.loop-pair.out.items in
    let new = c.put_pair.new.out.items in
    let same = c.deref-pair-items.ensures.value in
    let so_far = subst (λ (z : List ViewPair). Appends (Joined ShortestPair) (take i z) old mid) (sym same) c.loop-pair.invariant in
    subst (λ (z : List ViewPair). Appends (Joined ShortestPair) (take (i + 1) z) old new) same (run_put c.deref-pair-items.result.now _ i old mid new c.loop-pair-test.true so_far c.in_ok-put_pair.ensures)
