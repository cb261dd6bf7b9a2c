use Rattle.std.proofs.Common.{◌≡◌, ◌+◌, List, length, sym, ap, subst, arith}
use Rattle.entry_read.specs.Units.{declarations_of}
use Rattle.tidy_tables.specs.declared.outlines.Outlines.{Outlines}
use Rattle.tidy_tables.specs.inside.Outlines.{AreAllSorted}
use Rattle.tidy_tables.proofs.OutlineLaws.{sorted_are, all_sorted_more, all_sorted}
use Rattle.tidy_tables.proofs.outlines.sorted_outlines.Goals as goal

pub loop-named-preserved : goal.loop-named-preserved
loop-named-preserved c =
    let k = c.loop-named.named-index in
    let here = sorted_are (declarations_of c.named-item.result.table) c.in_ok-sorted.sorted.items c.sort_unstable.new.self.items c.in_ok-sorted.ensures c.sort_unstable.ensures.permutation c.sort_unstable.ensures.sorted in
    let more = all_sorted_more c.args.tables.now.items c.deref-named-items.result.now k c.loop-named.all.items (record { sorted = c.sort_unstable.new.self }) c.named-item.result c.deref-named-items.ensures.value c.loop-named-test.true c.named-item.is c.loop-named.invariant here in
    subst (λ (z : List Outlines). AreAllSorted c.args.tables.now.items (k + 1) z) (sym c.in_ok-push.ensures.items) more

pub returns : goal.returns
returns c =
    let same : c.loop-named.named-index ≡ length c.args.tables.now.items = omega (arith, ap length c.deref-named-items.ensures.value) in
    all_sorted c.args.tables.now.items c.loop-named.named-index c.loop-named.all.items same c.loop-named.invariant
