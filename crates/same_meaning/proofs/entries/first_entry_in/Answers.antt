use Rattle.std.proofs.Common.{◌≡◌, ◌≢◌, ◌<◌, ℕ, below_more, arith}
use Rattle.same_meaning.proofs.EntryOrder.{AreSameAt, entries_held, looked_up, first_differs, none_differs, left_differs}
use Rattle.same_meaning.proofs.entries.first_entry_in.Goals as goal

pub returns-then-not-branch-clause-first : goal.returns-then-not-branch-clause-first
returns-then-not-branch-clause-first c =
    let a = c.args.before.now in
    let b = c.args.after.now in
    let u = c.args.unit in
    let old : c.len-old.result ≡ entries_held a u = looked_up a u c.units.result.now.items c.index.result.now c.forest.result.now c.len-old.result c.requires.known c.units.ensures c.index.ensures c.forest.ensures c.len-old.ensures in
    let new : c.len-new.result ≡ entries_held b u = looked_up b u c.units-2.result.now.items c.index-2.result.now c.forest-2.result.now c.len-new.result c.requires.again c.units-2.ensures c.index-2.ensures c.forest-2.ensures c.len-new.ensures in
    first_differs c.one_reading.ensures.reading c.one_meaning.ensures.meaning a b c.requires.before c.requires.after u c.requires.known c.requires.again c.loop-id.id (omega arith) (omega arith) c.loop-id.invariant.entries c.in_ok-mean_same_entry.field-0 c.if-not-branch.true c.in_ok-mean_same_entry.ensures.same

pub loop-id-preserved : goal.loop-id-preserved
loop-id-preserved c =
    record {
      entries = below_more (λ (j : ℕ). AreSameAt c.args.before.now c.args.after.now c.args.unit j) c.loop-id.id c.loop-id.invariant.entries (λ r s read holds again held. (c.in_ok-mean_same_entry.ensures.same r s read holds again held).0 c.if-not-branch.false);
      lists = c.mean_same_entry.ensures.lists;
    }

pub returns-then-old-new-clause-first : goal.returns-then-old-new-clause-first
returns-then-old-new-clause-first c =
    let a = c.args.before.now in
    let b = c.args.after.now in
    let u = c.args.unit in
    let old : c.len-old.result ≡ entries_held a u = looked_up a u c.units.result.now.items c.index.result.now c.forest.result.now c.len-old.result c.requires.known c.units.ensures c.index.ensures c.forest.ensures c.len-old.ensures in
    let new : c.len-new.result ≡ entries_held b u = looked_up b u c.units-2.result.now.items c.index-2.result.now c.forest-2.result.now c.len-new.result c.requires.again c.units-2.ensures c.index-2.ensures c.forest-2.ensures c.len-new.ensures in
    none_differs c.one_reading.ensures.reading c.one_meaning.ensures.meaning a b c.requires.before c.requires.after u c.requires.known c.requires.again c.min-common.result (omega arith) (omega arith) (λ (j : ℕ) (less : j < c.min-common.result). c.loop-id.invariant.entries j (omega arith))

pub returns-else-old-new-clause-first : goal.returns-else-old-new-clause-first
returns-else-old-new-clause-first c =
    let a = c.args.before.now in
    let b = c.args.after.now in
    let u = c.args.unit in
    let old : c.len-old.result ≡ entries_held a u = looked_up a u c.units.result.now.items c.index.result.now c.forest.result.now c.len-old.result c.requires.known c.units.ensures c.index.ensures c.forest.ensures c.len-old.ensures in
    let new : c.len-new.result ≡ entries_held b u = looked_up b u c.units-2.result.now.items c.index-2.result.now c.forest-2.result.now c.len-new.result c.requires.again c.units-2.ensures c.index-2.ensures c.forest-2.ensures c.len-new.ensures in
    let apart : entries_held a u ≢ entries_held b u = λ (same : entries_held a u ≡ entries_held b u). c.if-old-new.false (omega arith) in
    left_differs c.one_reading.ensures.reading c.one_meaning.ensures.meaning a b c.requires.before c.requires.after u c.requires.known c.requires.again c.min-common.result (omega arith) apart (λ (j : ℕ) (less : j < c.min-common.result). c.loop-id.invariant.entries j (omega arith))
