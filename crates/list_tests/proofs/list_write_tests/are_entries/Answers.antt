use Rattle.std.proofs.Common.{◌+◌, List, take, sym, subst}
use Rattle.list_model.specs.declared.entry.RawEntry.{RawEntry}
use Rattle.list_tests.specs.Writable.{AreEntries}
use Rattle.list_tests.proofs.WritableLists.{entries_more}
use Rattle.list_tests.proofs.list_write_tests.are_entries.Goals as goal

pub loop-raw-preserved : goal.loop-raw-preserved
loop-raw-preserved c =
    let i = c.loop-raw.raw-index in
    let same = c.deref-raw-items.ensures.value in
    subst (λ (z : List RawEntry). AreEntries c.args.kind (take (i + 1) z)) same
    (entries_more c.args.kind c.deref-raw-items.result.now i _ c.loop-raw-test.true (subst (λ (z : List RawEntry). AreEntries c.args.kind (take i z)) (sym same) c.loop-raw.invariant) (c.is_entry.ensures c.if-not-is_entry.false))
