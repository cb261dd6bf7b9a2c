use Rattle.list_arena.specs.inside.Lists.{IsEntryRow, entry_held, entries_held}
use Rattle.list_arena.proofs.ListLaws.{entries_same, entries_well}
use Rattle.list_arena.proofs.RowLaws.{all_push, kept_push, row_pushed}
use Rattle.list_arena.proofs.WordLaws.{grows_on}
use Rattle.list_arena.proofs.lists.push_entries.Goals as goal

pub returns-in_err-row-clause-well : goal.returns-in_err-row-clause-well
returns-in_err-row-clause-well c = entries_well c.loop-entry.long c.entry_row.new.long c.in_err-row.ensures.grown c.loop-entry.rows.items c.loop-entry.invariant.well

pub returns-in_err-push-clause-grown : goal.returns-in_err-push-clause-grown
returns-in_err-push-clause-grown c = grows_on c.args.long.now c.loop-entry.long c.entry_row.new.long c.loop-entry.invariant.grown c.in_ok-row.ensures.grown

pub returns-in_err-push-clause-well : goal.returns-in_err-push-clause-well
returns-in_err-push-clause-well c = rw c.in_err-push.ensures.items (entries_well c.loop-entry.long c.entry_row.new.long c.in_ok-row.ensures.grown c.loop-entry.rows.items c.loop-entry.invariant.well)

pub loop-entry-preserved : goal.loop-entry-preserved
loop-entry-preserved c =
    let row = c.in_ok-row.row in
    let rows = c.loop-entry.rows.items in
    let old = c.loop-entry.long in
    let new = c.entry_row.new.long in
    let well = entries_well old new c.in_ok-row.ensures.grown rows c.loop-entry.invariant.well in
    let same = entries_same old new c.in_ok-row.ensures.grown rows c.loop-entry.invariant.well in
    record {
      grown = grows_on c.args.long.now old new c.loop-entry.invariant.grown c.in_ok-row.ensures.grown;
      well = rw c.in_ok-push.ensures.items (all_push (IsEntryRow new) rows row well c.in_ok-row.ensures.row.0);
      kept = rw c.in_ok-push.ensures.items (kept_push c.args.rows.now.items rows row c.loop-entry.invariant.kept);
      held = rw c.in_ok-push.ensures.items (row_pushed (entry_held new) (entry_held old) rows row (entries_held c.args.long.now c.args.rows.now.items) c.args.entries.now c.loop-entry.entry-index _ same c.loop-entry.invariant.held c.in_ok-row.ensures.row.1 c.loop-entry-test.true);
    }
