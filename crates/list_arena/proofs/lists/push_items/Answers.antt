use Rattle.list_arena.specs.inside.Lists.{IsItemRow, item_held, items_held}
use Rattle.list_arena.proofs.ListLaws.{items_same, items_well}
use Rattle.list_arena.proofs.RowLaws.{all_push, kept_push, row_pushed}
use Rattle.list_arena.proofs.WordLaws.{grows_on}
use Rattle.list_arena.proofs.lists.push_items.Goals as goal

pub returns-in_err-row-clause-well : goal.returns-in_err-row-clause-well
returns-in_err-row-clause-well c = items_well c.loop-item.long c.item_row.new.long c.in_err-row.ensures.grown c.loop-item.rows.items c.loop-item.invariant.well

pub returns-in_err-push-clause-grown : goal.returns-in_err-push-clause-grown
returns-in_err-push-clause-grown c = grows_on c.args.long.now c.loop-item.long c.item_row.new.long c.loop-item.invariant.grown c.in_ok-row.ensures.grown

pub returns-in_err-push-clause-well : goal.returns-in_err-push-clause-well
returns-in_err-push-clause-well c = rw c.in_err-push.ensures.items (items_well c.loop-item.long c.item_row.new.long c.in_ok-row.ensures.grown c.loop-item.rows.items c.loop-item.invariant.well)

pub loop-item-preserved : goal.loop-item-preserved
loop-item-preserved c =
    let row = c.in_ok-row.row in
    let rows = c.loop-item.rows.items in
    let old = c.loop-item.long in
    let new = c.item_row.new.long in
    let well = items_well old new c.in_ok-row.ensures.grown rows c.loop-item.invariant.well in
    let same = items_same old new c.in_ok-row.ensures.grown rows c.loop-item.invariant.well in
    record {
      grown = grows_on c.args.long.now old new c.loop-item.invariant.grown c.in_ok-row.ensures.grown;
      well = rw c.in_ok-push.ensures.items (all_push (IsItemRow new) rows row well c.in_ok-row.ensures.row.0);
      kept = rw c.in_ok-push.ensures.items (kept_push c.args.rows.now.items rows row c.loop-item.invariant.kept);
      held = rw c.in_ok-push.ensures.items (row_pushed (item_held new) (item_held old) rows row (items_held c.args.long.now c.args.rows.now.items) c.args.items.now c.loop-item.item-index _ same c.loop-item.invariant.held c.in_ok-row.ensures.row.1 c.loop-item-test.true);
    }
