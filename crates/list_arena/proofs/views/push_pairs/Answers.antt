use Rattle.list_arena.specs.inside.Views.{IsPairRow, pair_held, pairs_held}
use Rattle.list_arena.proofs.PairLaws.{pairs_same, pairs_well}
use Rattle.list_arena.proofs.RowLaws.{all_push, kept_push, row_pushed}
use Rattle.list_arena.proofs.WordLaws.{grows_on}
use Rattle.list_arena.proofs.views.push_pairs.Goals as goal

pub returns-in_err-row-clause-well : goal.returns-in_err-row-clause-well
returns-in_err-row-clause-well c = pairs_well c.loop-pair.long c.pair_row.new.long c.in_err-row.ensures.grown c.loop-pair.rows.items c.loop-pair.invariant.well

pub returns-in_err-push-clause-grown : goal.returns-in_err-push-clause-grown
returns-in_err-push-clause-grown c = grows_on c.args.long.now c.loop-pair.long c.pair_row.new.long c.loop-pair.invariant.grown c.in_ok-row.ensures.grown

pub returns-in_err-push-clause-well : goal.returns-in_err-push-clause-well
returns-in_err-push-clause-well c = rw c.in_err-push.ensures.items (pairs_well c.loop-pair.long c.pair_row.new.long c.in_ok-row.ensures.grown c.loop-pair.rows.items c.loop-pair.invariant.well)

pub loop-pair-preserved : goal.loop-pair-preserved
loop-pair-preserved c =
    let row = c.in_ok-row.row in
    let rows = c.loop-pair.rows.items in
    let old = c.loop-pair.long in
    let new = c.pair_row.new.long in
    let well = pairs_well old new c.in_ok-row.ensures.grown rows c.loop-pair.invariant.well in
    let same = pairs_same old new c.in_ok-row.ensures.grown rows c.loop-pair.invariant.well in
    record {
      grown = grows_on c.args.long.now old new c.loop-pair.invariant.grown c.in_ok-row.ensures.grown;
      well = rw c.in_ok-push.ensures.items (all_push (IsPairRow new) rows row well c.in_ok-row.ensures.row.0);
      kept = rw c.in_ok-push.ensures.items (kept_push c.args.rows.now.items rows row c.loop-pair.invariant.kept);
      held = rw c.in_ok-push.ensures.items (row_pushed (pair_held new) (pair_held old) rows row (pairs_held c.args.long.now c.args.rows.now.items) c.args.pairs.now c.loop-pair.pair-index _ same c.loop-pair.invariant.held c.in_ok-row.ensures.row.1 c.loop-pair-test.true);
    }
