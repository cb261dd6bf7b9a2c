use Rattle.entry_read.proofs.ColumnPlaces.{value_there, stands_past}
use Rattle.entry_read.proofs.place.values_end.Goals as goal

pub value_end-at-requires : goal.value_end-at-requires
value_end-at-requires c = value_there c.args.info.now c.args.columns.now c.args.from c.loop-column.column-index c.loop-column.at c.loop-column-test.true c.loop-column.invariant c.requires

pub loop-column-preserved : goal.loop-column-preserved
loop-column-preserved c = stands_past c.args.info.now c.args.columns.now c.args.from c.loop-column.column-index c.loop-column.at c.value_end-at.result c.loop-column-test.true c.loop-column.invariant c.value_end-at.ensures
