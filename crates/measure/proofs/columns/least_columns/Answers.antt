use Rattle.std.proofs.Common.{arith}
use Rattle.column_forms.proofs.TableLaws.{few_room}
use Rattle.measure.proofs.columns.least_columns.Goals as goal

pub add_row-requires-clause-room : goal.add_row-requires-clause-room
add_row-requires-clause-room c = few_room c.loop.counter c.loop.tallies (omega arith) c.loop.invariant.few
