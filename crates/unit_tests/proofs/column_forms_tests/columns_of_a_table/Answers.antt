use Rattle.std.proofs.Common.{arith}
use Rattle.column_forms.proofs.TableLaws.{few_room}
use Rattle.unit_tests.proofs.column_forms_tests.columns_of_a_table.Goals as goal

pub add_row-requires-3-clause-room : goal.add_row-requires-3-clause-room
add_row-requires-3-clause-room c =
    few_room 2 c.add_row-2.new.self (omega arith) (c.in_ok-add_row-2.ensures.few 1 (c.in_ok-add_row.ensures.few 0 c.in_ok-tallies.ensures.few))
