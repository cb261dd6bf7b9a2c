use Rattle.abbrev_tables.specs.Tables.{SpellsColumn, IsColumnsEnd}
use Rattle.tidy_numbers.specs.LongTables.{IsLongColumn}
use Rattle.tidy_numbers.proofs.WalkedRows.{IsWalked}
use Rattle.tidy_numbers.proofs.tables.past_columns.Given as goal

abbrev pub invariant-loop-column : goal.invariant-loop-column
invariant-loop-column l = IsWalked SpellsColumn IsColumnsEnd IsLongColumn l.bytes l.columns l.fn.walk.at l.fn.walk.long l.column-index l.next.at l.next.long
