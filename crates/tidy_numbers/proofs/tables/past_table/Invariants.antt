use Rattle.abbrev_tables.specs.Tables.{SpellsDeclared, IsTableEnd}
use Rattle.abbrev_tables.specs.Listings.{declarations_in}
use Rattle.tidy_numbers.specs.LongTables.{IsLongDeclared}
use Rattle.tidy_numbers.proofs.WalkedRows.{IsWalked}
use Rattle.tidy_numbers.proofs.tables.past_table.Given as goal

abbrev pub invariant-loop-i : goal.invariant-loop-i
invariant-loop-i l = IsWalked SpellsDeclared IsTableEnd IsLongDeclared l.bytes (declarations_in l.table.specs l.table.decls) l.fn.walk.at l.fn.walk.long l.i l.next.at l.next.long
