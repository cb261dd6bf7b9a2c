use Rattle.std.proofs.Common.{◌≡◌, ◌++◌, length, take}
use Rattle.std.specs.List.{All}
use Rattle.list_arena.specs.inside.Words.{GrowsTo}
use Rattle.list_arena.specs.inside.Lists.{IsEntryRow, entries_held}
use Rattle.list_arena.proofs.lists.push_entries.Given as goal

abbrev pub invariant-loop-entry : goal.invariant-loop-entry
invariant-loop-entry l = record {
  grown : GrowsTo l.fn.long l.long;
  well : All (IsEntryRow l.long) l.rows.items;
  kept : take (length l.fn.rows.items) l.rows.items ≡ l.fn.rows.items;
  held : entries_held l.long l.rows.items ≡ entries_held l.fn.long l.fn.rows.items ++ take l.entry-index l.entries;
}
