use Rattle.std.proofs.Common.{◌≡◌, ◌++◌, length, take}
use Rattle.std.specs.List.{All}
use Rattle.list_arena.specs.inside.Words.{GrowsTo}
use Rattle.list_arena.specs.inside.Lists.{IsItemRow, items_held}
use Rattle.list_arena.proofs.lists.push_items.Given as goal

abbrev pub invariant-loop-item : goal.invariant-loop-item
invariant-loop-item l = record {
  grown : GrowsTo l.fn.long l.long;
  well : All (IsItemRow l.long) l.rows.items;
  kept : take (length l.fn.rows.items) l.rows.items ≡ l.fn.rows.items;
  held : items_held l.long l.rows.items ≡ items_held l.fn.long l.fn.rows.items ++ take l.item-index l.items;
}
