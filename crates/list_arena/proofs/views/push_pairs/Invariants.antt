use Rattle.std.proofs.Common.{◌≡◌, ◌++◌, length, take}
use Rattle.std.specs.List.{All}
use Rattle.list_arena.specs.inside.Words.{GrowsTo}
use Rattle.list_arena.specs.inside.Views.{IsPairRow, pairs_held}
use Rattle.list_arena.proofs.views.push_pairs.Given as goal

abbrev pub invariant-loop-pair : goal.invariant-loop-pair
invariant-loop-pair l = record {
  grown : GrowsTo l.fn.long l.long;
  well : All (IsPairRow l.long) l.rows.items;
  kept : take (length l.fn.rows.items) l.rows.items ≡ l.fn.rows.items;
  held : pairs_held l.long l.rows.items ≡ pairs_held l.fn.long l.fn.rows.items ++ take l.pair-index l.pairs;
}
