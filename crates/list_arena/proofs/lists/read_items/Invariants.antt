use Rattle.std.proofs.Common.{◌≡◌, take}
use Rattle.list_arena.specs.inside.Lists.{items_held}
use Rattle.list_arena.proofs.lists.read_items.Given as goal

abbrev pub invariant-loop-row : goal.invariant-loop-row
invariant-loop-row l = l.items.items ≡ items_held l.long (take l.row-index l.own)
