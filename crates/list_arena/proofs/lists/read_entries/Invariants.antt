use Rattle.std.proofs.Common.{◌≡◌, take}
use Rattle.list_arena.specs.inside.Lists.{entries_held}
use Rattle.list_arena.proofs.lists.read_entries.Given as goal

abbrev pub invariant-loop-row : goal.invariant-loop-row
invariant-loop-row l = l.entries.items ≡ entries_held l.long (take l.row-index l.own)
