use Rattle.std.proofs.Common.{map, take}
use Rattle.std.specs.List.{AllZip}
use Rattle.list_write.specs.Written.{IsPieceOf, to_write}
use Rattle.list_write.proofs.write.write_lists.Given as goal

abbrev pub invariant-loop-list : goal.invariant-loop-list
invariant-loop-list l = AllZip (IsPieceOf l.kind) (map to_write (take l.list-index l.lists)) l.pieces
