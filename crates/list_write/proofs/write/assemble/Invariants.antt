use Rattle.std.proofs.Common.{List}
use Rattle.std.specs.List.{AllZip}
use Rattle.list_write.specs.Written.{ToWrite, CanBeWritten, IsPieceOf}
use Rattle.list_write.specs.inside.Puts.{AreCopiedTo}
use Rattle.list_write.proofs.write.assemble.Given as goal

abbrev pub invariant-loop-number : goal.invariant-loop-number
invariant-loop-number l = (lists : List ToWrite) → AllZip (IsPieceOf l.fn.kind) lists l.pieces → CanBeWritten l.fn.kind l.section l.parts lists → AreCopiedTo l.fn.kind l.section l.parts lists l.places.parts.items l.places.lists.items l.number l.from l.bytes.items
