use Rattle.std.proofs.Common.{take}
use Rattle.rewriter.specs.inside.ListNumbers.{owner_in, AreListReferences}
use Rattle.rewriter.proofs.list_expressions.new_references.Given as goal

-- of the operations before
abbrev pub invariant-loop-op : goal.invariant-loop-op
invariant-loop-op l = AreListReferences l.world l.places.items (owner_in l.world l.owner) (take l.op-index l.ops) l.refs.items
