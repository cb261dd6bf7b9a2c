use Rattle.std.proofs.Common.{take}
use Rattle.rewriter.specs.inside.ListNumbers.{owner_in}
use Rattle.rewriter.proofs.ListExpressions.{AreExpressionsPut}
use Rattle.rewriter.proofs.list_expressions.new_expressions.Given as goal

-- of the entries before
abbrev pub invariant-loop-entry : goal.invariant-loop-entry
invariant-loop-entry l = AreExpressionsPut l.world l.places.items (owner_in l.world l.list.owner) l.section (take l.entry-index l.list.raw) l.new
