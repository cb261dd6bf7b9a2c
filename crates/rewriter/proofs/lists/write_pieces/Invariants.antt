use Rattle.rewriter.specs.inside.Plans.{ArePiecesPlanned, AreRecordedTo}
use Rattle.rewriter.proofs.lists.write_pieces.Given as goal

abbrev pub invariant-loop-number : goal.invariant-loop-number
invariant-loop-number l = ArePiecesPlanned l.classes l.world l.places.items l.kind l.number l.next l.pieces × AreRecordedTo l.classes l.world l.kind l.number l.records.items
