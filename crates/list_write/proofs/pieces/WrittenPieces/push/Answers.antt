use Rattle.std.proofs.Common.{◌∙◌, List, [], ◌∷◌, ◌++◌, ap}
use Rattle.list_write.specs.Written.{Piece, to_write}
use Rattle.list_write.proofs.HeldPieces.{held_more, held_pushed}
use Rattle.list_write.proofs.pieces.WrittenPieces.push.Goals as goal

pub invariant_of-self : goal.invariant_of-self
invariant_of-self c = held_more c.args.kind (to_write c.args.list.now) c.self.inside.lists.items c.put_whole.new.lists.items c.self.inside.runs.items c.put_whole.new.runs.items c.self.inside.bytes.items c.put_whole.new.out.items c.self.invariant c.in-Ok.ensures

pub returns-in-Ok-clause-pushed : goal.returns-in-Ok-clause-pushed
returns-in-Ok-clause-pushed c = (
  c.in-Ok.ensures.piece,
  c.in-Ok.ensures.is,
  held_pushed c.args.kind (to_write c.args.list.now) c.self.inside.lists.items c.put_whole.new.lists.items c.self.inside.runs.items c.put_whole.new.runs.items c.self.inside.bytes.items c.put_whole.new.out.items c.self.invariant c.in-Ok.ensures
      ∙ ap (λ (z : List Piece). z ++ c.in-Ok.ensures.piece ∷ []) c.self.view_is,
)
