use Rattle.unit_write.proofs.SlotLens.{AreSizesAdded}
use Rattle.unit_write.proofs.layout.add_sizes.Given as goal

abbrev pub invariant-loop-number : goal.invariant-loop-number
invariant-loop-number l = AreSizesAdded l.fn.lens.items l.slots l.sizes l.number l.slot l.lens.items
