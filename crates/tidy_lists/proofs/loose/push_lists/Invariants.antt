use Rattle.tidy_lists.specs.inside.LooseBytes.{AddsBytes, BytesBelow, section_end, HasListByteAt}
use Rattle.tidy_lists.specs.inside.NamedNumbers.{OfReading}
use Rattle.tidy_lists.proofs.loose.push_lists.Given as goal

abbrev pub invariant-loop-number : goal.invariant-loop-number
invariant-loop-number l = OfReading l.world (λ s. AddsBytes (section_end l.kind s) (BytesBelow (HasListByteAt l.kind s) l.number) l.fn.spans.items l.spans.items)
