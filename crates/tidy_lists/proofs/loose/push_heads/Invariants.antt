use Rattle.tidy_lists.specs.inside.LooseBytes.{AddsBytes, BytesBelow, section_end, HasHeadByteAt}
use Rattle.tidy_lists.specs.inside.NamedNumbers.{OfReading}
use Rattle.tidy_lists.proofs.loose.push_heads.Given as goal

abbrev pub invariant-loop-part : goal.invariant-loop-part
invariant-loop-part l = OfReading l.world (λ s. AddsBytes (section_end l.fn.kind s) (BytesBelow (HasHeadByteAt l.fn.kind s) l.part-index) l.fn.spans.items l.spans.items)
