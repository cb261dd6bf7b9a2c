use Rattle.list_model.specs.declared.entry.ListKind.TheVariants.{Locations}
use Rattle.tidy_lists.specs.inside.LooseBytes.{AddsBytes, BytesBelow, section_end, HasRunByteAt}
use Rattle.tidy_lists.specs.inside.NamedNumbers.{OfReading}
use Rattle.tidy_lists.proofs.loose.push_runs.Given as goal

abbrev pub invariant-loop-number : goal.invariant-loop-number
invariant-loop-number l = OfReading l.world (λ s. AddsBytes (section_end Locations s) (BytesBelow (HasRunByteAt s) l.number) l.fn.spans.items l.spans.items)
