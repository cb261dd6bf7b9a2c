use Rattle.value_links.specs.Reading.{Linkable}
use Rattle.value_links.specs.inside.Checks.{InEach}
use Rattle.value_links.specs.inside.Namings.{AreJoined}
use Rattle.value_links.specs.inside.Views.{IsEntryViewing}
use Rattle.value_links.proofs.views.push_entry.Given as goal

abbrev pub invariant-loop-column : goal.invariant-loop-column
invariant-loop-column l = InEach l.parts (λ (r : Linkable). AreJoined l.fn.viewings.items l.viewings.items (IsEntryViewing r l.unit l.id l.column))
