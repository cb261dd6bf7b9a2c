use Rattle.value_links.specs.Reading.{Linkable}
use Rattle.value_links.specs.inside.Checks.{InEach}
use Rattle.value_links.specs.inside.Namings.{AreJoined}
use Rattle.value_links.specs.inside.Views.{IsUnitViewing}
use Rattle.value_links.proofs.views.push_unit.Given as goal

abbrev pub invariant-loop-id : goal.invariant-loop-id
invariant-loop-id l = InEach l.parts (λ (r : Linkable). AreJoined l.fn.viewings.items l.viewings.items (IsUnitViewing r l.unit l.id))
