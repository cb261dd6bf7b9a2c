use Rattle.value_links.specs.Reading.{Linkable}
use Rattle.value_links.specs.inside.Checks.{InEach}
use Rattle.value_links.specs.inside.Namings.{AreJoined}
use Rattle.value_links.specs.inside.Views.{IsSomeViewing}
use Rattle.value_links.proofs.views.push_units.Given as goal

abbrev pub invariant-loop-unit : goal.invariant-loop-unit
invariant-loop-unit l = InEach l.parts (λ (r : Linkable). AreJoined l.fn.viewings.items l.viewings.items (IsSomeViewing r l.unit))
