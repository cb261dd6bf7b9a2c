use Rattle.value_links.specs.Reading.{Linkable}
use Rattle.value_links.specs.inside.Checks.{InEach, AreEntriesLinked}
use Rattle.value_links.proofs.check.check_unit.Given as goal

abbrev pub invariant-loop-id : goal.invariant-loop-id
invariant-loop-id l = InEach l.parts (λ (r : Linkable). AreEntriesLinked r l.number l.id)
