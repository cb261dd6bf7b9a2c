use Rattle.value_links.specs.Reading.{Linkable}
use Rattle.value_links.specs.inside.Checks.{InEach, AreColumnsLinked}
use Rattle.value_links.proofs.check.check_entry.Given as goal

abbrev pub invariant-loop-column : goal.invariant-loop-column
invariant-loop-column l = InEach l.parts (λ (r : Linkable). AreColumnsLinked r l.number l.id l.column)
