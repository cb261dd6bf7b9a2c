use Rattle.std.proofs.Common.{◌<◌, ℕ}
use Rattle.value_links.specs.Reading.{Linkable}
use Rattle.value_links.specs.inside.Checks.{InEach, IsUnitLinked}
use Rattle.value_links.proofs.check.check_links.Given as goal

abbrev pub invariant-loop-number : goal.invariant-loop-number
invariant-loop-number l = InEach l.parts (λ (r : Linkable). (u : ℕ) → u < l.number → IsUnitLinked r u)
