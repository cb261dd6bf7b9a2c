use Rattle.std.proofs.Common.{take}
use Rattle.list_model.specs.declared.entry.ListKind.TheVariants.{Locations}
use Rattle.value_links.specs.Reading.{Linkable}
use Rattle.value_links.specs.inside.Checks.{InEach}
use Rattle.value_links.specs.inside.ListExpressions.{AreExprsRead}
use Rattle.value_links.proofs.list_expressions.check_expressions.Given as goal

abbrev pub invariant-loop-entry : goal.invariant-loop-entry
invariant-loop-entry l = InEach l.parts (λ (r : Linkable). AreExprsRead Locations l.section r l.list.owner l.list.torn l.reach (take l.entry-index l.entry-items))
