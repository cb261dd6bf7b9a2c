use Rattle.std.proofs.Common.{ℕ, List}
use Rattle.value_links.specs.Reading.{Linkable}
use Rattle.value_links.specs.Parts.{HoldsParts}
use Rattle.value_links.proofs.PartValues.{cause_there}
use Rattle.value_links.proofs.check.fault_of.Goals as goal

pub returns-in-Some : goal.returns-in-Some
returns-in-Some c = λ (file : List ℕ) (r : Linkable) (holds : HoldsParts file r c.args.parts.now).
    let found = c.in-Some.ensures file r holds in
    (found.0, found.1)

pub returns-in-None : goal.returns-in-None
returns-in-None c = λ (file : List ℕ) (r : Linkable) (holds : HoldsParts file r c.args.parts.now).
    cause_there file r c.args.parts.now holds c.args.number c.requires.number c.args.id c.args.name c.unit_of-unit.result.now c.table_of.result.now c.args.value.now c.cause_of.result c.unit_of-unit.ensures c.table_of.ensures.table c.requires.plain (c.in-None.ensures file r holds) c.cause_of.ensures
