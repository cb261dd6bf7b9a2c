use Rattle.std.proofs.Common.{◌∙◌, ℕ, List, sym}
use Rattle.expr_ops.specs.declared.names.Named.TheVariants.{BaseType, UnitEntry, SectionEntry}
use Rattle.value_links.specs.Reading.{Linkable}
use Rattle.value_links.specs.Operations.{NamesUnitEntry, NamesSectionEntry, NamesType}
use Rattle.value_links.specs.Parts.{HoldsParts}
use Rattle.value_links.proofs.OpLinks.{found_as}
use Rattle.value_links.proofs.operations.resolve_op.Goals as goal

pub returns-in-BaseType : goal.returns-in-BaseType
returns-in-BaseType c = λ (file : List ℕ) (r : Linkable) (holds : HoldsParts file r c.args.parts.now).
    let op = c.args.op.now in
    found_as r c.args.unit op BaseType (NamesType r c.args.unit op.code op.a) (λ t named. named) (λ t named. named) c.base_type.result (sym c.named_by.ensures ∙ c.in-BaseType.is) (c.base_type.ensures file r holds)

pub returns-in-UnitEntry : goal.returns-in-UnitEntry
returns-in-UnitEntry c = λ (file : List ℕ) (r : Linkable) (holds : HoldsParts file r c.args.parts.now).
    let op = c.args.op.now in
    found_as r c.args.unit op UnitEntry (NamesUnitEntry r c.args.unit op.a) (λ t named. named) (λ t named. named) c.unit_entry.result (sym c.named_by.ensures ∙ c.in-UnitEntry.is) (c.unit_entry.ensures file r holds)

pub returns-in-SectionEntry : goal.returns-in-SectionEntry
returns-in-SectionEntry c = λ (file : List ℕ) (r : Linkable) (holds : HoldsParts file r c.args.parts.now).
    let op = c.args.op.now in
    found_as r c.args.unit op SectionEntry (NamesSectionEntry r op.a) (λ t named. named) (λ t named. named) c.section_entry.result (sym c.named_by.ensures ∙ c.in-SectionEntry.is) (c.section_entry.ensures file r holds)
