use Rattle.std.proofs.Common.{◌∙◌, ℕ, List, sym}
use Rattle.value_links.specs.Reading.{Linkable}
use Rattle.value_links.specs.Parts.{HoldsParts}
use Rattle.value_links.proofs.OpLinks.{type_named}
use Rattle.value_links.proofs.operations.base_type.Goals as goal

pub returns-else-is_generic : goal.returns-else-is_generic
returns-else-is_generic c = λ (file : List ℕ) (r : Linkable) (holds : HoldsParts file r c.args.parts.now).
    type_named r c.args.unit c.args.op.now.code c.args.op.now.a c.unit_entry.result (sym c.is_generic.ensures ∙ c.if-is_generic.false) (c.unit_entry.ensures file r holds)
