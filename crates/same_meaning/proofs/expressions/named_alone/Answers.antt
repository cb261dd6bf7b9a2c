use Rattle.std.proofs.Common.{◌∙◌, length, sym}
use Rattle.same_meaning.proofs.NamedOnce.{told_section, told_type, told_plain}
use Rattle.same_meaning.proofs.expressions.named_alone.Goals as goal

pub returns-in-SectionEntry : goal.returns-in-SectionEntry
returns-in-SectionEntry c = λ r read holds.
    told_section c.one_meaning.ensures.linked c.args.world.now.image r.links read.links (length r.links.units) c.args.op.now c.resolve_place.result (sym c.in-SectionEntry.ensures) (c.resolve_place.ensures c.args.world.now.image r holds)

pub returns-in-BaseType : goal.returns-in-BaseType
returns-in-BaseType c = λ r read holds. told_type r.links c.args.op.now (sym c.in-BaseType.ensures)

pub returns-in_default : goal.returns-in_default
returns-in_default c = λ r read holds.
    told_plain r.links c.args.op.now (λ e. c.in_default.not-BaseType (c.named_by.ensures ∙ e)) (λ e. c.in_default.not-SectionEntry (c.named_by.ensures ∙ e))
