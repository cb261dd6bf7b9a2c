use Rattle.std.proofs.Common.{ℕ, List, length, subst}
use Rattle.std.proofs.lemmas.Result.{err_from_is_err_and}
use Rattle.list_model.specs.declared.context.Context.{Context}
use Rattle.list_model.specs.declared.entry.ListKind.{ListKind}
use Rattle.list_model.specs.Items.{FaultIndexes}
use Rattle.value_links.specs.Parts.{lists_in, section_held}
use Rattle.value_links.specs.inside.NamedLists.{HasUnit, FaultLookingBy}
use Rattle.value_links.proofs.ListBytes.{refused_for}
use Rattle.value_links.proofs.ListContexts.{slots_alone, first_unit, first_context}
use Rattle.value_links.proofs.lists.meaning_of.Goals as goal
use Rattle.value_links.specs.inside.Namings.{first_naming}

pub returns-then-unit-clause-looked : goal.returns-then-unit-clause-looked
returns-then-unit-clause-looked c = λ (u : ℕ) (has : HasUnit c.args.named.now u).
    absurd (slots_alone (section_held (lists_in c.args.parts.now c.args.kind)) (length c.args.parts.now.units.units.items) c.args.named.now c.requires.order c.requires.here c.requires.named c.requires.few c.if-unit.true u has)

pub returns-in_err-meaning-clause-fault : goal.returns-in_err-meaning-clause-fault
returns-in_err-meaning-clause-fault c =
    let named : List (ℕ × ℕ) = c.args.named.now in
    let of : ListKind = c.args.kind in
    let contexts : List Context = c.args.parts.now.contexts.items in
    let raws = c.args.raw.now.items in
    let unit : HasUnit named (first_naming named).1 = first_unit named c.requires.some c.if-unit.false in
    let owned = first_context (section_held (lists_in c.args.parts.now c.args.kind)) (length c.args.parts.now.units.units.items) named contexts c.index-owned.result.now c.requires.named c.requires.some c.requires.lists.contexts c.if-unit.false c.index-owned.ensures in
    let p = err_from_is_err_and c.from_residual.result c.from_residual.ensures.1 in
    rw (p.1, p.2) (refused_for (FaultIndexes of c.index-owned.result.now raws) (FaultLookingBy of contexts named raws) (λ kind place f. ((first_naming named).1, unit, subst (λ (z : Context). FaultIndexes of z raws kind place) owned f)) c.args.origin c.in_err-meaning.field-0.0 c.in_err-meaning.ensures.fault)
