use denote.Enum.Bare.{same_true, sameb}
use Rattle.std.proofs.Common.{◌≡◌, ◌≢◌, ◌∙◌, length, true, false, Bool, refl, sym, ap, subst, rules}
use Rattle.std.specs.Prelude.{Option, Some, not}
use Rattle.std.proofs.lemmas.Bool.{true≢false}
use Rattle.std.proofs.lemmas.Option.{none-some}
use Rattle.expr_ops.specs.contracts.names.Named.{the_type}
use Rattle.expr_ops.specs.declared.names.Named.{Named}
use Rattle.expr_ops.specs.declared.names.Named.TheVariants.{SectionEntry}
use Rattle.expr_ops.specs.Names.{named_by}
use Rattle.value_links.specs.declared.operations.OpLink.{OpLink}
use Rattle.value_links.specs.declared.operations.OpLink.TheVariants as op_link
use Rattle.value_links.specs.Links.{IsNamedThing}
use Rattle.value_links.specs.Operations.{NamesSectionEntry}
use Rattle.rewriter.specs.inside.Held.{IsCounted}
use Rattle.rewriter.proofs.OpNumbers.{reference_counted}
use Rattle.rewriter.proofs.ListReferences.{none_past, nothing_named, section_found, section_placed, section_zero}
use Rattle.rewriter.proofs.list_expressions.section_number.Goals as goal

-- what a test of a name tells
other_name : (named : Named) → true ≡ not (sameb the_type named SectionEntry) → named ≢ SectionEntry
other_name named other same = true≢false (subst (λ (z : Named). true ≡ not (sameb the_type z SectionEntry)) same other)

not_other : (b : Bool) → false ≡ not b → b ≡ true
not_other true e = refl
not_other false e = absurd (true≢false (sym e))

one_name : (named : Named) → false ≡ not (sameb the_type named SectionEntry) → named ≡ SectionEntry
one_name named same = same_true the_type (search rules) named SectionEntry (not_other (sameb the_type named SectionEntry) same)

pub returns-then-ne-clause-number : goal.returns-then-ne-clause-number
returns-then-ne-clause-number c = λ file r thing holds names.
    nothing_named r.links c.args.places.now.items (length c.args.world.now.units) (named_by c.args.op.now.code) c.args.op.now.code c.args.op.now.a thing (none_past file c.args.world.now r holds)
    (subst (λ (z : Named). z ≢ SectionEntry) c.named_by.ensures (other_name c.named_by.result (sym c.if-ne.true ∙ c.ne.ensures))) names

pub entry_place-requires-clause-unit : goal.entry_place-requires-clause-unit
entry_place-requires-clause-unit c =
    let named : named_by c.args.op.now.code ≡ SectionEntry = sym c.named_by.ensures ∙ one_name c.named_by.result (sym c.if-ne.false ∙ c.ne.ensures) in
    let world = c.args.world.now in
    let is = c.requires.world in
    let link : c.resolve_place.result ≡ Some (op_link.Entry c.in-Some-Entry.unit c.in-Some-Entry.id) = c.in-Some-Entry.is ∙ ap (λ (z : OpLink). Some z) c.in-Some-Entry.field-0-is in
    let found = subst (λ (z : Option OpLink). IsNamedThing (NamesSectionEntry is.r.links c.args.op.now.a) z) link (c.resolve_place.ensures world.image is.r is.holds) in
    (section_placed world.image world is.r c.args.places.now.items c.args.op.now c.in-Some-Entry.unit c.in-Some-Entry.id is.holds c.requires.placed named found).1.unit

pub entry_place-requires-clause-entry : goal.entry_place-requires-clause-entry
entry_place-requires-clause-entry c =
    let named : named_by c.args.op.now.code ≡ SectionEntry = sym c.named_by.ensures ∙ one_name c.named_by.result (sym c.if-ne.false ∙ c.ne.ensures) in
    let world = c.args.world.now in
    let is = c.requires.world in
    let link : c.resolve_place.result ≡ Some (op_link.Entry c.in-Some-Entry.unit c.in-Some-Entry.id) = c.in-Some-Entry.is ∙ ap (λ (z : OpLink). Some z) c.in-Some-Entry.field-0-is in
    let found = subst (λ (z : Option OpLink). IsNamedThing (NamesSectionEntry is.r.links c.args.op.now.a) z) link (c.resolve_place.ensures world.image is.r is.holds) in
    (section_placed world.image world is.r c.args.places.now.items c.args.op.now c.in-Some-Entry.unit c.in-Some-Entry.id is.holds c.requires.placed named found).1.entry

pub returns-in-Some-Entry-clause-number : goal.returns-in-Some-Entry-clause-number
returns-in-Some-Entry-clause-number c = λ file r thing holds names.
    let op = c.args.op.now in
    let u = length c.args.world.now.units in
    let named : named_by op.code ≡ SectionEntry = sym c.named_by.ensures ∙ one_name c.named_by.result (sym c.if-ne.false ∙ c.ne.ensures) in
    let link : c.resolve_place.result ≡ Some (op_link.Entry c.in-Some-Entry.unit c.in-Some-Entry.id) = c.in-Some-Entry.is ∙ ap (λ (z : OpLink). Some z) c.in-Some-Entry.field-0-is in
    let found = subst (λ (z : Option OpLink). IsNamedThing (NamesSectionEntry r.links op.a) z) link (c.resolve_place.ensures file r holds) in
    reference_counted r.links c.args.places.now.items u op c.in-Some-Entry.unit c.in-Some-Entry.id c.entry_place.result (section_found r.links u op (op_link.Entry c.in-Some-Entry.unit c.in-Some-Entry.id) named found) (subst (λ (n : Named). IsCounted c.args.places.now.items u n c.in-Some-Entry.unit c.in-Some-Entry.id c.entry_place.result) (sym named) (sym c.entry_place.ensures.place))

pub returns-in_default-2-clause-number : goal.returns-in_default-2-clause-number
returns-in_default-2-clause-number c = λ file r thing holds names.
    let named : named_by c.args.op.now.code ≡ SectionEntry = sym c.named_by.ensures ∙ one_name c.named_by.result (sym c.if-ne.false ∙ c.ne.ensures) in
    section_zero r.links c.args.places.now.items (length c.args.world.now.units) c.args.op.now c.resolve_place.result named (c.resolve_place.ensures file r holds) (λ other id e. none-some (op_link.Entry other id) (sym c.in_default.is ∙ e)) thing names
