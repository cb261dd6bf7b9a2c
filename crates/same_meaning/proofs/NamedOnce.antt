-- What an operation names is one thing, and what is found tells it.
use Rattle.std.proofs.Common.{◌≡◌, ◌≢◌, ◌≤◌, ◌<◌, ◌∙◌, inl, inr, true≢false, ℕ, length, sym, ap, subst, refl, arith, List}
use Rattle.std.specs.Prelude.{Option, Some, None}
use Rattle.std.proofs.lemmas.Bool.{cases_lt}
use Rattle.std.proofs.lemmas.List.{get_or_past}
use Rattle.expr_ops.specs.declared.op.Op.{Op}
use Rattle.expr_ops.specs.declared.names.Named.{Named}
use Rattle.expr_ops.specs.declared.names.Named.TheVariants.{Nothing, BaseType, UnitEntry, SectionEntry}
use Rattle.expr_ops.specs.Names.{named_by}
use Rattle.form_codec.specs.Forms.Meaning.{InUnit, InSection}
use Rattle.entry_arena.specs.declared.entry.Target.TheVariants.{Entry as TheEntry}
use Rattle.entry_arena.specs.Arena.{IsEntryAt}
use Rattle.value_links.specs.declared.operations.OpLink.{OpLink}
use Rattle.value_links.specs.declared.operations.OpLink.TheVariants as op_link
use Rattle.value_links.specs.Reading.{UnitRead, Linkable, no_unit, unit_at}
use Rattle.value_links.specs.Whole.{IsReadToLinks}
use Rattle.value_links.specs.Linked.Linked.{Refers}
use Rattle.value_links.specs.Laws.{OneLinked}
use Rattle.value_links.specs.Links.{IsOpLinkOf, IsOpLinkFound, IsNamedThing}
use Rattle.value_links.specs.Operations.{OpTarget, NamesUnitEntry, NamesSectionEntry, LinksReference}
use Rattle.value_links.specs.Operations.OpTarget.{NoTarget, GenericType, AnEntry}
use Rattle.same_meaning.specs.inside.Expressions.{IsFoundOf, TellsNamed}

-- past the last unit no entry stands
no_entry : (r : Linkable) (u id place : ℕ) → length r.units ≤ u → IsEntryAt (unit_at r u).forest id place → ⊥
no_entry r u id place past (inside, here) =
    let none : unit_at r u ≡ no_unit = get_or_past r.units u no_unit past in
    let size : length (unit_at r u).forest.entries ≡ 0 = ap (λ (z : UnitRead). length z.forest.entries) none in
    omega (arith, size, inside)

unit_known : (r : Linkable) (u id place : ℕ) → IsEntryAt (unit_at r u).forest id place → u < length r.units
unit_known r u id place here = elim (cases_lt u (length r.units)) [ inl less ↦ less | inr past ↦ absurd (no_entry r u id place past here) ]

module _ (one : OneLinked) (file : List ℕ) (r : Linkable) (read : IsReadToLinks file r) where
  unit_entry_once : (u n : ℕ) (a b : OpTarget) → NamesUnitEntry r u n a → NamesUnitEntry r u n b → a ≡ b
  unit_entry_once u n a b (i, here, e) (j, there, f) =
      let known : u < length r.units = unit_known r u i _ here in
      let same : Refers u (TheEntry i) ≡ Refers u (TheEntry j) = one file r u 0 0 (InUnit n) (Refers u (TheEntry i)) (Refers u (TheEntry j)) read known (TheEntry i, here, refl) (TheEntry j, there, refl) in
      let entry : i ≡ j = cc (same) in
      e ∙ ap (AnEntry u) entry ∙ sym f

  section_entry_once : (n : ℕ) (a b : OpTarget) → NamesSectionEntry r n a → NamesSectionEntry r n b → a ≡ b
  section_entry_once n a b (v, i, known, here, e) (w, j, other, there, f) =
      let same : Refers v (TheEntry i) ≡ Refers w (TheEntry j) = one file r v 0 0 (InSection n) (Refers v (TheEntry i)) (Refers w (TheEntry j)) read known (v, TheEntry i, (known, here), refl) (w, TheEntry j, (other, there), refl) in
      let unit : v ≡ w = cc (same) in
      let entry : i ≡ j = cc (same) in
      e ∙ ap (λ (z : ℕ). AnEntry z i) unit ∙ ap (AnEntry w) entry ∙ sym f

  named_once : (u : ℕ) (named : Named) (code n : ℕ) (a b : OpTarget) → LinksReference r u named code n a → LinksReference r u named code n b → a ≡ b
  named_once u Nothing code n a b e f = e ∙ sym f
  named_once u BaseType code n a b (inl (generic, e)) (inl (also, f)) = e ∙ sym f
  named_once u BaseType code n a b (inl (generic, e)) (inr (plain, there)) = absurd (true≢false (sym generic ∙ plain))
  named_once u BaseType code n a b (inr (plain, here)) (inl (generic, f)) = absurd (true≢false (sym generic ∙ plain))
  named_once u BaseType code n a b (inr (plain, here)) (inr (also, there)) = unit_entry_once u n a b here there
  named_once u UnitEntry code n a b here there = unit_entry_once u n a b here there
  named_once u SectionEntry code n a b here there = section_entry_once n a b here there

  -- what is found of an operation in an expression of a unit
  pub told_found : (u : ℕ) (op : Op) (found : Option OpLink) → IsOpLinkFound r u op found → TellsNamed r u op found
  told_found u op None none thing names = none thing names
  told_found u op (Some link) (other_thing, named, tells) thing names =
      subst (λ (z : OpTarget). IsOpLinkOf z link) (named_once u (named_by op.code) op.code op.a other_thing thing named names) tells

  -- and of one that names an entry of any unit
  section_told : (n : ℕ) (found : Option OpLink) → IsNamedThing (NamesSectionEntry r n) found → (thing : OpTarget) → NamesSectionEntry r n thing → IsFoundOf thing found
  section_told n None none thing names = none thing names
  section_told n (Some link) (other_thing, named, tells) thing names =
      subst (λ (z : OpTarget). IsOpLinkOf z link) (section_entry_once n other_thing thing named names) tells

  pub told_section : (u : ℕ) (op : Op) (found : Option OpLink) → named_by op.code ≡ SectionEntry → IsNamedThing (NamesSectionEntry r op.a) found → TellsNamed r u op found
  told_section u op found is other_thing thing names =
      section_told op.a found other_thing thing (subst (λ (z : Named). LinksReference r u z op.code op.a thing) is names)

-- where there is no unit, only the generic type is named of what counts in one
alone_type : (r : Linkable) (code n : ℕ) (thing : OpTarget) → LinksReference r (length r.units) BaseType code n thing → thing ≡ GenericType
alone_type r code n thing (inl (generic, e)) = e
alone_type r code n thing (inr (plain, (id, here, e))) = absurd (no_entry r (length r.units) id _ (omega arith) here)

pub told_type : (r : Linkable) (op : Op) → named_by op.code ≡ BaseType → TellsNamed r (length r.units) op (Some op_link.Generic)
told_type r op is thing names =
    let type : thing ≡ GenericType = alone_type r op.code op.a thing (subst (λ (z : Named). LinksReference r (length r.units) z op.code op.a thing) is names) in
    subst (λ (z : OpTarget). IsOpLinkOf z op_link.Generic) (sym type) refl

alone_plain : (r : Linkable) (named : Named) (code n : ℕ) (thing : OpTarget) → named ≢ BaseType → named ≢ SectionEntry → LinksReference r (length r.units) named code n thing → thing ≡ NoTarget
alone_plain r Nothing code n thing type entry e = e
alone_plain r BaseType code n thing type entry names = absurd (type refl)
alone_plain r UnitEntry code n thing type entry (id, here, e) = absurd (no_entry r (length r.units) id _ (omega arith) here)
alone_plain r SectionEntry code n thing type entry names = absurd (entry refl)

pub told_plain : (r : Linkable) (op : Op) → named_by op.code ≢ BaseType → named_by op.code ≢ SectionEntry → TellsNamed r (length r.units) op (Some op_link.Plain)
told_plain r op type entry thing names =
    let none : thing ≡ NoTarget = alone_plain r (named_by op.code) op.code op.a thing type entry names in
    subst (λ (z : OpTarget). IsOpLinkOf z op_link.Plain) (sym none) refl

-- WHAT IS FOUND

told_once : (a b : OpTarget) (link : OpLink) → IsOpLinkOf a link → IsOpLinkOf b link → a ≡ b
told_once NoTarget NoTarget link e f = refl
told_once NoTarget GenericType link e f = absurd (cc (e, f))
told_once NoTarget (AnEntry v j) link e f = absurd (cc (e, f))
told_once GenericType NoTarget link e f = absurd (cc (e, f))
told_once GenericType GenericType link e f = refl
told_once GenericType (AnEntry v j) link e f = absurd (cc (e, f))
told_once (AnEntry u i) NoTarget link e f = absurd (cc (e, f))
told_once (AnEntry u i) GenericType link e f = absurd (cc (e, f))
told_once (AnEntry u i) (AnEntry v j) link e f =
    let unit : u ≡ v = cc (e, f) in
    let entry : i ≡ j = cc (e, f) in
    ap (λ (z : ℕ). AnEntry z i) unit ∙ ap (AnEntry v) entry

-- a link tells one thing
pub found_once : (a b : OpTarget) (found : Option OpLink) → IsFoundOf a found → IsFoundOf b found → a ≡ b
found_once a b None tells other = absurd tells
found_once a b (Some link) tells other = told_once a b link tells other

link_once : (thing : OpTarget) (a b : OpLink) → IsOpLinkOf thing a → IsOpLinkOf thing b → a ≡ b
link_once NoTarget a b e f = e ∙ sym f
link_once GenericType a b e f = e ∙ sym f
link_once (AnEntry unit id) a b e f = e ∙ sym f

-- and one link tells it
pub found_alike : (thing : OpTarget) (a b : Option OpLink) → IsFoundOf thing a → IsFoundOf thing b → a ≡ b
found_alike thing None b tells other = absurd tells
found_alike thing (Some a) None tells other = absurd other
found_alike thing (Some a) (Some b) tells other = ap (λ (z : OpLink). Some z) (link_once thing a b tells other)
