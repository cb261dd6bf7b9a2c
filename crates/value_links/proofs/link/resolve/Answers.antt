use Rattle.std.proofs.Common.{◌≢◌, ℕ, List, sym, subst, refl}
use Rattle.std.specs.Prelude.{Option, Some, None}
use Rattle.form_codec.specs.declared.value.Value.{Value}
use Rattle.form_codec.specs.declared.value.Value.TheVariants as value
use Rattle.form_codec.specs.Values.{meant_in}
use Rattle.form_codec.specs.Forms.Meaning.{InUnit}
use Rattle.entry_read.specs.Units.{HeadAndForest}
use Rattle.value_links.specs.declared.link.Link.{Link}
use Rattle.value_links.specs.declared.link.Link.TheVariants.{Plain, Place}
use Rattle.value_links.specs.Reading.{Linkable, unit_at}
use Rattle.value_links.specs.Linked.Linked.{Itself}
use Rattle.value_links.specs.Parts.{HoldsParts}
use Rattle.value_links.specs.Links.{IsLinkFound}
use Rattle.value_links.specs.inside.Links.{IsSectionTargetFound, AreUnitsApart}
use Rattle.value_links.specs.inside.Checks.{IsNoExpr}
use Rattle.value_links.proofs.LinkedValues.{parts_apart, section_link, local_answer, local_link, no_local_link}
use Rattle.value_links.proofs.link.resolve.Goals as goal

pub returns-in_err-target-in-LocalRef : goal.returns-in_err-target-in-LocalRef
returns-in_err-target-in-LocalRef c = λ (file : List ℕ) (r : Linkable) (holds : HoldsParts file r c.args.parts.now).
    let parts = c.args.parts.now in
    let section = (unit_at r c.args.unit).forest.section in
    let n = c.in-LocalRef.offset in
    let found = local_answer file r parts holds c.args.unit c.args.id c.requires.unit c.unit_of.result.now n None c.unit_of.ensures c.in_err-target-in-LocalRef.ensures in
    let none : IsLinkFound r c.args.unit c.args.id c.args.name (InUnit n) None = no_local_link file r parts holds c.args.unit c.args.id c.requires.unit c.args.name n found in
    subst (λ (z : Value). IsLinkFound r c.args.unit c.args.id c.args.name (meant_in section z) c.from_residual.result) (sym c.in-LocalRef.is)
    (subst (λ (z : Option Link). IsLinkFound r c.args.unit c.args.id c.args.name (InUnit n) z) (sym c.from_residual.ensures) none)

pub returns-in_ok-target-in-LocalRef : goal.returns-in_ok-target-in-LocalRef
returns-in_ok-target-in-LocalRef c = λ (file : List ℕ) (r : Linkable) (holds : HoldsParts file r c.args.parts.now).
    let parts = c.args.parts.now in
    let section = (unit_at r c.args.unit).forest.section in
    let n = c.in-LocalRef.offset in
    let target = c.in_ok-target-in-LocalRef.target in
    let found = local_answer file r parts holds c.args.unit c.args.id c.requires.unit c.unit_of.result.now n (Some target) c.unit_of.ensures c.in_ok-target-in-LocalRef.ensures in
    subst (λ (z : Value). IsLinkFound r c.args.unit c.args.id c.args.name (meant_in section z) (Some (Place c.args.unit target))) (sym c.in-LocalRef.is)
    (local_link file r parts holds c.args.unit c.args.id c.requires.unit c.args.name n target found)

pub returns-in-SectionRef : goal.returns-in-SectionRef
returns-in-SectionRef c = λ (file : List ℕ) (r : Linkable) (holds : HoldsParts file r c.args.parts.now).
    let parts = c.args.parts.now in
    let section = (unit_at r c.args.unit).forest.section in
    let found : IsSectionTargetFound parts.units.units.items c.in-SectionRef.place c.section_target.result =
    subst (λ (z : List HeadAndForest). IsSectionTargetFound z c.in-SectionRef.place c.section_target.result) c.deref.ensures.value (c.section_target.ensures (subst AreUnitsApart (sym c.deref.ensures.value) (parts_apart file r parts holds))) in
    subst (λ (z : Value). IsLinkFound r c.args.unit c.args.id c.args.name (meant_in section z) c.section_target.result) (sym c.in-SectionRef.is) (section_link file r parts holds c.args.unit c.args.id c.args.name c.in-SectionRef.place c.section_target.result found)

pub returns-in-Offset : goal.returns-in-Offset
returns-in-Offset c = λ (file : List ℕ) (r : Linkable) (holds : HoldsParts file r c.args.parts.now).
    let section = (unit_at r c.args.unit).forest.section in
    subst (λ (z : Value). IsLinkFound r c.args.unit c.args.id c.args.name (meant_in section z) c.section_place.result) (sym c.in-Offset.is) (c.section_place.ensures file r holds)

pub returns-in-RangeIndex : goal.returns-in-RangeIndex
returns-in-RangeIndex c = λ (file : List ℕ) (r : Linkable) (holds : HoldsParts file r c.args.parts.now).
    let section = (unit_at r c.args.unit).forest.section in
    subst (λ (z : Value). IsLinkFound r c.args.unit c.args.id c.args.name (meant_in section z) c.slot_at.result) (sym c.in-RangeIndex.is) (c.slot_at.ensures file r holds)

pub returns-in-LocIndex : goal.returns-in-LocIndex
returns-in-LocIndex c = λ (file : List ℕ) (r : Linkable) (holds : HoldsParts file r c.args.parts.now).
    let section = (unit_at r c.args.unit).forest.section in
    subst (λ (z : Value). IsLinkFound r c.args.unit c.args.id c.args.name (meant_in section z) c.slot_at-in-LocIndex.result) (sym c.in-LocIndex.is) (c.slot_at-in-LocIndex.ensures file r holds)

-- any other value is what it says
itself : (r : Linkable) (u id name : ℕ) (section : List ℕ) (v : Value) → IsNoExpr v → ((n : ℕ) → v ≢ value.LocalRef n) → ((n : ℕ) → v ≢ value.SectionRef n) → ((n : ℕ) → v ≢ value.Offset n) → ((i : ℕ) → v ≢ value.LocIndex i) → ((i : ℕ) → v ≢ value.RangeIndex i) → IsLinkFound r u id name (meant_in section v) (Some Plain)
itself r u id name section (value.Expr span) plain _ _ _ _ _ = absurd plain
itself r u id name section (value.LocalRef n) _ other _ _ _ _ = absurd (other n refl)
itself r u id name section (value.SectionRef n) _ _ other _ _ _ = absurd (other n refl)
itself r u id name section (value.Offset n) _ _ _ other _ _ = absurd (other n refl)
itself r u id name section (value.LocIndex i) _ _ _ _ other _ = absurd (other i refl)
itself r u id name section (value.RangeIndex i) _ _ _ _ _ other = absurd (other i refl)
itself r u id name section v _ _ _ _ _ _ = (Itself (meant_in section v), refl, refl)

pub returns-in_default : goal.returns-in_default
returns-in_default c = λ file r holds. itself r c.args.unit c.args.id c.args.name (unit_at r c.args.unit).forest.section c.args.value.now c.requires.plain c.in_default.not-LocalRef c.in_default.not-SectionRef c.in_default.not-Offset c.in_default.not-LocIndex c.in_default.not-RangeIndex
