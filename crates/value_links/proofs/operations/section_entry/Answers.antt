use Rattle.std.proofs.Common.{ℕ, List, sym, subst}
use Rattle.std.specs.Prelude.{Some, None}
use Rattle.entry_read.specs.Units.{HeadAndForest}
use Rattle.value_links.specs.declared.link.Link.{Link}
use Rattle.value_links.specs.declared.link.Link.TheVariants.{Place}
use Rattle.value_links.specs.Reading.{Linkable}
use Rattle.value_links.specs.Operations.{NamesSectionEntry}
use Rattle.value_links.specs.Parts.{HoldsParts}
use Rattle.value_links.specs.inside.Links.{IsSectionTargetFound, AreUnitsApart}
use Rattle.value_links.specs.Links.{IsNamedThing}
use Rattle.value_links.proofs.LinkedValues.{parts_apart}
use Rattle.value_links.proofs.OpLinks.{section_unnamed, section_named, section_other}
use Rattle.value_links.proofs.operations.section_entry.Goals as goal

pub returns-in_err-link : goal.returns-in_err-link
returns-in_err-link c = λ (file : List ℕ) (r : Linkable) (holds : HoldsParts file r c.args.parts.now).
    let parts = c.args.parts.now in
    let found : IsSectionTargetFound parts.units.units.items c.args.place None = subst (λ (z : List HeadAndForest). IsSectionTargetFound z c.args.place None) c.deref.ensures.value (c.in_err-link.ensures (subst AreUnitsApart (sym c.deref.ensures.value) (parts_apart file r parts holds))) in
    subst (IsNamedThing (NamesSectionEntry r c.args.place)) (sym c.from_residual.ensures) (section_unnamed file r parts holds c.args.place found)

pub returns-in-Place : goal.returns-in-Place
returns-in-Place c = λ (file : List ℕ) (r : Linkable) (holds : HoldsParts file r c.args.parts.now).
    let parts = c.args.parts.now in
    let found : IsSectionTargetFound parts.units.units.items c.args.place (Some c.in_ok-link.link) = subst (λ (z : List HeadAndForest). IsSectionTargetFound z c.args.place (Some c.in_ok-link.link)) c.deref.ensures.value (c.in_ok-link.ensures (subst AreUnitsApart (sym c.deref.ensures.value) (parts_apart file r parts holds))) in
    let there : IsSectionTargetFound parts.units.units.items c.args.place (Some (Place c.in-Place.unit c.in-Place.target)) = subst (λ (z : Link). IsSectionTargetFound parts.units.units.items c.args.place (Some z)) c.in-Place.is found in
    subst (IsNamedThing (NamesSectionEntry r c.args.place)) (sym c.entry_in.ensures) (section_named file r parts holds c.args.place c.in-Place.unit c.in-Place.target there)

pub returns-in_default : goal.returns-in_default
returns-in_default c = λ (file : List ℕ) (r : Linkable) (holds : HoldsParts file r c.args.parts.now).
    let parts = c.args.parts.now in
    let found : IsSectionTargetFound parts.units.units.items c.args.place (Some c.in_ok-link.link) = subst (λ (z : List HeadAndForest). IsSectionTargetFound z c.args.place (Some c.in_ok-link.link)) c.deref.ensures.value (c.in_ok-link.ensures (subst AreUnitsApart (sym c.deref.ensures.value) (parts_apart file r parts holds))) in
    section_other file r parts holds c.args.place c.in_ok-link.link c.in_default.not-Place found
