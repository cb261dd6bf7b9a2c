use Rattle.std.proofs.Common.{ℕ, List, sym, subst}
use Rattle.form_codec.specs.declared.value.Value.{Value}
use Rattle.form_codec.specs.Forms.Meaning.{SectionPlace}
use Rattle.form_codec.specs.Values.{meant_in}
use Rattle.std.specs.Prelude.{Option, Some}
use Rattle.list_model.specs.declared.entry.ListKind.TheVariants.{Locations}
use Rattle.value_links.specs.Reading.{Linkable, unit_at}
use Rattle.value_links.specs.Parts.{HoldsParts}
use Rattle.value_links.proofs.PartLinks.{contributions_held}
use Rattle.value_links.proofs.Locating.{IsPlaceTold, offset_told, no_offset_told, index_told}
use Rattle.value_links.proofs.located.place_told.Goals as goal

pub holder_of-requires : goal.holder_of-requires
holder_of-requires c = record { tiled = contributions_held c.args.parts.now Locations c.requires.lists }

pub told_by-requires-clause-tiled : goal.told_by-requires-clause-tiled
told_by-requires-clause-tiled c = contributions_held c.args.parts.now Locations c.requires.lists

pub returns-in_err-holder_of-in-Offset : goal.returns-in_err-holder_of-in-Offset
returns-in_err-holder_of-in-Offset c = λ (file : List ℕ) (r : Linkable) (holds : HoldsParts file r c.args.parts.now).
    subst (λ (z : Value). IsPlaceTold r c.args.unit (meant_in (unit_at r c.args.unit).forest.section z) c.from_residual.result) (sym c.in-Offset.is)
    (subst (λ (z : Option ℕ). IsPlaceTold r c.args.unit (SectionPlace c.in-Offset.place) z) (sym c.from_residual.ensures) (no_offset_told file r c.args.parts.now holds c.args.unit c.in-Offset.place c.in_err-holder_of-in-Offset.ensures))

pub returns-in_ok-holder_of-in-Offset : goal.returns-in_ok-holder_of-in-Offset
returns-in_ok-holder_of-in-Offset c = λ (file : List ℕ) (r : Linkable) (holds : HoldsParts file r c.args.parts.now).
    subst (λ (z : Value). IsPlaceTold r c.args.unit (meant_in (unit_at r c.args.unit).forest.section z) (Some c.in-Offset.place)) (sym c.in-Offset.is) (offset_told file r c.args.parts.now holds c.args.unit c.in-Offset.place c.in_ok-holder_of-in-Offset.field-0 c.in_ok-holder_of-in-Offset.ensures)

pub returns-in_ok-part-in-LocIndex : goal.returns-in_ok-part-in-LocIndex
returns-in_ok-part-in-LocIndex c = λ (file : List ℕ) (r : Linkable) (holds : HoldsParts file r c.args.parts.now).
    let found = c.in_ok-part-in-LocIndex in
    let based = found.ensures.slot file r holds in
    subst (λ (z : Value). IsPlaceTold r c.args.unit (meant_in (unit_at r c.args.unit).forest.section z) (Some c.told_by.result)) (sym c.in-LocIndex.is) (index_told file r c.args.parts.now holds c.args.unit c.in-LocIndex.index found.part found.slot c.told_by.result based.0 based.1 c.told_by.ensures)
