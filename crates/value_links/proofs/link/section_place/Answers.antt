use Rattle.std.proofs.Common.{inl, inr, ℕ, List, sym, subst, refl}
use Rattle.std.specs.Prelude.{Some}
use Rattle.list_model.specs.declared.entry.ListKind.TheVariants.{Ranges, Locations}
use Rattle.value_links.specs.declared.link.Link.TheVariants.{Kept as KeptPlace}
use Rattle.value_links.specs.Attributes.{OffsetClass, offset_class}
use Rattle.value_links.specs.Reading.{Linkable}
use Rattle.value_links.specs.Linked.{OffsetLinks}
use Rattle.value_links.specs.Linked.Linked.{Kept}
use Rattle.value_links.specs.Links.{IsFoundFor}
use Rattle.value_links.specs.Parts.{HoldsParts}
use Rattle.value_links.proofs.PartLinks.{contributions_held}
use Rattle.value_links.proofs.link.section_place.Goals as goal

pub list_at-requires : goal.list_at-requires
list_at-requires c = record { held = contributions_held c.args.parts.now Ranges c.requires.lists }

pub list_at-requires-then-is_of_locations : goal.list_at-requires-then-is_of_locations
list_at-requires-then-is_of_locations c = record { held = contributions_held c.args.parts.now Locations c.requires.lists }

pub base_at-requires : goal.base_at-requires
base_at-requires c = record { held = contributions_held c.args.parts.now Ranges c.requires.lists }

pub base_at-requires-in-140 : goal.base_at-requires-in-140
base_at-requires-in-140 c = record { held = contributions_held c.args.parts.now Locations c.requires.lists }

pub returns-in-16 : goal.returns-in-16
returns-in-16 c = λ (file : List ℕ) (r : Linkable) (holds : HoldsParts file r c.args.parts.now).
    subst (λ (z : ℕ). IsFoundFor (OffsetLinks r c.args.unit c.args.id (offset_class z) c.args.place) c.lines_at.result) (sym c.in-16.is) (c.lines_at.ensures file r c.args.unit c.args.id holds)

pub returns-then-is_of_ranges : goal.returns-then-is_of_ranges
returns-then-is_of_ranges c = λ (file : List ℕ) (r : Linkable) (holds : HoldsParts file r c.args.parts.now).
    subst (λ (z : OffsetClass). IsFoundFor (OffsetLinks r c.args.unit c.args.id z c.args.place) c.list_at.result) (sym (c.is_of_ranges.ensures.0 c.if-is_of_ranges.true)) (c.list_at.ensures file r c.args.unit c.args.id holds)

pub returns-then-is_of_locations : goal.returns-then-is_of_locations
returns-then-is_of_locations c = λ (file : List ℕ) (r : Linkable) (holds : HoldsParts file r c.args.parts.now).
    subst (λ (z : OffsetClass). IsFoundFor (OffsetLinks r c.args.unit c.args.id z c.args.place) c.list_at-then-is_of_locations.result) (sym (c.is_of_locations.ensures.0 c.if-is_of_locations.true)) (c.list_at-then-is_of_locations.ensures file r c.args.unit c.args.id holds)

pub returns-in-116 : goal.returns-in-116
returns-in-116 c = λ (file : List ℕ) (r : Linkable) (holds : HoldsParts file r c.args.parts.now).
    subst (λ (z : ℕ). IsFoundFor (OffsetLinks r c.args.unit c.args.id (offset_class z) c.args.place) c.base_at.result) (sym c.in-116.is) (c.base_at.ensures file r c.args.unit c.args.id holds)

pub returns-in-140 : goal.returns-in-140
returns-in-140 c = λ (file : List ℕ) (r : Linkable) (holds : HoldsParts file r c.args.parts.now).
    subst (λ (z : ℕ). IsFoundFor (OffsetLinks r c.args.unit c.args.id (offset_class z) c.args.place) c.base_at-in-140.result) (sym c.in-140.is) (c.base_at-in-140.ensures file r c.args.unit c.args.id holds)

pub returns-in-115 : goal.returns-in-115
returns-in-115 c = λ (file : List ℕ) (r : Linkable) (holds : HoldsParts file r c.args.parts.now).
    subst (λ (z : ℕ). IsFoundFor (OffsetLinks r c.args.unit c.args.id (offset_class z) c.args.place) c.addresses_at.result) (sym c.in-115.is) (c.addresses_at.ensures file r c.args.unit c.args.id holds)

pub returns-in-114 : goal.returns-in-114
returns-in-114 c = λ (file : List ℕ) (r : Linkable) (holds : HoldsParts file r c.args.parts.now). elim c.in-114.is [
  | inl is ↦ subst (λ (z : ℕ). IsFoundFor (OffsetLinks r c.args.unit c.args.id (offset_class z) c.args.place) (Some (KeptPlace c.args.place))) (sym is) (Kept c.args.place, refl, refl)
  | inr is ↦ subst (λ (z : ℕ). IsFoundFor (OffsetLinks r c.args.unit c.args.id (offset_class z) c.args.place) (Some (KeptPlace c.args.place))) (sym is) (Kept c.args.place, refl, refl)
]

pub returns-in-8503 : goal.returns-in-8503
returns-in-8503 c = λ (file : List ℕ) (r : Linkable) (holds : HoldsParts file r c.args.parts.now).
    subst (λ (z : ℕ). IsFoundFor (OffsetLinks r c.args.unit c.args.id (offset_class z) c.args.place) c.views_at.result) (sym c.in-8503.is) (c.views_at.ensures file r holds)
