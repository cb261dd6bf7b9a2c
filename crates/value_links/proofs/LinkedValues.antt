-- What is found in what is held is what values refer to.
use Rattle.std.proofs.Common.{◌≡◌, ◌≢◌, ◌<◌, ◌+◌, ◌∙◌, ℕ, List, length, sym, ap, subst, refl}
use Rattle.std.specs.Prelude.{Option, Some, None, MatchOption, option_map}
use Rattle.form_codec.specs.Forms.Meaning.{InUnit, InSection}
use Rattle.entry_arena.specs.declared.entry.Target.{Target}
use Rattle.entry_arena.specs.Order.{IsInOrder}
use Rattle.entry_read.specs.Units.{HeadAndForest}
use Rattle.value_links.specs.declared.link.Link.{Link}
use Rattle.value_links.specs.declared.link.Link.TheVariants.{Plain, Place, Lines, List as AtList, Slot, Base, Views, Kept as KeptPlace}
use Rattle.value_links.specs.declared.parts.Parts.{Parts}
use Rattle.value_links.specs.Sections.{debug_info, debug_abbrev}
use Rattle.value_links.specs.Attributes.OffsetClass.{LinePtr}
use Rattle.value_links.specs.Reading.{Linkable, unit_at}
use Rattle.value_links.specs.World.{head_and_forest}
use Rattle.value_links.specs.Linked.{IsTargetAt, OffsetLinks}
use Rattle.value_links.specs.Linked.Linked.{Refers, Program}
use Rattle.value_links.specs.Parts.{HoldsParts}
use Rattle.value_links.specs.Links.{IsFoundFor, IsLinkFound, held_at}
use Rattle.value_links.specs.inside.Links.{program_among, IsTargetFound, IsSectionTargetFound, AreUnitsApart, AreProgramsApart}
use Rattle.value_links.proofs.HeldUnits.{held_count, held_is, units_apart, head_is, head_count, programs_apart}

module _ (file : List ℕ) (r : Linkable) (parts : Parts) (holds : HoldsParts file r parts) where
  pub parts_count : length parts.units.units.items ≡ length r.units
  parts_count = held_count r.units parts.units.units.items holds.units.units

  pub parts_apart : AreUnitsApart parts.units.units.items
  parts_apart = units_apart r.units parts.units.units.items holds.units.units (debug_info file) (debug_abbrev file) holds.read.units

  pub heads_apart : AreProgramsApart parts.programs.items
  heads_apart = programs_apart file r.programs parts.programs.items holds.programs holds.read.programs holds.few

  pub part_is : (u : ℕ) → u < length parts.units.units.items → held_at parts.units.units.items u ≡ head_and_forest (unit_at r u)
  part_is u inside = held_is r.units parts.units.units.items holds.units.units u (subst (λ (z : ℕ). u < z) parts_count inside)

  -- the program that is found among the headers, or none
  pub program_link : (u id n : ℕ) (found : Option ℕ) → MatchOption found ((i : ℕ) → i < length parts.programs.items → (program_among parts.programs.items i).at ≢ n) (λ i. (i < length parts.programs.items) × ((program_among parts.programs.items i).at ≡ n)) → IsFoundFor (OffsetLinks r u id LinePtr n) (option_map Lines found)
  program_link u id n (Some p) (inside, here) =
      let known : p < length r.programs = subst (λ (z : ℕ). p < z) (head_count file r.programs parts.programs.items holds.programs) inside in
      (Program p, (p, (known, sym (ap (λ z. z.at) (head_is file r.programs parts.programs.items holds.programs p known)) ∙ here), refl), refl)
  program_link u id n None none = λ linked (p, (known, here), e).
      none p (subst (λ (z : ℕ). p < z) (sym (head_count file r.programs parts.programs.items holds.programs)) known) (ap (λ z. z.at) (head_is file r.programs parts.programs.items holds.programs p known) ∙ here)

  module _ (u id : ℕ) where
    pub section_link : (name n : ℕ) (found : Option Link) → IsSectionTargetFound parts.units.units.items n found → IsLinkFound r u id name (InSection n) found
    section_link name n (Some (Place w target)) (inside, here) =
        (Refers w target, (w, target, (subst (λ (z : ℕ). w < z) parts_count inside, subst (λ (z : HeadAndForest). IsTargetAt z.forest target n) (part_is w inside) here), refl), refl)
    section_link name n (Some Plain) none = absurd none
    section_link name n (Some (Lines p)) none = absurd none
    section_link name n (Some (AtList kind k)) none = absurd none
    section_link name n (Some (Slot kind p i)) none = absurd none
    section_link name n (Some (Base kind p)) none = absurd none
    section_link name n (Some (Views list k)) none = absurd none
    section_link name n (Some (KeptPlace k)) none = absurd none
    section_link name n None none = λ linked (w, target, (known, here), e).
        let inside : w < length parts.units.units.items = subst (λ (z : ℕ). w < z) (sym parts_count) known in
        none w target inside (subst (λ (z : HeadAndForest). IsTargetAt z.forest target n) (sym (part_is w inside)) here)

    module _ (inside : u < length parts.units.units.items) where
      pub local_answer : (unit : HeadAndForest) (n : ℕ) (found : Option Target) → unit ≡ held_at parts.units.units.items u → (IsInOrder unit.forest → IsTargetFound unit.forest (unit.head.at + n) found) → IsTargetFound (held_at parts.units.units.items u).forest ((held_at parts.units.units.items u).head.at + n) found
      local_answer unit n found e is =
          subst (λ (z : HeadAndForest). IsTargetFound z.forest (z.head.at + n) found) e (is (subst (λ (z : HeadAndForest). IsInOrder z.forest) (sym e) (parts_apart.order u inside)))

      pub local_link : (name n : ℕ) (target : Target) → IsTargetFound (held_at parts.units.units.items u).forest ((held_at parts.units.units.items u).head.at + n) (Some target) → IsLinkFound r u id name (InUnit n) (Some (Place u target))
      local_link name n target here = (Refers u target, (target, subst (λ (z : HeadAndForest). IsTargetAt z.forest target (z.head.at + n)) (part_is u inside) here, refl), refl)

      pub no_local_link : (name n : ℕ) → IsTargetFound (held_at parts.units.units.items u).forest ((held_at parts.units.units.items u).head.at + n) None → IsLinkFound r u id name (InUnit n) None
      no_local_link name n none linked (target, here, e) = none target (subst (λ (z : HeadAndForest). IsTargetAt z.forest target (z.head.at + n)) (sym (part_is u inside)) here)
