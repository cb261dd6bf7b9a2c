-- .debug_aranges of a valid file is one section, and its sets are all of it.
use Rattle.std.proofs.Common.{◌≡◌, ◌≢◌, ◌<◌, ◌∙◌, ◌⊎◌, ◌↔◌, inl, inr, ℕ, List, length, map, sym, ap, subst}
use Rattle.std.specs.Prelude.{slice_index}
use Rattle.dw_base.specs.declared.fault.Reach.{Reach}
use Rattle.elf_sections.specs.Elf.{section_count, body_of}
use Rattle.elf_sections.specs.Names.{name_of, is_debug_name}
use Rattle.elf_sections.specs.Sections.{IsFirstNamed}
use Rattle.elf_sections.specs.Faults.{IsRead}
use Rattle.companions.specs.declared.set.ArangeSet.{ArangeSet}
use Rattle.companions.specs.Aranges.{IsOutside, SetsTile}
use Rattle.value_links.specs.Sections.{aranges_name, debug_aranges}
use Rattle.value_links.specs.Reading.{Reading, unit_starts}
use Rattle.value_links.specs.Whole.{IsReading}
use Rattle.value_links.specs.Debug.{set_meaning}
use Rattle.value_links.proofs.SectionBytes.{first_named}
use Rattle.value_links.proofs.ReadingOnce.{reading_once}
use Rattle.value_links.specs.World.{World}
use Rattle.same_meaning.specs.Kept.{HasOtherAranges}
use Rattle.same_meaning.specs.inside.Compared.{IsSomeWorld}
use Rattle.value_links.proofs.ValidImages.{image_in_order}
use Rattle.same_meaning.specs.inside.Parts.{DifferOutsideFields}

-- no other section of a file that is read has the name
pub is_first : (file : List ℕ) (reach : Reach) (i : ℕ) → IsRead file reach → i < section_count file → name_of file i ≡ aranges_name → IsFirstNamed file aranges_name i
is_first file reach i read inside named = record {
  inside = inside;
  named = named;
  before = λ k below same. read.sound.distinct k i below inside (ap is_debug_name named) (same ∙ sym named);
}

pub own_body : (file : List ℕ) (reach : Reach) (i : ℕ) → IsRead file reach → i < section_count file → name_of file i ≡ aranges_name → debug_aranges file ≡ body_of file i
own_body file reach i read inside named = (first_named file aranges_name i (is_first file reach i read inside named)).0

-- what differs of the section with a number, by what is read of the two files
abbrev pub AreOther : List ℕ → List ℕ → ℕ → Reading → Reading → Type 0
AreOther a b i r s =
    (length (body_of b i) ≢ length (body_of a i))
    ⊎ (((k : ℕ) × IsOutside r.sets k × (slice_index (body_of b i) k ≢ slice_index (body_of a i) k))
    ⊎ (map set_meaning s.sets ≢ map set_meaning r.sets))

module _ (a b : List ℕ) (i : ℕ) (r s : Reading) (read : IsReading a r) (again : IsReading b s) (named : name_of a i ≡ aranges_name) where
  outside_other : DifferOutsideFields (body_of a i) (body_of b i) r.sets → AreOther a b i r s
  outside_other (inl size) = inl size
  outside_other (inr at) = inr (inl at)

  pub outside_differs : DifferOutsideFields (body_of a i) (body_of b i) r.sets → HasOtherAranges a b i
  outside_differs differ = record { named = named; r = r; s = s; read = read; again = again; other = outside_other differ }

  pub units_differ : map set_meaning s.sets ≢ map set_meaning r.sets → HasOtherAranges a b i
  units_differ differ = record { named = named; r = r; s = s; read = read; again = again; other = inr (inr differ) }

  pub other_aranges : HasOtherAranges a b i → AreOther a b i r s
  other_aranges h =
      let first : h.r ≡ r = reading_once a h.r r h.read read in
      let second : h.s ≡ s = reading_once b h.s s h.again again in
      subst (λ (z : Reading). AreOther a b i r z) second (subst (λ (z : Reading). AreOther a b i z h.s) first h.other)

  none_by : (DifferOutsideFields (body_of a i) (body_of b i) r.sets → ⊥) → (map set_meaning s.sets ≢ map set_meaning r.sets → ⊥) → AreOther a b i r s → ⊥
  none_by outside units (inl size) = outside (inl size)
  none_by outside units (inr (inl at)) = outside (inr at)
  none_by outside units (inr (inr differ)) = units differ

  pub aranges_same : (DifferOutsideFields (body_of a i) (body_of b i) r.sets → ⊥) → (map set_meaning s.sets ≢ map set_meaning r.sets → ⊥) → HasOtherAranges a b i → ⊥
  aranges_same outside units h = none_by outside units (other_aranges h)

-- what worlds hold of both files, where the section with a number is .debug_aranges
module _ (first second : World) (v : IsSomeWorld first) (w : IsSomeWorld second) (i : ℕ) (inside : i < section_count first.image) (named : name_of first.image i ≡ aranges_name) (body after : List ℕ) (sets : List ArangeSet) (body_is : body ≡ body_of first.image i) (after_is : after ≡ body_of second.image i) (sets_are : sets ≡ first.sets) where
  sets_read : sets ≡ v.1.r.sets
  sets_read = sets_are ∙ v.1.holds.sets

  pub tile_held : (starts : List ℕ) × SetsTile body starts sets
  tile_held =
      let starts = unit_starts v.1.r.links.units in
      let own = own_body first.image v.0 i (image_in_order first.image v.0 v.1.valid) inside named in
      let tile = subst (λ (z : List ℕ). SetsTile z starts v.1.r.sets) (own ∙ sym body_is) v.1.read.sets in
      (starts, subst (λ (z : List ArangeSet). SetsTile body starts z) (sym sets_read) tile)

  outside_read : DifferOutsideFields body after sets → DifferOutsideFields (body_of first.image i) (body_of second.image i) v.1.r.sets
  outside_read differ =
      subst (λ (z : List ArangeSet). DifferOutsideFields (body_of first.image i) (body_of second.image i) z) sets_read
      (subst (λ (z : List ℕ). DifferOutsideFields (body_of first.image i) z sets) after_is
      (subst (λ (z : List ℕ). DifferOutsideFields z after sets) body_is differ))

  outside_held : DifferOutsideFields (body_of first.image i) (body_of second.image i) v.1.r.sets → DifferOutsideFields body after sets
  outside_held differ =
      subst (λ (z : List ArangeSet). DifferOutsideFields body after z) (sym sets_read)
      (subst (λ (z : List ℕ). DifferOutsideFields body z v.1.r.sets) (sym after_is)
      (subst (λ (z : List ℕ). DifferOutsideFields z (body_of second.image i) v.1.r.sets) (sym body_is) differ))

  pub differs_outside : DifferOutsideFields body after sets → HasOtherAranges first.image second.image i
  differs_outside differ = outside_differs first.image second.image i v.1.r w.1.r v.1.read w.1.read named (outside_read differ)

  -- and by the sets of the second file
  module _ (others : List ArangeSet) (others_are : others ≡ second.sets) where
    units_read : (map set_meaning others ≡ map set_meaning sets) ↔ (map set_meaning w.1.r.sets ≡ map set_meaning v.1.r.sets)
    units_read =
        let e = ap (map set_meaning) sets_read in
        let f = ap (map set_meaning) (others_are ∙ w.1.holds.sets) in
        (λ same. sym f ∙ same ∙ e, λ same. f ∙ same ∙ sym e)

    pub differs_by_units : map set_meaning others ≢ map set_meaning sets → HasOtherAranges first.image second.image i
    differs_by_units differ = units_differ first.image second.image i v.1.r w.1.r v.1.read w.1.read named (λ same. differ (units_read.1 same))

    pub differs_nowhere : (DifferOutsideFields body after sets → ⊥) → (map set_meaning others ≢ map set_meaning sets → ⊥) → HasOtherAranges first.image second.image i → ⊥
    differs_nowhere outside units h =
        aranges_same first.image second.image i v.1.r w.1.r v.1.read w.1.read named (λ differ. outside (outside_held differ)) (λ differ. units (λ same. differ (units_read.0 same))) h
