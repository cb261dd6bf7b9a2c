-- Two valid files mean the same exactly where no reason says the contrary.
use Rattle.std.proofs.Common.{◌≡◌, ◌<◌, ◌∙◌, ◌⊎◌, inl, inr, ℕ, suc, List, [], ◌∷◌, length, map, sym, ap, subst, refl, arith}
use Rattle.std.specs.Prelude.{Option, Some, None, slice_index, slice_get}
use Rattle.dw_base.specs.declared.fault.Reach.TheVariants.{Wide}
use Rattle.elf_sections.specs.Elf.{section_count, body_of}
use Rattle.elf_sections.specs.Names.{name_of, is_written}
use Rattle.elf_sections.specs.Sections.{IsFirstNamed, HasNone}
use Rattle.elf_sections.specs.Faults.{IsRead}
use Rattle.elf_sections.proofs.Reaches.{read-wide}
use Rattle.elf_place.specs.Same.{SameImage}
use Rattle.companions.specs.declared.set.ArangeSet.{ArangeSet}
use Rattle.companions.specs.Aranges.{IsOutside, SetsTile}
use Rattle.list_model.specs.declared.entry.ListKind.TheVariants.{Ranges, Locations}
use Rattle.value_links.specs.Sections.{aranges_name, debug_aranges, section_named}
use Rattle.value_links.specs.Reading.{Reading, unit_starts}
use Rattle.value_links.specs.Debug.{Debug, UnitMeaning, Means, set_meaning, parts_of}
use Rattle.value_links.specs.Same.{SameAranges, Same}
use Rattle.value_links.proofs.SectionLaws.{sections_are_found}
use Rattle.value_links.proofs.SectionBytes.{none_named, first_named}
use Rattle.value_links.proofs.ReadingOnce.{reading_once}
use Rattle.value_links.proofs.DebugOnce.{debug_once}
use Rattle.same_meaning.specs.declared.reason.Reason.{Reason}
use Rattle.same_meaning.specs.declared.reason.Reason.TheVariants.{Kept, Rows, Table, Differs}
use Rattle.same_meaning.specs.Kept.{HasOtherAranges, SectionDiffers, KeptDiffers}
use Rattle.same_meaning.specs.Differences.{UnitsDifferAt, IsReason}
use Rattle.same_meaning.specs.Laws.{SameWithoutReason}
use Rattle.same_meaning.proofs.Stable.{stable_nat, stable_list, stable_option, same_everywhere}
use Rattle.same_meaning.proofs.StableMeanings.{stable_program, stable_part, stable_entry, stable_set}
use Rattle.same_meaning.proofs.KeptImages.{image_same, none_outside, none_field, none_place, none_body}
use Rattle.same_meaning.proofs.OwnAranges.{own_body, AreOther, other_aranges}
use Rattle.value_links.proofs.ValidImages.{image_in_order}

-- UNITS

same_unit : (x y : UnitMeaning) → ((e : ℕ) → UnitsDifferAt (Some x) (Some y) e → ⊥) → x ≡ y
same_unit x y same =
    let unit_type = stable_nat x.unit_type y.unit_type (λ differ. same 0 (inl (refl, inl (λ e. differ (sym e))))) in
    let signature = stable_nat x.signature y.signature (λ differ. same 0 (inl (refl, inr (inl (λ e. differ (sym e)))))) in
    let type_entry = stable_option stable_nat x.type_entry y.type_entry (λ differ. same 0 (inl (refl, inr (inr (λ e. differ (sym e)))))) in
    let forest = same_everywhere stable_entry x.forest y.forest (λ e differ. same e (inr differ)) in
    λ i. record { unit_type = unit_type i; signature = signature i; type_entry = type_entry i; forest = forest i }

same_units : (xs ys : List UnitMeaning) → ((u e : ℕ) → UnitsDifferAt (slice_get xs u) (slice_get ys u) e → ⊥) → xs ≡ ys
same_units [] [] same = refl
same_units [] (y ∷ ys) same = absurd (same 0 0 refl)
same_units (x ∷ xs) [] same = absurd (same 0 0 refl)
same_units (x ∷ xs) (y ∷ ys) same =
    let first : x ≡ y = same_unit x y (same 0) in
    let rest : xs ≡ ys = same_units xs ys (λ u. same (suc u)) in
    cc

no_difference : (unit : Option UnitMeaning) (e : ℕ) → UnitsDifferAt unit unit e → ⊥
no_difference None e differ = differ
no_difference (Some x) e (inl (here, inl other)) = other refl
no_difference (Some x) e (inl (here, inr (inl other))) = other refl
no_difference (Some x) e (inl (here, inr (inr other))) = other refl
no_difference (Some x) e (inr other) = other refl

-- SETS OF ADDRESS RANGES

no_sets : (section starts : List ℕ) (sets : List ArangeSet) → length section ≡ 0 → SetsTile section starts sets → sets ≡ []
no_sets section starts [] none tile = refl
no_sets section starts (set ∷ sets) none (is, stands, rest) = let inside = stands.whole.inside in absurd (omega arith)

-- one section is the first of a name, or none has it
named_cases : (file name : List ℕ) → ((i : ℕ) × IsFirstNamed file name i) ⊎ HasNone file name
named_cases file name = go (section_named file name) refl
  where
    go : (found : Option ℕ) → section_named file name ≡ found → ((i : ℕ) × IsFirstNamed file name i) ⊎ HasNone file name
    go None e = inr ((sections_are_found.missing file name).0 e)
    go (Some i) e = inl (i, (sections_are_found.found file name i).0 e)

module _ (a b : List ℕ) (ra : IsRead a Wide) (rb : IsRead b Wide) (c d : Debug) (means : Means a c) (other : Means b d) where
  abbrev r : Reading
  r = means.0

  abbrev s : Reading
  s = other.0

  -- NO REASON

  module _ (none : (reason : Reason) → IsReason a b c d reason → ⊥) where
    count : section_count b ≡ section_count a
    count = stable_nat _ _ (λ differ. none (Kept 0) (inl (differ, refl)))

    section_same : (i : ℕ) → i < section_count a → SectionDiffers a b i → ⊥
    section_same i inside differ = none (Kept i) (inr (count, inr (inside, differ)))

    image : SameImage (λ (i : ℕ). is_written (name_of a i)) a b
    image =
        image_same a b ra rb count
        (λ outside. none (Kept 0) (inr (count, inl (refl, outside))))
        (λ i inside differ. section_same i inside (inl differ))
        (λ i inside differ. section_same i inside (inr (inl differ)))
        (λ i inside differ. section_same i inside (inr (inr (inl differ))))
        (λ i inside differ. section_same i inside (inr (inr (inr (inl differ)))))

    -- the sets, where the section with a number is theirs
    module _ (i : ℕ) (first : IsFirstNamed a aranges_name i) where
      not_other : AreOther a b i r s → ⊥
      not_other differ = section_same i first.inside (inr (inr (inr (inr (record { named = first.named; r = r; s = s; read = means.1; again = other.1; other = differ })))))

      named_again : IsFirstNamed b aranges_name i
      named_again = record {
        inside = let inside = first.inside in let counted = count in omega arith;
        named = image.names i first.inside ∙ first.named;
        before = λ k below e. first.before k below (sym (image.names k (let inside = first.inside in omega arith)) ∙ e);
      }

      old_body : debug_aranges a ≡ body_of a i
      old_body = (first_named a aranges_name i first).0

      new_body : debug_aranges b ≡ body_of b i
      new_body = (first_named b aranges_name i named_again).0

      aranges_there : SameAranges a b
      aranges_there = record {
        r = r;
        read = means.1;
        size = ap (λ (z : List ℕ). length z) new_body ∙ stable_nat (length (body_of b i)) (length (body_of a i)) (λ differ. not_other (inl differ)) ∙ sym (ap (λ (z : List ℕ). length z) old_body);
        bytes = λ k outside. ap (λ (z : List ℕ). slice_index z k) new_body ∙ stable_nat (slice_index (body_of b i) k) (slice_index (body_of a i) k) (λ differ. not_other (inr (inl (k, outside, differ)))) ∙ sym (ap (λ (z : List ℕ). slice_index z k) old_body);
      }

      sets_there : map set_meaning s.sets ≡ map set_meaning r.sets
      sets_there = stable_list stable_set _ _ (λ differ. not_other (inr (inr differ)))

    -- and where no section is
    module _ (missing : HasNone a aranges_name) where
      missing_again : HasNone b aranges_name
      missing_again = λ k inside e. missing k (let counted = count in omega arith) (sym (image.names k (let counted = count in omega arith)) ∙ e)

      old_none : debug_aranges a ≡ []
      old_none = (none_named a aranges_name missing).0

      new_none : debug_aranges b ≡ []
      new_none = (none_named b aranges_name missing_again).0

      aranges_missing : SameAranges a b
      aranges_missing = record {
        r = r;
        read = means.1;
        size = ap (λ (z : List ℕ). length z) (new_none ∙ sym old_none);
        bytes = λ k outside. ap (λ (z : List ℕ). slice_index z k) (new_none ∙ sym old_none);
      }

      sets_missing : map set_meaning s.sets ≡ map set_meaning r.sets
      sets_missing =
          let old = no_sets (debug_aranges a) (unit_starts r.links.units) r.sets (ap (λ (z : List ℕ). length z) old_none) means.1.sets in
          let new = no_sets (debug_aranges b) (unit_starts s.links.units) s.sets (ap (λ (z : List ℕ). length z) new_none) other.1.sets in
          ap (map set_meaning) (new ∙ sym old)

    aranges_same : SameAranges a b × (map set_meaning s.sets ≡ map set_meaning r.sets)
    aranges_same = elim (named_cases a aranges_name) [
      | inl (i, first) ↦ (aranges_there i first, sets_there i first)
      | inr missing ↦ (aranges_missing missing, sets_missing missing)
    ]

    debug_same : c ≡ d
    debug_same =
        let programs = same_everywhere stable_program c.programs d.programs (λ p. none (Rows p)) in
        let units = same_units c.units d.units (λ u e. none (Differs u e)) in
        let ranges = same_everywhere stable_part c.ranges d.ranges (λ p. none (Table Ranges p)) in
        let locations = same_everywhere stable_part c.locations d.locations (λ p. none (Table Locations p)) in
        let aranges = means.2.aranges ∙ sym aranges_same.1 ∙ sym other.2.aranges in
        λ i. record { programs = programs i; units = units i; ranges = ranges i; locations = locations i; aranges = aranges i }

    pub no_reason_same : Same a b
    no_reason_same = record { debug = (c, means, subst (Means b) (sym debug_same) other); image = image; aranges = aranges_same.0 }

  -- THE SAME MEANING

  module _ (same : Same a b) where
    one_meaning : d ≡ c
    one_meaning = debug_once b d same.debug.0 other same.debug.2 ∙ debug_once a same.debug.0 c same.debug.1 means

    same_aranges : (i : ℕ) → i < section_count a → HasOtherAranges a b i → ⊥
    same_aranges i inside h =
        let size = same.image.headers.count in
        let named = same.image.names i inside ∙ h.named in
        let old = own_body a Wide i ra inside h.named in
        let new = own_body b Wide i rb (omega arith) named in
        let first = reading_once a same.aranges.r r same.aranges.read means.1 in
        elim (other_aranges a b i r s means.1 other.1 h.named h) [
          | inl differ ↦ differ (ap (λ (z : List ℕ). length z) (sym new) ∙ same.aranges.size ∙ ap (λ (z : List ℕ). length z) old)
          | inr more ↦ elim more [
            | inl (k, outside, differ) ↦ differ (ap (λ (z : List ℕ). slice_index z k) (sym new) ∙ same.aranges.bytes k (subst (λ (z : Reading). IsOutside z.sets k) (sym first) outside) ∙ ap (λ (z : List ℕ). slice_index z k) old)
            | inr differ ↦ differ (sym other.2.aranges ∙ ap (λ (z : Debug). z.aranges) one_meaning ∙ means.2.aranges)
          ]
        ]

    same_section : (i : ℕ) → i < section_count a → SectionDiffers a b i → ⊥
    same_section i inside (inl differ) = differ (same.image.names i inside)
    same_section i inside (inr (inl field)) = none_field a b ra same.image i inside field
    same_section i inside (inr (inr (inl place))) = none_place a b ra same.image i inside place
    same_section i inside (inr (inr (inr (inl body)))) = none_body a b ra same.image i inside body
    same_section i inside (inr (inr (inr (inr aranges)))) = same_aranges i inside aranges

    same_kept : (i : ℕ) → KeptDiffers a b i → ⊥
    same_kept i (inl (differ, here)) = differ same.image.headers.count
    same_kept i (inr (count, inl (here, outside))) = none_outside a b ra same.image outside
    same_kept i (inr (count, inr (inside, differ))) = same_section i inside differ

    pub same_no_reason : (reason : Reason) → IsReason a b c d reason → ⊥
    same_no_reason (Kept i) is = same_kept i is
    same_no_reason (Rows p) is = is (ap (λ (z : Debug). slice_get z.programs p) one_meaning)
    same_no_reason (Table kind p) is = is (ap (λ (z : Debug). slice_get (parts_of z kind) p) one_meaning)
    same_no_reason (Differs u e) is = no_difference (slice_get c.units u) e (subst (λ (z : Debug). UnitsDifferAt (slice_get c.units u) (slice_get z.units u) e) one_meaning is)
    same_no_reason reason is = is

pub same_without_reason : SameWithoutReason
same_without_reason a b first second c d valid again means other =
    let ra = read-wide a first (image_in_order a first valid) in
    let rb = read-wide b second (image_in_order b second again) in
    (same_no_reason a b ra rb c d means other, no_reason_same a b ra rb c d means other)
