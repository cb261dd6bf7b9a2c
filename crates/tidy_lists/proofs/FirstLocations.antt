-- The first location of an entry, and the base that a root gives, by the numbers of their columns.
use Rattle.std.proofs.Common.{◌≡◌, ◌<◌, ◌++◌, ◌∙◌, ℕ, zero, suc, List, [], ◌∷◌, length, get_or, Bool, true, false, sym, ap, subst, refl, arith}
use Rattle.std.specs.Prelude.{filter, if◌then◌else◌}
use Rattle.std.proofs.Math.Seq.{get_or-append_seam}
use Rattle.std.proofs.lemmas.List.{length-append, get_or_append_left}
use Rattle.form_codec.specs.declared.value.Value.{Value}
use Rattle.form_codec.specs.Forms.{Meaning}
use Rattle.form_codec.specs.Forms.Meaning.{SectionPlace}
use Rattle.form_codec.specs.Values.{meant_in}
use Rattle.entry_arena.proofs.SpellingLaws.{attributes_count, attribute_at}
use Rattle.list_model.specs.declared.entry.ListKind.TheVariants.{Locations}
use Rattle.value_links.specs.Attributes.{loclists_base}
use Rattle.value_links.specs.Linked.{is_located, TellsPlace, IsFirstLocated}
use Rattle.value_links.specs.ListPlaces.{IsOffsetsAt, IsBaseOf}
use Rattle.value_links.specs.Reading.{Reading, UnitRead, unit_at}
use Rattle.value_links.specs.Sections.{debug_info, debug_abbrev}
use Rattle.value_links.specs.Values.{entry_of, declaration_of, values_of, described_at}
use Rattle.value_links.specs.Whole.{IsReading}
use Rattle.value_links.proofs.Causes.{own_value, own_count}
use Rattle.value_links.proofs.HeldUnits.{unit_owners}
use Rattle.written_files.proofs.SameValues.{name_in, meaning_in}

-- WHAT STANDS BEFORE

none_kept : {X : Type 0} (b : Bool) (x : X) (rest : List X) → (if b then x ∷ rest else rest) ≡ [] → (b ≡ false) × (rest ≡ [])
none_kept true x rest e = absurd (cc)
none_kept false x rest e = (refl, e)

none_passes : {X : Type 0} (test : X → Bool) (before : List X) (i : ℕ) (d : X) → filter test before ≡ [] → i < length before →
    test (get_or before i d) ≡ false
none_passes test [] i d none inside = absurd (omega (arith, inside))
none_passes test (b ∷ before) zero d none inside = (none_kept (test b) b (filter test before) none).0
none_passes test (b ∷ before) (suc i) d none inside = none_passes test before i d (none_kept (test b) b (filter test before) none).1 (omega (arith, inside))

-- the column of an entry in which its first location stands, which tells a place
pub record IsLocatedAt (r : Reading) (u id k list : ℕ) : Type 0 where
  pub inside : k < (entry_of (unit_at r.links u) id).count
  pub located : is_located (name_in (unit_at r.links u) id k, meaning_in (unit_at r.links u) id k) ≡ true
  pub tells : TellsPlace r.links u (meaning_in (unit_at r.links u) id k) list
  pub first : (i : ℕ) → i < k → is_located (name_in (unit_at r.links u) id i, meaning_in (unit_at r.links u) id i) ≡ false

-- the column of a root in which its first base of location lists stands, which names a contribution
pub record IsBaseAt (r : Reading) (u k p : ℕ) : Type 0 where
  pub inside : k < (entry_of (unit_at r.links u) 0).count
  pub named : name_in (unit_at r.links u) 0 k ≡ loclists_base
  pub n : ℕ
  pub means : meaning_in (unit_at r.links u) 0 k ≡ SectionPlace n
  pub at : IsOffsetsAt r.links.locations n p
  pub first : (i m : ℕ) → i < k → name_in (unit_at r.links u) 0 i ≡ loclists_base → meaning_in (unit_at r.links u) 0 i ≡ SectionPlace m → ⊥

module _ (file : List ℕ) (r : Reading) (read : IsReading file r) (u : ℕ) (inside : u < length r.links.units) where
  abbrev unit : UnitRead
  unit = unit_at r.links u

  module _ (id : ℕ) (known : id < length unit.forest.entries) where
    abbrev attributes : List (ℕ × Meaning)
    attributes = (described_at unit id).attributes

    abbrev count : ℕ
    count = (entry_of unit id).count

    values_same : length (values_of unit id) ≡ length (declaration_of unit id).columns
    values_same =
        let owned = unit_owners (debug_info file) (debug_abbrev file) r.links.units read.links.units u inside in
        own_count unit.forest.values (entry_of unit id).first count (owned.inside id known) ∙ owned.counted id known

    columns_same : count ≡ length (declaration_of unit id).columns
    columns_same = (unit_owners (debug_info file) (debug_abbrev file) r.links.units read.links.units u inside).counted id known

    attributes_same : length attributes ≡ count
    attributes_same = attributes_count unit.forest.section (declaration_of unit id).columns (values_of unit id) values_same ∙ sym columns_same

    attribute_is : (k : ℕ) (d : ℕ × Meaning) → k < count → get_or attributes k d ≡ (name_in unit id k, meaning_in unit id k)
    attribute_is k d below =
        attribute_at unit.forest.section (declaration_of unit id).columns (values_of unit id) k d values_same (subst (λ (n : ℕ). k < n) columns_same below)
        ∙ ap (λ (v : Value). (name_in unit id k, meant_in unit.forest.section v)) (own_value unit.forest.values (entry_of unit id).first count k below)

    module _ (before : List (ℕ × Meaning)) (a : ℕ × Meaning) (after : List (ℕ × Meaning)) (parts : attributes ≡ before ++ a ∷ after) where
      before_few : length before < count
      before_few =
          let whole : length attributes ≡ length (before ++ a ∷ after) = ap (λ (z : List (ℕ × Meaning)). length z) parts in
          omega (arith, attributes_same, whole, length-append before (a ∷ after))

      here_is : a ≡ (name_in unit id (length before), meaning_in unit id (length before))
      here_is = sym (get_or-append_seam before a after a) ∙ ap (λ (z : List (ℕ × Meaning)). get_or z (length before) a) (sym parts) ∙ attribute_is (length before) a before_few

      earlier_is : (i : ℕ) (d : ℕ × Meaning) → i < length before → get_or before i d ≡ (name_in unit id i, meaning_in unit id i)
      earlier_is i d less = sym (get_or_append_left before (a ∷ after) d i less) ∙ ap (λ (z : List (ℕ × Meaning)). get_or z i d) (sym parts) ∙ attribute_is i d (let few = before_few in omega (arith, few, less))

    pub located_at : (list : ℕ) → IsFirstLocated r.links u id list → (k : ℕ) × IsLocatedAt r u id k list
    located_at list f =
        let is = here_is f.before f.attribute f.after f.parts in
        let k : ℕ = length f.before in (
          k,
          record {
            inside = before_few f.before f.attribute f.after f.parts;
            located = subst (λ (z : ℕ × Meaning). is_located z ≡ true) is f.located;
            tells = subst (λ (z : ℕ × Meaning). TellsPlace r.links u z.1 list) is f.tells;
            first = λ i less. subst (λ (z : ℕ × Meaning). is_located z ≡ false) (earlier_is f.before f.attribute f.after f.parts i f.attribute less) (none_passes is_located f.before i f.attribute f.first less);
          },
        )

  pub base_at : (p : ℕ) → 0 < length unit.forest.entries → IsBaseOf r.links u Locations p → (k : ℕ) × IsBaseAt r u k p
  base_at p known (n, f, at) =
      let is = here_is 0 known f.before (loclists_base, SectionPlace n) f.after f.parts in
      let k : ℕ = length f.before in (
        k,
        record {
          inside = before_few 0 known f.before (loclists_base, SectionPlace n) f.after f.parts;
          named = sym (ap (λ (z : ℕ × Meaning). z.0) is);
          n = n;
          means = sym (ap (λ (z : ℕ × Meaning). z.1) is);
          at = at;
          first = λ i m less name meaning.
              (let d : ℕ × Meaning = (loclists_base, SectionPlace m) in
              let there : get_or f.before i d ≡ d =
              earlier_is 0 known f.before (loclists_base, SectionPlace n) f.after f.parts i d less ∙ ap (λ (z : ℕ). (z, meaning_in unit 0 i)) name ∙ ap (λ (z : Meaning). (loclists_base, z)) meaning in
              f.first m (i, less, there));
        },
      )
