-- The values of a unit, by what the unit means: each is that of an attribute of the meaning of its entry.
use Rattle.std.proofs.Common.{◌≡◌, ◌<◌, ◌+◌, ◌∙◌, inl, inr, ℕ, zero, suc, List, [], length, get_or, false, sym, ap, subst, refl, arith}
use Rattle.std.specs.Prelude.{None}
use Rattle.std.proofs.lemmas.Bool.{cases_lt}
use Rattle.std.proofs.lemmas.List.{get_or-map, length-map}
use Rattle.std.proofs.lemmas.Slice.Zip.{AllZip-long}
use Rattle.form_codec.specs.declared.value.Value.{Value}
use Rattle.form_codec.specs.Forms.{Meaning}
use Rattle.form_codec.specs.Forms.Meaning.{Address}
use Rattle.form_codec.specs.Values.{meant_in}
use Rattle.abbrev_tables.specs.Listings.{spec_at}
use Rattle.entry_arena.specs.Arena.{value_at}
use Rattle.entry_arena.specs.Forests.{Described, described_by}
use Rattle.entry_arena.proofs.SpellingLaws.{attributes_count, attribute_at}
use Rattle.entry_read.specs.Places.{HaveOwners}
use Rattle.value_links.specs.Sections.{debug_info, debug_abbrev}
use Rattle.value_links.specs.Reading.{UnitRead, Reading, unit_at, declarations, IsUnitRead}
use Rattle.value_links.specs.Values.{HasValueAt, entry_of, declaration_of, values_of, described_at}
use Rattle.value_links.specs.Resolved.{Resolved, Resolves}
use Rattle.value_links.specs.Resolved.Resolved.{Kept}
use Rattle.value_links.specs.Whole.{IsReading}
use Rattle.value_links.specs.Debug.{EntryMeaning, UnitMeaning, described, MeansAttribute, MeansEntry, MeansUnit}
use Rattle.value_links.proofs.Causes.{own_value, own_count}
use Rattle.value_links.proofs.HeldUnits.{unit_is, unit_owners}
use Rattle.value_links.proofs.EntryValues.{column_stands}
use Rattle.written_files.proofs.Zips.{zip_at}

abbrev pub no_entry : EntryMeaning
no_entry = record { depth = 0; tag = 0; children = false; attributes = [] }

abbrev pub no_unit_meaning : UnitMeaning
no_unit_meaning = record { unit_type = 0; signature = 0; type_entry = None; forest = [] }

-- the attributes of an entry, and how many those of the entries before it are
abbrev pub attributes_in : List EntryMeaning → ℕ → List (ℕ × Resolved)
attributes_in forest id = (get_or forest id no_entry).attributes

abbrev pub count_before : List EntryMeaning → ℕ → ℕ
count_before forest zero = 0
count_before forest (suc id) = count_before forest id + length (attributes_in forest id)

abbrev pub attribute_with : List EntryMeaning → ℕ → ℕ → ℕ × Resolved
attribute_with forest id k = get_or (attributes_in forest id) k (0, Kept 0)

-- the name of the attribute in a column of an entry, and what its value says
abbrev pub name_in : UnitRead → ℕ → ℕ → ℕ
name_in unit id k = (spec_at (declaration_of unit id).columns k).name

abbrev pub meaning_in : UnitRead → ℕ → ℕ → Meaning
meaning_in unit id k = meant_in unit.forest.section (value_at unit.forest.values ((entry_of unit id).first + k))

-- the value of an entry in a column stands there, has this name and means this
pub record IsMeantBy (r : Reading) (u id k : ℕ) (attribute : ℕ × Resolved) : Type 0 where
  pub place : ℕ
  pub stands : HasValueAt (unit_at r.links u) id ((entry_of (unit_at r.links u) id).first + k) (name_in (unit_at r.links u) id k) (meaning_in (unit_at r.links u) id k) place
  pub named : attribute.0 ≡ name_in (unit_at r.links u) id k
  pub resolves : Resolves r u id (name_in (unit_at r.links u) id k) (meaning_in (unit_at r.links u) id k) attribute.1

module _ (file : List ℕ) (r : Reading) (read : IsReading file r) (u : ℕ) (inside : u < length r.links.units) (m : UnitMeaning) (means : MeansUnit r u m) where
  abbrev unit : UnitRead
  unit = unit_at r.links u

  is : IsUnitRead (debug_info file) (debug_abbrev file) unit
  is = unit_is (debug_info file) (debug_abbrev file) r.links.units read.links.units u inside

  owned : HaveOwners (declarations unit) unit.forest
  owned = unit_owners (debug_info file) (debug_abbrev file) r.links.units read.links.units u inside

  pub entries_counted : length m.forest ≡ length unit.forest.entries
  entries_counted =
      means.forest.count ∙ length-map unit.forest.entries (described_by unit.forest.section (declarations unit) unit.forest.values)

  module _ (id : ℕ) (entry : id < length m.forest) where
    known : id < length unit.forest.entries
    known = subst (λ (n : ℕ). id < n) entries_counted entry

    same_count : length (values_of unit id) ≡ length (declaration_of unit id).columns
    same_count = own_count unit.forest.values (entry_of unit id).first (entry_of unit id).count (owned.inside id known) ∙ owned.counted id known

    attributes_counted : length (described_at unit id).attributes ≡ (entry_of unit id).count
    attributes_counted = attributes_count unit.forest.section (declaration_of unit id).columns (values_of unit id) same_count ∙ sym (owned.counted id known)

    described_is : (d : Described) → get_or (described unit) id d ≡ described_at unit id
    described_is d =
        get_or-map (described_by unit.forest.section (declarations unit) unit.forest.values) unit.forest.entries id (record { at = 0; len = 0; depth = 0; decl = 0; first = 0; count = 0 }) d known

    entry_means : MeansEntry r u id (described_at unit id) (get_or m.forest id no_entry)
    entry_means =
        subst (λ (z : Described). MeansEntry r u id z (get_or m.forest id no_entry)) (described_is (described_at unit id)) (means.forest.each id (described_at unit id) no_entry entry)

    -- an entry has as many values as its meaning has attributes
    pub count_is : length (attributes_in m.forest id) ≡ (entry_of unit id).count
    count_is = AllZip-long (MeansAttribute r u id) (described_at unit id).attributes (attributes_in m.forest id) entry_means.attributes ∙ attributes_counted

    -- the value of a column means what the attribute does
    pub column_means : (k : ℕ) → k < length (attributes_in m.forest id) → IsMeantBy r u id k (attribute_with m.forest id k)
    column_means k below =
        let k_in : k < (entry_of unit id).count = subst (λ (n : ℕ). k < n) count_is below in
        let k_columns : k < length (declaration_of unit id).columns = subst (λ (n : ℕ). k < n) (owned.counted id known) k_in in
        let d : ℕ × Meaning = (0, Address 0) in
        let attribute = zip_at (MeansAttribute r u id) (described_at unit id).attributes (attributes_in m.forest id) k d (0, Kept 0) entry_means.attributes (subst (λ (n : ℕ). k < n) (sym attributes_counted) k_in) in
        let here : get_or (described_at unit id).attributes k d ≡ (name_in unit id k, meaning_in unit id k) =
        attribute_at unit.forest.section (declaration_of unit id).columns (values_of unit id) k d same_count k_columns
        ∙ ap (λ (v : Value). (name_in unit id k, meant_in unit.forest.section v)) (own_value unit.forest.values (entry_of unit id).first (entry_of unit id).count k k_in) in
        let (place, stands) = column_stands (debug_info file) (debug_abbrev file) unit is owned id k known k_in in
        record {
          place = place;
          stands = stands;
          named = attribute.name ∙ ap (λ (z : ℕ × Meaning). z.0) here;
          resolves = subst (λ (z : ℕ × Meaning). Resolves r u id z.0 z.1 (attribute_with m.forest id k).1) here attribute.value;
        }

  -- the values of an entry follow those of the entries before it
  pub first_is : (id : ℕ) → id < length m.forest → (entry_of unit id).first ≡ count_before m.forest id
  first_is zero entry = owned.first
  first_is (suc id) entry =
      let before : id < length m.forest = omega (arith, entry) in
      let same : id + 1 ≡ suc id = omega arith in
      let next : id + 1 < length unit.forest.entries = omega (arith, known (suc id) entry) in
      let follows : (entry_of unit (suc id)).first ≡ (entry_of unit id).first + (entry_of unit id).count = subst (λ (z : ℕ). (entry_of unit z).first ≡ (entry_of unit id).first + (entry_of unit id).count) same (owned.adjacent id next) in
      let first : (entry_of unit id).first ≡ count_before m.forest id = first_is id before in
      let count : length (attributes_in m.forest id) ≡ (entry_of unit id).count = count_is id before in
      omega (arith, follows, first, count)

  -- the values of the entries are all values
  pub values_counted : length unit.forest.values ≡ count_before m.forest (length m.forest)
  values_counted = all_counted (length m.forest) refl
    where
      all_counted : (n : ℕ) → n ≡ length m.forest → length unit.forest.values ≡ count_before m.forest n
      all_counted zero whole = elim (cases_lt 0 (length unit.forest.values)) [
        | inl some ↦ (let owner = owned.owned 0 some in let none : owner.0 < 0 = omega (arith, owner.1, entries_counted, whole) in absurd (omega arith))
        | inr none ↦ omega (arith, none)
      ]
      all_counted (suc id) whole =
          let entry : id < length m.forest = omega (arith, whole) in
          let last : id + 1 ≡ length unit.forest.entries = omega (arith, whole, entries_counted) in
          let ends : (entry_of unit id).first + (entry_of unit id).count ≡ length unit.forest.values = owned.last id last in
          let first : (entry_of unit id).first ≡ count_before m.forest id = first_is id entry in
          let count : length (attributes_in m.forest id) ≡ (entry_of unit id).count = count_is id entry in
          omega (arith, ends, first, count)
