-- The values of a unit that is read are what its entries say.
use Rattle.std.proofs.Common.{◌≡◌, ◌<◌, ◌+◌, ◌∙◌, ℕ, List, length, sym, ap, subst}
use Rattle.std.specs.Prelude.{slice_index_or}
use Rattle.std.specs.List.{Contains}
use Rattle.std.proofs.lemmas.List.{get_or-map}
use Rattle.form_codec.specs.Forms.{Meaning}
use Rattle.form_codec.specs.Values.{meant_in}
use Rattle.abbrev_tables.specs.Listings.{spec_at}
use Rattle.entry_arena.specs.Arena.{value_at}
use Rattle.entry_arena.specs.Forests.{Described, described_by}
use Rattle.entry_arena.proofs.SpellingLaws.{attributes_count, attribute_at}
use Rattle.entry_read.specs.Places.{HaveOwners}
use Rattle.entry_read.proofs.OwnerLaws.{values_belong}
use Rattle.value_links.specs.Reading.{UnitRead, declarations, IsUnitRead}
use Rattle.value_links.specs.Values.{entry_of, declaration_of, values_of, described_at, HasValueAt}
use Rattle.value_links.specs.Debug.{described}
use Rattle.value_links.proofs.Causes.{own_value, own_count}
use Rattle.value_links.proofs.EntryValues.{column_of, column_stands}

module _ (info abbrevs : List ℕ) (unit : UnitRead) (is : IsUnitRead info abbrevs unit) where
  owners : HaveOwners (declarations unit) unit.forest
  owners = values_belong info unit.head (declarations unit) unit.forest is.section is.entries

  -- what the entry with a number says
  pub described_is : (id : ℕ) (d : Described) → id < length unit.forest.entries → slice_index_or (described unit) id d ≡ described_at unit id
  described_is id d known = get_or-map (described_by unit.forest.section (declarations unit) unit.forest.values) unit.forest.entries id (record { at = 0; len = 0; depth = 0; decl = 0; first = 0; count = 0 }) d known

  module _ (id : ℕ) (known : id < length unit.forest.entries) where
    counted : length (values_of unit id) ≡ (entry_of unit id).count
    counted = own_count unit.forest.values (entry_of unit id).first (entry_of unit id).count (owners.inside id known)

    columns_counted : (entry_of unit id).count ≡ length (declaration_of unit id).columns
    columns_counted = owners.counted id known

    attributes_counted : length (described_at unit id).attributes ≡ (entry_of unit id).count
    attributes_counted = attributes_count unit.forest.section (declaration_of unit id).columns (values_of unit id) (counted ∙ columns_counted) ∙ sym columns_counted

    attribute_is : (k : ℕ) (d : ℕ × Meaning) → k < (entry_of unit id).count → slice_index_or (described_at unit id).attributes k d ≡ ((spec_at (declaration_of unit id).columns k).name, meant_in unit.forest.section (value_at unit.forest.values ((entry_of unit id).first + k)))
    attribute_is k d inside =
        let among : k < length (declaration_of unit id).columns = subst (λ (z : ℕ). k < z) columns_counted inside in
        attribute_at unit.forest.section (declaration_of unit id).columns (values_of unit id) k d (counted ∙ columns_counted) among ∙ ap (λ z. ((spec_at (declaration_of unit id).columns k).name, meant_in unit.forest.section z)) (own_value unit.forest.values (entry_of unit id).first (entry_of unit id).count k inside)

    -- a value that stands somewhere is said
    pub value_said : (number name : ℕ) (meaning : Meaning) (place : ℕ) → HasValueAt unit id number name meaning place → Contains (described_at unit id).attributes (name, meaning)
    value_said number name meaning place h =
        let (k, inside, names, means) = column_of unit owners id known number name meaning place h in
        let there : k < length (described_at unit id).attributes = subst (λ (z : ℕ). k < z) (sym attributes_counted) inside in
        (k, there, attribute_is k (name, meaning) inside ∙ ap (λ (z : ℕ). (z, meant_in unit.forest.section (value_at unit.forest.values ((entry_of unit id).first + k)))) (sym names) ∙ ap (λ (z : Meaning). (name, z)) (sym means))

    -- and what is said stands somewhere
    pub said_stands : (name : ℕ) (meaning : Meaning) → Contains (described_at unit id).attributes (name, meaning) → (number : ℕ) × (place : ℕ) × HasValueAt unit id number name meaning place
    said_stands name meaning (k, there, same) =
        let inside : k < (entry_of unit id).count = subst (λ (z : ℕ). k < z) attributes_counted there in
        let (place, stands) = column_stands info abbrevs unit is owners id k known inside in
        ((entry_of unit id).first + k, place, subst (λ (z : ℕ × Meaning). HasValueAt unit id ((entry_of unit id).first + k) z.0 z.1 place) (sym (attribute_is k (name, meaning) inside) ∙ same) stands)
