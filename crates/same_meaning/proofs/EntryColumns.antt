-- The attributes of an entry that was read, by the numbers of their columns.
use Rattle.std.proofs.Common.{◌≡◌, ◌≤◌, ◌<◌, ◌+◌, ◌-◌, ◌++◌, ◌∙◌, ℕ, List, ◌∷◌, length, get_or, take, drop, sym, ap, subst, refl, arith}
use Rattle.std.specs.Prelude.{pos}
use Rattle.std.proofs.Math.Seq.{get_or-append_seam}
use Rattle.std.proofs.lemmas.List.{length-append, length-drop, length-take-le, get_or-take, get_or-drop, take-append-drop, drop_more}
use Rattle.form_codec.specs.declared.value.Value.{Value}
use Rattle.form_codec.specs.declared.value.Value.TheVariants as value
use Rattle.form_codec.specs.Forms.{Meaning}
use Rattle.form_codec.specs.Values.{LiesIn, meant_in}
use Rattle.abbrev_tables.specs.declared.decl.Spec.{Spec}
use Rattle.abbrev_tables.specs.Listings.{spec_at}
use Rattle.entry_arena.specs.Arena.{value_at}
use Rattle.entry_arena.proofs.SpellingLaws.{attributes_count, attribute_at}
use Rattle.entry_arena.proofs.StepLaws.{values_counted, values_front}
use Rattle.entry_read.specs.Places.{HaveOwners}
use Rattle.entry_read.proofs.PlaceLaws.{entry_stands}
use Rattle.value_links.specs.Reading.{UnitRead, declarations, IsUnitRead}
use Rattle.value_links.specs.Values.{entry_of, declaration_of, values_of, described_at, HasValueAt}
use Rattle.same_meaning.proofs.ReadUnits.{owners, orderly}

abbrev no_spec : Spec
no_spec = record { name = 0; form = 0; constant = pos 0 }

-- a value with a number among those of the unit is that of a column
pub record IsOfColumn (unit : UnitRead) (id number name : ℕ) (meaning : Meaning) : Type 0 where
  pub column : ℕ
  pub inside : column < (entry_of unit id).count
  pub numbered : number ≡ (entry_of unit id).first + column
  pub named : name ≡ (spec_at (declaration_of unit id).columns column).name
  pub meant : meaning ≡ meant_in unit.forest.section (value_at unit.forest.values number)

module _ (info abbrevs : List ℕ) (unit : UnitRead) (is : IsUnitRead info abbrevs unit) (id : ℕ) (known : id < length unit.forest.entries) where
  owned : HaveOwners (declarations unit) unit.forest
  owned = owners info abbrevs unit is

  pub values_within : (entry_of unit id).first + (entry_of unit id).count ≤ length unit.forest.values
  values_within = owned.inside id known

  pub columns_count : length (declaration_of unit id).columns ≡ (entry_of unit id).count
  columns_count = sym (owned.counted id known)

  pub values_count : length (values_of unit id) ≡ (entry_of unit id).count
  values_count =
      let within : (entry_of unit id).first + (entry_of unit id).count ≤ length unit.forest.values = values_within in
      let rest : length (drop (entry_of unit id).first unit.forest.values) ≡ length unit.forest.values - (entry_of unit id).first = length-drop (entry_of unit id).first unit.forest.values in
      length-take-le (entry_of unit id).count (drop (entry_of unit id).first unit.forest.values) (omega arith)

  pub value_same : (k : ℕ) → k < (entry_of unit id).count → value_at (values_of unit id) k ≡ value_at unit.forest.values ((entry_of unit id).first + k)
  value_same k below =
      get_or-take (entry_of unit id).count (drop (entry_of unit id).first unit.forest.values) k (value.Addr 0) below ∙ get_or-drop (entry_of unit id).first unit.forest.values k (value.Addr 0)

  -- there is an attribute for each, with the name of the column and the meaning of the value
  pub attributes_size : length (described_at unit id).attributes ≡ (entry_of unit id).count
  attributes_size = attributes_count unit.forest.section (declaration_of unit id).columns (values_of unit id) (values_count ∙ sym columns_count) ∙ columns_count

  pub attribute_is : (k : ℕ) (d : ℕ × Meaning) → k < (entry_of unit id).count → get_or (described_at unit id).attributes k d ≡ ((spec_at (declaration_of unit id).columns k).name, meant_in unit.forest.section (value_at unit.forest.values ((entry_of unit id).first + k)))
  attribute_is k d below =
      attribute_at unit.forest.section (declaration_of unit id).columns (values_of unit id) k d (values_count ∙ sym columns_count) (subst (λ (n : ℕ). k < n) (sym columns_count) below)
      ∙ ap (λ (v : Value). ((spec_at (declaration_of unit id).columns k).name, meant_in unit.forest.section v)) (value_same k below)

  -- it stands somewhere
  pub column_stands : (k : ℕ) → k < (entry_of unit id).count → (place : ℕ) × HasValueAt unit id ((entry_of unit id).first + k) (spec_at (declaration_of unit id).columns k).name (meant_in unit.forest.section (value_at unit.forest.values ((entry_of unit id).first + k))) place
  column_stands k below =
      let s = entry_stands info unit.head (declarations unit) unit.forest is.section is.entries id known in
      let columns : List Spec = (declaration_of unit id).columns in
      let values : List Value = values_of unit id in
      let (place, valued) = values_front unit.forest.section columns values s.values_at ((entry_of unit id).at + (entry_of unit id).len) k s.valued in
      let size : length values ≡ (entry_of unit id).count = values_count in
      let as_many : length columns ≡ (entry_of unit id).count = columns_count in
      let k_columns : k < length columns = omega arith in
      let k_values : k < length values = omega arith in
      let front : length (take k values) ≡ k = length-take-le k values (omega arith) in (
        place,
        record {
          known = known;
          earlier_columns = take k columns;
          column = spec_at columns k;
          later_columns = drop (k + 1) columns;
          columns = sym (take-append-drop k columns) ∙ ap (λ z. take k columns ++ z) (drop_more columns k no_spec k_columns);
          earlier = take k values;
          value = value_at values k;
          later = drop (k + 1) values;
          values = sym (take-append-drop k values) ∙ ap (λ z. take k values ++ z) (drop_more values k (value.Addr 0) k_values);
          numbered = ap (λ z. (entry_of unit id).first + z) (sym front);
          values_at = s.values_at;
          coded = s.coded;
          valued = valued;
          named = refl;
          meant = ap (meant_in unit.forest.section) (sym (value_same k below));
        },
      )

  -- and what stands is that of a column
  pub of_column : (number name : ℕ) (meaning : Meaning) (place : ℕ) → HasValueAt unit id number name meaning place → IsOfColumn unit id number name meaning
  of_column number name meaning place h =
      let k : ℕ = length h.earlier in
      let same : length h.earlier ≡ length h.earlier_columns = values_counted unit.forest.section h.earlier_columns h.earlier h.values_at place h.valued in
      let whole : length (values_of unit id) ≡ length (h.earlier ++ h.value ∷ h.later) = ap length h.values in
      let sum : length (h.earlier ++ h.value ∷ h.later) ≡ length h.earlier + length (h.value ∷ h.later) = length-append h.earlier (h.value ∷ h.later) in
      let count : length (values_of unit id) ≡ (entry_of unit id).count = values_count in
      let inside : k < (entry_of unit id).count = omega arith in
      let column : spec_at (declaration_of unit id).columns k ≡ h.column = ap (λ z. spec_at z k) h.columns ∙ ap (spec_at (h.earlier_columns ++ h.column ∷ h.later_columns)) same ∙ get_or-append_seam h.earlier_columns h.column h.later_columns no_spec in
      let value : value_at (values_of unit id) k ≡ h.value = ap (λ z. value_at z k) h.values ∙ get_or-append_seam h.earlier h.value h.later (value.Addr 0) in
      record {
        column = k;
        inside = inside;
        numbered = h.numbered;
        named = h.named ∙ ap (λ z. z.name) (sym column);
        meant = h.meant ∙ ap (meant_in unit.forest.section) (sym value ∙ value_same k inside ∙ ap (value_at unit.forest.values) (sym h.numbered));
      }

-- a value that stands somewhere is one of the unit, and its bytes lie in the section
pub number_inside : (info abbrevs : List ℕ) (unit : UnitRead) → IsUnitRead info abbrevs unit → (id number name : ℕ) (meaning : Meaning) (place : ℕ) → HasValueAt unit id number name meaning place → number < length unit.forest.values
number_inside info abbrevs unit is id number name meaning place h =
    let c = of_column info abbrevs unit is id h.known number name meaning place h in
    let within : (entry_of unit id).first + (entry_of unit id).count ≤ length unit.forest.values = values_within info abbrevs unit is id h.known in
    let below : c.column < (entry_of unit id).count = c.inside in
    let here : number ≡ (entry_of unit id).first + c.column = c.numbered in
    omega arith

pub value_lies : (info abbrevs : List ℕ) (unit : UnitRead) → IsUnitRead info abbrevs unit → (number : ℕ) → number < length unit.forest.values → LiesIn (length unit.forest.section) (value_at unit.forest.values number)
value_lies info abbrevs unit is number inside = (orderly info abbrevs unit is).spans.inside number inside
