-- The values of entries, by the numbers of their columns.
use Rattle.std.proofs.Common.{◌≡◌, ◌≤◌, ◌<◌, ◌+◌, ◌-◌, ◌++◌, ◌∙◌, ℕ, List, ◌∷◌, length, take, drop, sym, ap, subst, refl, arith}
use Rattle.std.specs.Prelude.{pos}
use Rattle.std.proofs.Math.Seq.{get_or-append_seam}
use Rattle.std.proofs.lemmas.List.{length-append, length-take-le, take-append-drop, drop_more}
use Rattle.form_codec.specs.declared.value.Value.{Value}
use Rattle.form_codec.specs.declared.value.Value.TheVariants as value
use Rattle.form_codec.specs.Forms.{Meaning}
use Rattle.form_codec.specs.Values.{meant_in}
use Rattle.abbrev_tables.specs.declared.decl.Spec.{Spec}
use Rattle.abbrev_tables.specs.Listings.{spec_at}
use Rattle.entry_arena.specs.Arena.{value_at}
use Rattle.entry_arena.proofs.StepLaws.{values_counted, values_front}
use Rattle.entry_read.specs.Places.{HaveOwners, StandsAtColumn}
use Rattle.entry_read.proofs.PlaceLaws.{entry_stands}
use Rattle.value_links.specs.Reading.{UnitRead, declarations, IsUnitRead}
use Rattle.value_links.specs.Values.{entry_of, declaration_of, values_of, HasValueAt}
use Rattle.value_links.proofs.Causes.{own_value, own_count}

-- the empty column that stands for one past the end of a list
abbrev pub no_spec : Spec
no_spec = record { name = 0; form = 0; constant = pos 0 }

module _ (unit : UnitRead) (owned : HaveOwners (declarations unit) unit.forest) (id : ℕ) (known : id < length unit.forest.entries) where
  -- the value of a column stands where the code and the values before it end
  pub stands_at : (k place : ℕ) → k < (entry_of unit id).count → StandsAtColumn unit.forest.section (declarations unit) unit.forest.values (entry_of unit id) k place → HasValueAt unit id ((entry_of unit id).first + k) (spec_at (declaration_of unit id).columns k).name (meant_in unit.forest.section (value_at unit.forest.values ((entry_of unit id).first + k))) place
  stands_at k place inside stands =
      let columns : List Spec = (declaration_of unit id).columns in
      let values : List Value = values_of unit id in
      let k_columns : k < length columns = subst (λ (z : ℕ). k < z) (owned.counted id known) inside in
      let size : length values ≡ (entry_of unit id).count = own_count unit.forest.values (entry_of unit id).first (entry_of unit id).count (owned.inside id known) in
      let k_values : k < length values = omega arith in
      let front : length (take k values) ≡ k = length-take-le k values (omega arith) in
      record {
        known = known;
        earlier_columns = take k columns;
        column = spec_at columns k;
        later_columns = drop (k + 1) columns;
        columns = sym (take-append-drop k columns) ∙ ap (λ z. take k columns ++ z) (drop_more columns k no_spec k_columns);
        earlier = take k values;
        value = value_at values k;
        later = drop (k + 1) values;
        values = sym (take-append-drop k values) ∙ ap (λ z. take k values ++ z) (drop_more values k (value.Addr 0) k_values);
        numbered = ap (λ z. (entry_of unit id).first + z) (sym front);
        values_at = stands.values_at;
        coded = stands.coded;
        valued = stands.valued;
        named = refl;
        meant = ap (meant_in unit.forest.section) (sym (own_value unit.forest.values (entry_of unit id).first (entry_of unit id).count k inside));
      }

  -- each value is that of a column with a number
  pub column_of : (number name : ℕ) (meaning : Meaning) (place : ℕ) → HasValueAt unit id number name meaning place → (k : ℕ) × (k < (entry_of unit id).count) × (name ≡ (spec_at (declaration_of unit id).columns k).name) × (meaning ≡ meant_in unit.forest.section (value_at unit.forest.values ((entry_of unit id).first + k)))
  column_of number name meaning place h =
      let k : ℕ = length h.earlier_columns in
      let same : length h.earlier ≡ length h.earlier_columns = values_counted unit.forest.section h.earlier_columns h.earlier h.values_at place h.valued in
      let whole : length (declaration_of unit id).columns ≡ length (h.earlier_columns ++ h.column ∷ h.later_columns) = ap length h.columns in
      let sum : length (h.earlier_columns ++ h.column ∷ h.later_columns) ≡ length h.earlier_columns + length (h.column ∷ h.later_columns) = length-append h.earlier_columns (h.column ∷ h.later_columns) in
      let count : (entry_of unit id).count ≡ length (declaration_of unit id).columns = owned.counted id known in
      let inside : k < (entry_of unit id).count = omega arith in
      let column : spec_at (declaration_of unit id).columns k ≡ h.column = ap (λ z. spec_at z k) h.columns ∙ get_or-append_seam h.earlier_columns h.column h.later_columns no_spec in
      let value : value_at (values_of unit id) k ≡ h.value = ap (λ z. value_at z k) h.values ∙ ap (value_at (h.earlier ++ h.value ∷ h.later)) (sym same) ∙ get_or-append_seam h.earlier h.value h.later (value.Addr 0) in
      (k, inside, h.named ∙ ap (λ z. z.name) (sym column), h.meant ∙ ap (meant_in unit.forest.section) (sym value ∙ own_value unit.forest.values (entry_of unit id).first (entry_of unit id).count k inside))

  -- whose number tells that of the column
  pub column_numbered : (number name : ℕ) (meaning : Meaning) (place : ℕ) → (h : HasValueAt unit id number name meaning place) → number ≡ (entry_of unit id).first + (column_of number name meaning place h).0
  unfolding column_of
  column_numbered number name meaning place h =
      h.numbered ∙ ap (λ (z : ℕ). (entry_of unit id).first + z) (values_counted unit.forest.section h.earlier_columns h.earlier h.values_at place h.valued)

-- each column of an entry of a unit that was read has a value that stands somewhere
pub column_stands : (info abbrevs : List ℕ) (unit : UnitRead) → IsUnitRead info abbrevs unit → HaveOwners (declarations unit) unit.forest → (id k : ℕ) → id < length unit.forest.entries → k < (entry_of unit id).count → (place : ℕ) × HasValueAt unit id ((entry_of unit id).first + k) (spec_at (declaration_of unit id).columns k).name (meant_in unit.forest.section (value_at unit.forest.values ((entry_of unit id).first + k))) place
column_stands info abbrevs unit is owned id k known inside =
    let s = entry_stands info unit.head (declarations unit) unit.forest is.section is.entries id known in
    let front = values_front unit.forest.section (declaration_of unit id).columns (values_of unit id) s.values_at ((entry_of unit id).at + (entry_of unit id).len) k s.valued in
    (front.0, stands_at unit owned id known k front.0 inside (record { values_at = s.values_at; coded = s.coded; valued = front.1 }))

-- so each value of such a unit is that of a column
pub value_stands : (info abbrevs : List ℕ) (unit : UnitRead) → IsUnitRead info abbrevs unit → HaveOwners (declarations unit) unit.forest → (number : ℕ) → number < length unit.forest.values → (id : ℕ) × (name : ℕ) × (place : ℕ) × HasValueAt unit id number name (meant_in unit.forest.section (value_at unit.forest.values number)) place
value_stands info abbrevs unit is owned number inside =
    let owner = owned.owned number inside in
    let id : ℕ = owner.0 in
    let from : (entry_of unit id).first ≤ number = owner.2 in
    let to : number < (entry_of unit id).first + (entry_of unit id).count = owner.3 in
    let k : ℕ = number - (entry_of unit id).first in
    let same : (entry_of unit id).first + k ≡ number = omega arith in
    let (place, stands) = column_stands info abbrevs unit is owned id k owner.1 (omega arith) in
    let name : ℕ = (spec_at (declaration_of unit id).columns k).name in
    (id, name, place, subst (λ (n : ℕ). HasValueAt unit id n name (meant_in unit.forest.section (value_at unit.forest.values n)) place) same stands)
