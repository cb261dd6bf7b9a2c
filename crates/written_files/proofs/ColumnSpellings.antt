-- The value of an entry in a column is spelled by the form of the column.
use Rattle.std.proofs.Common.{◌≡◌, ◌<◌, ◌+◌, ◌++◌, ◌∙◌, ℕ, zero, suc, List, [], ◌∷◌, length, sym, ap, subst, arith}
use Rattle.std.proofs.Math.Seq.{get_or-append_seam}
use Rattle.std.proofs.lemmas.List.{length-append}
use Rattle.std.specs.Prelude.{pos}
use Rattle.form_codec.specs.declared.value.Value.{Value}
use Rattle.form_codec.specs.declared.value.Value.TheVariants as value
use Rattle.form_codec.specs.Forms.{Meaning, SpellsValue}
use Rattle.form_codec.specs.Values.{meant_in}
use Rattle.abbrev_tables.specs.declared.decl.Spec.{Spec}
use Rattle.abbrev_tables.specs.Listings.{spec_at}
use Rattle.entry_arena.specs.Arena.{value_at}
use Rattle.entry_arena.specs.Trees.{ValuesBetween, bytes_between}
use Rattle.entry_arena.proofs.StepLaws.{values_counted}
use Rattle.entry_read.specs.Places.{HaveOwners}
use Rattle.entry_read.proofs.PlaceLaws.{entry_stands}
use Rattle.value_links.specs.Reading.{UnitRead, declarations, IsUnitRead}
use Rattle.value_links.specs.Values.{HasValueAt, entry_of, declaration_of, values_of}
use Rattle.value_links.proofs.Causes.{own_value}
use Rattle.written_files.proofs.SameValues.{meaning_in}

abbrev no_spec : Spec
no_spec = record { name = 0; form = 0; constant = pos 0 }

-- some bytes of the column's form spell the value
abbrev pub IsSpelledBy : List ℕ → Spec → Value → Type 0
IsSpelledBy section c v = (bytes : List ℕ) × SpellsValue c.name c.form c.constant (meant_in section v) bytes

-- so the form of each column among values that stand one after the other
pub spelled_between : (section : List ℕ) (columns : List Spec) (values : List Value) (from to k : ℕ) → ValuesBetween section columns values from to → k < length columns → IsSpelledBy section (spec_at columns k) (value_at values k)
spelled_between section [] values from to k valued inside = absurd (omega (arith, inside))
spelled_between section (c ∷ cs) [] from to k valued inside = absurd valued
spelled_between section (c ∷ cs) (v ∷ vs) from to zero (next, here, placed, rest) inside = (bytes_between section from next, here.spelled)
spelled_between section (c ∷ cs) (v ∷ vs) from to (suc k) (next, here, placed, rest) inside = spelled_between section cs vs next to k rest (omega (arith, inside))

-- and the form of each column of an entry
pub column_spelled : (info abbrevs : List ℕ) (unit : UnitRead) → IsUnitRead info abbrevs unit → HaveOwners (declarations unit) unit.forest → (id k : ℕ) → id < length unit.forest.entries → k < (entry_of unit id).count → (bytes : List ℕ) × SpellsValue (spec_at (declaration_of unit id).columns k).name (spec_at (declaration_of unit id).columns k).form (spec_at (declaration_of unit id).columns k).constant (meaning_in unit id k) bytes
column_spelled info abbrevs unit is owned id k known inside =
    let stands = entry_stands info unit.head (declarations unit) unit.forest is.section is.entries id known in
    let here = spelled_between unit.forest.section (declaration_of unit id).columns (values_of unit id) stands.values_at ((entry_of unit id).at + (entry_of unit id).len) k stands.valued (subst (λ (n : ℕ). k < n) (owned.counted id known) inside) in
    subst (λ (v : Value). IsSpelledBy unit.forest.section (spec_at (declaration_of unit id).columns k) v) (own_value unit.forest.values (entry_of unit id).first (entry_of unit id).count k inside) here

-- a value stands in the column behind those of the values before it
pub record IsInColumn (unit : UnitRead) (id k : ℕ) (column : Spec) (meaning : Meaning) : Type 0 where
  pub inside : k < (entry_of unit id).count
  pub column_is : spec_at (declaration_of unit id).columns k ≡ column
  pub means : meaning ≡ meaning_in unit id k

-- its place among the values of its entry tells the column
pub in_column : (unit : UnitRead) → HaveOwners (declarations unit) unit.forest → (id number name : ℕ) (meaning : Meaning) (place : ℕ) (stands : HasValueAt unit id number name meaning place) → IsInColumn unit id (length stands.earlier_columns) stands.column meaning
in_column unit owned id number name meaning place stands =
    let columns : List Spec = (declaration_of unit id).columns in
    let k : ℕ = length stands.earlier_columns in
    let same : length stands.earlier ≡ k = values_counted unit.forest.section stands.earlier_columns stands.earlier stands.values_at place stands.valued in
    let whole : length columns ≡ length (stands.earlier_columns ++ stands.column ∷ stands.later_columns) = ap length stands.columns in
    let sum : length (stands.earlier_columns ++ stands.column ∷ stands.later_columns) ≡ k + length (stands.column ∷ stands.later_columns) = length-append stands.earlier_columns (stands.column ∷ stands.later_columns) in
    let count : (entry_of unit id).count ≡ length columns = owned.counted id stands.known in
    let inside : k < (entry_of unit id).count = omega arith in
    let value_is : value_at (values_of unit id) k ≡ stands.value = ap (λ z. value_at z k) stands.values ∙ ap (value_at (stands.earlier ++ stands.value ∷ stands.later)) (sym same) ∙ get_or-append_seam stands.earlier stands.value stands.later (value.Addr 0) in
    record {
      inside = inside;
      column_is = ap (λ z. spec_at z k) stands.columns ∙ get_or-append_seam stands.earlier_columns stands.column stands.later_columns no_spec;
      means = stands.meant ∙ ap (meant_in unit.forest.section) (sym value_is ∙ own_value unit.forest.values (entry_of unit id).first (entry_of unit id).count k inside);
    }
