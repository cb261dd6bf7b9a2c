-- The attributes of an entry that is written anew: each has its name, and its value but for a new number or new bytes of an expression,
-- where some references are taken as ones within their unit.
use Rattle.std.proofs.Common.{◌≡◌, ◌<◌, ◌+◌, ◌∙◌, ◌++◌, ℕ, suc, List, [], ◌∷◌, length, sym, ap, subst, refl, arith}
use Rattle.std.specs.Prelude.{slice_index}
use Rattle.std.specs.List.{AllZip}
use Rattle.dw_base.specs.declared.classes.Classes.{Classes}
use Rattle.form_codec.specs.declared.value.Value.{Value}
use Rattle.form_codec.specs.Forms.{Meaning}
use Rattle.form_codec.specs.Values.{meant_in}
use Rattle.abbrev_tables.specs.declared.decl.Spec.{Spec}
use Rattle.entry_arena.specs.declared.entry.Entry.{Entry}
use Rattle.entry_arena.specs.Trees.{ValuesBetween}
use Rattle.entry_arena.specs.Forests.{Described, attributes_of, described_by}
use Rattle.unit_write.specs.declared.places.Places.{Places}
use Rattle.unit_write.specs.NewExpressions.{made_of}
use Rattle.unit_write.specs.Values.{renewed}
use Rattle.value_links.specs.Reading.{Linkable, Reading, unit_at, declarations}
use Rattle.value_links.specs.Values.{entry_of, declaration_of, values_of}
use Rattle.value_links.specs.World.{World}
use Rattle.rewriter.specs.declared.tables.NewTable.{NewTable}
use Rattle.rewriter.specs.declared.new_places.NewPlaces.{NewPlaces}
use Rattle.rewriter.specs.inside.Taken.{MeansFor}
use Rattle.rewriter.specs.inside.Numbers.{IsNewValue}
use Rattle.rewriter.specs.inside.Follows.{AreReadAnew}
use Rattle.rewriter.proofs.ColumnLaws.{AreNamedAlike}
use Rattle.rewriter.proofs.MovedValues.{attributes_move, as_many}
use Rattle.rewriter.proofs.MovedEntries.{renewed_by, moved, same_declared, stands_in, has_value, taken_meaning, means_taken, as_many_values, new_values, values_are, values_mean}

-- attributes depend on the names of columns alone
attributes_alike : (section : List ℕ) (old new : List Spec) (values : List Value) → AreNamedAlike old new → attributes_of section old values ≡ attributes_of section new values
attributes_alike section [] [] values alike = refl
attributes_alike section [] (c ∷ cs) values alike = absurd (let count = alike.count in omega (arith, count))
attributes_alike section (d ∷ ds) [] values alike = absurd (let count = alike.count in omega (arith, count))
attributes_alike section (d ∷ ds) (c ∷ cs) [] alike = refl
attributes_alike section (d ∷ ds) (c ∷ cs) (v ∷ vs) alike =
    let count = alike.count in
    let name : d.name ≡ c.name = sym (alike.each 0 (omega arith)) in
    let rest : attributes_of section ds vs ≡ attributes_of section cs vs = attributes_alike section ds cs vs (record { count = omega (arith, count); each = λ j inside. alike.each (suc j) (omega arith) }) in
    ap (λ (n : ℕ). (n, meant_in section v) ∷ attributes_of section ds vs) name ∙ ap (λ (z : List (ℕ × Meaning)). (c.name, meant_in section v) ∷ z) rest

-- An attribute of an entry is the old one, with the new number of its value, or with the new bytes of its expression. The value is taken
-- as this.
pub record IsMovedAttribute (r : Linkable) (places : List Places) (new_places : NewPlaces) (u id : ℕ) (old new : ℕ × Meaning) : Type 0 where
  pub name : new.0 ≡ old.0
  pub taken : Meaning
  pub took : MeansFor (unit_at r u).head old.1 taken
  pub number : ℕ
  pub made : List ℕ
  pub numbered : IsNewValue r places new_places u id old.0 taken number made
  pub value : new.1 ≡ renewed number made taken

-- what an entry of a unit says
abbrev pub says : Linkable → ℕ → Entry → Described
says t u = described_by (unit_at t u).forest.section (declarations (unit_at t u)) (unit_at t u).forest.values

module _ {classes : Classes} {file : List ℕ} {world : World} {tables : List NewTable} {places : List Places} {new_places : NewPlaces} {info abbrevs : List ℕ} {r s : Reading} (all : AreReadAnew classes file world tables places new_places info abbrevs r s) where
  abbrev Moves : ℕ → ℕ → ℕ × Meaning → ℕ × Meaning → Type 0
  Moves u id = IsMovedAttribute r.links places new_places u id

  by_columns : (u id : ℕ) → u < length r.links.units → id < length (unit_at r.links u).forest.entries → AllZip (Moves u id) (attributes_of (unit_at r.links u).forest.section (declaration_of (unit_at r.links u) id).columns (values_of (unit_at r.links u) id)) (attributes_of (unit_at s.links u).forest.section (declaration_of (unit_at r.links u) id).columns (new_values all u id))
  by_columns u id inside known =
      let m = moved all u inside in
      let e : Entry = entry_of (unit_at r.links u) id in
      let old : List ℕ = (unit_at r.links u).forest.section in
      let columns : List Spec = (declaration_of (unit_at r.links u) id).columns in
      let values : List Value = values_of (unit_at r.links u) id in
      let stands = stands_in all u id inside known in
      let number : ℕ → Meaning = λ k. renewed_by m.numbers (e.first + k) (taken_meaning all u (e.first + k)) in
      let size : length (new_values all u id) ≡ length values = as_many (unit_at r.links u).forest.values (unit_at s.links u).forest.values e.first e.count (as_many_values all u inside) in
      let each : (before : List Spec) (c : Spec) (after : List Spec) (evs : List Value) (v : Value) (more : List Value) (place : ℕ) → columns ≡ before ++ c ∷ after → values ≡ evs ++ v ∷ more → ValuesBetween old before evs stands.values_at place → Moves u id (c.name, meant_in old v) (c.name, number (length evs)) =
      λ before c after evs v more place is_columns is_values valued. (
      let k : ℕ = e.first + length evs in
      let has = has_value all u id inside known stands before c after evs v more place is_columns is_values valued in
      record {
        name = refl;
        taken = taken_meaning all u k;
        took = means_taken all u id k c.name (meant_in old v) place inside has;
        number = slice_index m.numbers.held.items k;
        made = made_of m.numbers.expressions.ends.items m.numbers.expressions.bytes.items k;
        numbered = m.numbered.each id k c.name (meant_in old v) place has;
        value = refl;
      }
      ) in
      attributes_move (Moves u id) old (unit_at s.links u).forest.section columns values stands.values_at number each [] columns [] values (new_values all u id) 0 stands.values_at (e.at + e.len) refl refl refl refl stands.valued size (λ k k_in. values_mean all u id inside k k_in ∙ ap number (omega arith))

  pub attributes_moved : (u id : ℕ) → u < length r.links.units → id < length (unit_at r.links u).forest.entries → AllZip (IsMovedAttribute r.links places new_places u id) (says r.links u (entry_of (unit_at r.links u) id)).attributes (says s.links u (entry_of (unit_at s.links u) id)).attributes
  attributes_moved u id inside known =
      let olds : List (ℕ × Meaning) = (says r.links u (entry_of (unit_at r.links u) id)).attributes in
      let section : List ℕ = (unit_at s.links u).forest.section in
      let columns : List Spec = (declaration_of (unit_at r.links u) id).columns in
      let by_values : AllZip (Moves u id) olds (attributes_of section columns (values_of (unit_at s.links u) id)) =
      subst (λ (z : List Value). AllZip (Moves u id) olds (attributes_of section columns z)) (sym (values_are all u id inside known)) (by_columns u id inside known) in
      subst (AllZip (Moves u id) olds) (attributes_alike section columns (declaration_of (unit_at s.links u) id).columns (values_of (unit_at s.links u) id) (same_declared all u id inside known).named) by_values
