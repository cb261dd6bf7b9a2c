-- Columns of a table in their least forms: each has its name, and spells its values in a form that is written.
use Rattle.std.proofs.Common.{◌≡◌, ◌≢◌, ◌<◌, ◌+◌, ◌∙◌, ℕ, List, [], length, take, drop, sym, ap, subst, arith, inl, inr}
use Rattle.std.specs.List.{Contains}
use Rattle.std.proofs.lemmas.Bool.{cases_eq}
use Rattle.dw_base.specs.declared.classes.Classes.{Classes}
use Rattle.form_codec.specs.Forms.{Meaning, SpellsValue}
use Rattle.form_codec.specs.Columns.{IsChoice}
use Rattle.abbrev_tables.specs.declared.decl.Spec.{Spec}
use Rattle.abbrev_tables.specs.Listings.{decl_at, spec_at}
use Rattle.entry_read.specs.Units.{HeadAndForest}
use Rattle.value_links.specs.declared.units.NamedTable.{NamedTable}
use Rattle.written_files.specs.Uses.{uses_of, column_meanings}
use Rattle.rewriter.specs.inside.Tables.{AreColumnsChosen}
use Rattle.rewriter.proofs.MeaningsAmong.{spelled_among}
use Rattle.rewriter.proofs.MovedValues.{part_at, as_many}

-- COLUMNS OF A DECLARATION

abbrev no_column : Spec
no_column = spec_at [] 0

-- a column of a declaration among those of its table
pub column_here : (specs : List Spec) (first count j : ℕ) → j < length (take count (drop first specs)) → (spec_at (take count (drop first specs)) j ≡ spec_at specs (first + j)) × (j < count)
column_here specs first count j inside = let p = part_at specs first count j no_column inside in (p.0, p.1)

-- columns have the same names, one by one
pub record AreNamedAlike (old new : List Spec) : Type 0 where
  pub count : length new ≡ length old
  pub each : (j : ℕ) → j < length old → (spec_at new j).name ≡ (spec_at old j).name

-- a column has a form that is written, and some bytes spell a value in it, with the column's constant
abbrev pub IsSpelledBy : Spec → Meaning → Type 0
IsSpelledBy column meaning = IsChoice column.form × (bytes : List ℕ) × SpellsValue column.name column.form column.constant meaning bytes

-- TABLES

module _ {classes : Classes} (units : List HeadAndForest) (old : NamedTable) (columns : List Spec) (chosen : AreColumnsChosen classes units old columns) where
  -- where the columns of a declaration begin, and how many there are
  abbrev first_of : ℕ → ℕ
  first_of number = (decl_at old.table.decls number).first

  abbrev count_of : ℕ → ℕ
  count_of number = (decl_at old.table.decls number).count

  -- each column has its name
  column_named : (number j : ℕ) → number < length old.table.decls → j < count_of number → (spec_at columns (first_of number + j)).name ≡ (spec_at old.table.specs (first_of number + j)).name
  column_named number j inside below =
      elim (cases_eq (uses_of units old.place number) 0) [
        | inl none ↦ ap (λ (c : Spec). c.name) (chosen.unused number j inside none below)
        | inr some ↦ (chosen.each number j inside some below).least.name
      ]

  -- the new column of a declaration that entries have spells each of its values
  pub column_spelled : (number j : ℕ) (m : Meaning) → number < length old.table.decls → uses_of units old.place number ≢ 0 → j < count_of number → Contains (column_meanings units old.place number j) m → IsSpelledBy (spec_at columns (first_of number + j)) m
  column_spelled number j m inside used below among =
      let new : Spec = spec_at columns (first_of number + j) in
      let column = (chosen.each number j inside used below).least in
      let enough = column.least.enough in
      let spelled = spelled_among (spec_at old.table.specs (first_of number + j)).name new.form new.constant (column_meanings units old.place number j) enough.entries m enough.within among in
      let named = subst (λ (name : ℕ). (bytes : List ℕ) × SpellsValue name new.form new.constant m bytes) (sym column.name) spelled in
      (enough.choice, named.0, named.1)

  -- the columns of a declaration, old and new
  abbrev olds : ℕ → List Spec
  olds number = take (count_of number) (drop (first_of number) old.table.specs)

  abbrev news : ℕ → List Spec
  news number = take (count_of number) (drop (first_of number) columns)

  pub columns_count : (number : ℕ) → length (news number) ≡ length (olds number)
  columns_count number = as_many old.table.specs columns (first_of number) (count_of number) chosen.count

  pub columns_named : (number : ℕ) → number < length old.table.decls → AreNamedAlike (olds number) (news number)
  columns_named number inside =
      let size : length (news number) ≡ length (olds number) = columns_count number in
      record {
        count = size;
        each = λ j among.
            let was = column_here old.table.specs (first_of number) (count_of number) j among in
            let is = column_here columns (first_of number) (count_of number) j (omega (arith, size, among)) in
            ap (λ (c : Spec). c.name) is.0 ∙ column_named number j inside was.1 ∙ sym (ap (λ (c : Spec). c.name) was.0);
      }
