-- The first untidy declaration of a table, and of all tables.
use Rattle.std.proofs.Common.{◌≡◌, ◌≢◌, ◌≤◌, ◌<◌, ◌+◌, ◌⊎◌, ◌∙◌, inl, inr, ℕ, zero, suc, Bool, List, [], ◌∷◌, ◌++◌, length, take, drop, sym, ap, subst, arith}
use Rattle.std.specs.Prelude.{◌↔◌, IsTrue}
use Rattle.std.proofs.lemmas.Bool.{cases_lt}
use Rattle.std.proofs.lemmas.List.{get_or-take, get_or-drop, length-append, length-drop, length-take-le}
use Rattle.dw_base.specs.declared.classes.Classes.{Classes}
use Rattle.form_codec.specs.Forms.{Meaning}
use Rattle.form_codec.specs.Columns.{AreSpelled, IsLeastForm}
use Rattle.abbrev_tables.specs.declared.decl.Decl.{Decl}
use Rattle.abbrev_tables.specs.declared.decl.Spec.{Spec}
use Rattle.abbrev_tables.specs.Tables.{Declared, SpellsDeclared}
use Rattle.abbrev_tables.specs.Listings.{decl_at, spec_at, declared_in, ArePlaced}
use Rattle.column_forms.specs.Tallies.{meanings_in}
use Rattle.entry_arena.specs.Trees.{declared_at}
use Rattle.entry_read.specs.Units.{HeadAndForest, declarations_of, IsTable}
use Rattle.entry_read.proofs.Declarations.{columns_inside, declared_is}
use Rattle.value_links.specs.declared.units.NamedTable.{NamedTable}
use Rattle.written_files.specs.Uses.{column_meanings, taken_meanings}
use Rattle.tidy_places.specs.Firsts.{IsLeastPlace}
use Rattle.tidy_tables.specs.declared.column_values.ColumnValues.{ColumnValues}
use Rattle.tidy_tables.specs.Untidy.{IsFallen}
use Rattle.tidy_tables.specs.inside.ColumnValues.{Headed, meant_with_heads, without_heads, names_in, HoldsValues}
use Rattle.tidy_tables.specs.inside.UntidyDeclarations.{AreShortTo, AreShort, AreShortBelow, HasLongColumnIn, HoldsColumns, IsUntidyBelow, IsUntidyIn}

-- PLACES

-- a declaration has bytes
declared_some : (d : Declared) (bytes : List ℕ) → SpellsDeclared d bytes → 1 ≤ length bytes
declared_some d bytes s =
    let filled : 0 < length s.parts.0 = s.parts.2.0.0.filled in
    let whole : bytes ≡ s.parts.0 ++ s.parts.1 = s.parts.4 in
    omega (arith, filled, ap length whole, length-append s.parts.0 s.parts.1)

placed_from : (specs : List Spec) (place : ℕ) (decls : List Decl) (bytes : List ℕ) (i : ℕ) → ArePlaced specs place decls bytes → i < length decls → place ≤ (decl_at decls i).at
placed_from specs place [] bytes i p below = absurd (omega arith)
placed_from specs place (d ∷ decls) bytes zero p below = (let e : d.at ≡ place = p.2 in omega (arith, e))
placed_from specs place (d ∷ decls) bytes (suc i) p below = omega (arith, placed_from specs (place + length p.0) decls p.1 i p.4 (omega arith))

-- declarations stand one after the other
placed_rise : (specs : List Spec) (place : ℕ) (decls : List Decl) (bytes : List ℕ) (i j : ℕ) → ArePlaced specs place decls bytes → i < j → j < length decls → (decl_at decls i).at < (decl_at decls j).at
placed_rise specs place [] bytes i j p less below = absurd (omega arith)
placed_rise specs place (d ∷ decls) bytes i zero p less below = absurd (omega arith)
placed_rise specs place (d ∷ decls) bytes zero (suc j) p less below =
    let e : d.at ≡ place = p.2 in
    omega (arith, e, declared_some (declared_in specs d) p.0 p.3, placed_from specs (place + length p.0) decls p.1 j p.4 (omega arith))
placed_rise specs place (d ∷ decls) bytes (suc i) (suc j) p less below = placed_rise specs (place + length p.0) decls p.1 i j p.4 (omega arith) (omega arith)

-- COLUMNS

module _ (classes : Classes) (units : List HeadAndForest) (table : NamedTable) (stands : IsTable table.table) (held : ColumnValues) (holds : HoldsColumns units table held) (k : ℕ) (known : k < length table.table.decls) where
  abbrev own : Decl
  own = decl_at table.table.decls k

  abbrev columns : List Spec
  columns = (declared_at (declarations_of table.table) k).columns

  columns_are : (declared_at (declarations_of table.table) k).columns ≡ (declared_in table.table.specs (decl_at table.table.decls k)).columns
  columns_are = ap (λ (z : Declared). z.columns) (declared_is table.table k known)

  columns_count : length (take own.count (drop own.first table.table.specs)) ≡ own.count
  columns_count = length-take-le own.count (drop own.first table.table.specs) (omega (arith, length-drop own.first table.table.specs, columns_inside table.table k stands known))

  -- of lists that are those of the declaration
  module _ (d : Decl) (d_is : d ≡ decl_at table.table.decls k) (cs : List Spec) (cs_are : cs ≡ (declared_in table.table.specs (decl_at table.table.decls k)).columns) where
    pub columns_same : length cs ≡ length (declared_at (declarations_of table.table) k).columns
    columns_same = ap length (cs_are ∙ sym columns_are)

    module _ (j : ℕ) (below : j < length cs) where
      inside : j < own.count
      inside = omega (arith, ap length cs_are, columns_count)

      pub column_known : d.first + j < length table.table.specs
      column_known = omega (arith, ap (λ (z : Decl). z.first) d_is, inside, columns_inside table.table k stands known)

      spec_here : spec_at cs j ≡ spec_at table.table.specs (own.first + j)
      spec_here = ap (λ (z : List Spec). spec_at z j) cs_are ∙ get_or-take own.count (drop own.first table.table.specs) j (spec_at [] 0) inside ∙ get_or-drop own.first table.table.specs j (spec_at [] 0)

      abbrev IsLeastOf : List Meaning → Spec → Type 0
      IsLeastOf ms c = IsLeastForm classes c.name ms c.form c.constant

      -- what is told of a column
      pub column_told : (told : Bool) → ((section : List ℕ) (names : ℕ → ℕ) (values : ℕ → List Headed) → names (d.first + j) ≡ (spec_at cs j).name → HoldsValues section names values held → values (d.first + j) ≢ [] → AreSpelled (spec_at cs j).name (spec_at cs j).form (spec_at cs j).constant (meanings_in section (without_heads (values (d.first + j)))) → IsTrue told ↔ IsLeastForm classes (spec_at cs j).name (taken_meanings (meant_with_heads section (values (d.first + j)))) (spec_at cs j).form (spec_at cs j).constant) → IsTrue told ↔ IsLeastForm classes (spec_at (declared_at (declarations_of table.table) k).columns j).name (column_meanings units table.place k j) (spec_at (declared_at (declarations_of table.table) k).columns j).form (spec_at (declared_at (declarations_of table.table) k).columns j).constant
      column_told told tells =
          let first : own.first + j ≡ d.first + j = ap (λ (z : Decl). z.first + j) (sym d_is) in
          let some : holds.values (d.first + j) ≢ [] = subst (λ (n : ℕ). holds.values n ≢ []) first (holds.some k j known inside) in
          let spelled : AreSpelled (spec_at cs j).name (spec_at cs j).form (spec_at cs j).constant (meanings_in holds.section (without_heads (holds.values (own.first + j)))) = subst (λ (c : Spec). AreSpelled c.name c.form c.constant (meanings_in holds.section (without_heads (holds.values (own.first + j))))) (sym spec_here) (holds.spelled k j known inside) in
          let named : names_in table.table (d.first + j) ≡ (spec_at cs j).name = ap (names_in table.table) (sym first) ∙ ap (λ (c : Spec). c.name) (sym spec_here) in
          let own_told = tells holds.section (names_in table.table) holds.values named holds.holds some (subst (λ (n : ℕ). AreSpelled (spec_at cs j).name (spec_at cs j).form (spec_at cs j).constant (meanings_in holds.section (without_heads (holds.values n)))) first spelled) in
          let mean : taken_meanings (meant_with_heads holds.section (holds.values (d.first + j))) ≡ column_meanings units table.place k j = ap (λ (n : ℕ). taken_meanings (meant_with_heads holds.section (holds.values n))) (sym first) ∙ ap taken_meanings (holds.mean k j known inside) in
          let here : IsTrue told ↔ IsLeastOf (column_meanings units table.place k j) (spec_at cs j) = subst (λ (ms : List Meaning). IsTrue told ↔ IsLeastOf ms (spec_at cs j)) mean own_told in
          subst (λ (z : List Spec). IsTrue told ↔ IsLeastOf (column_meanings units table.place k j) (spec_at z j)) (cs_are ∙ sym columns_are) here

      -- one more column is in a least form
      pub short_more : AreShortTo classes units table k j → IsLeastForm classes (spec_at (declared_at (declarations_of table.table) k).columns j).name (column_meanings units table.place k j) (spec_at (declared_at (declarations_of table.table) k).columns j).form (spec_at (declared_at (declarations_of table.table) k).columns j).constant → AreShortTo classes units table k (j + 1)
      short_more before here i less = elim (cases_lt i j) [
        | inl earlier ↦ before i earlier
        | inr from ↦ let same : j ≡ i = omega arith in subst (λ (n : ℕ). IsLeastOf (column_meanings units table.place k n) (spec_at columns n)) same here
      ]

  -- all columns are in least forms
  pub none_long : (n : ℕ) → length (declared_at (declarations_of table.table) k).columns ≤ n → AreShortTo classes units table k n → HasLongColumnIn classes units table k → ⊥
  none_long n past short (j, below, long) = long (short j (omega arith))

-- the columns of one more declaration are in least forms
pub short_below_more : (classes : Classes) (units : List HeadAndForest) (table : NamedTable) (n : ℕ) → AreShortBelow classes units table n → AreShort classes units table n → AreShortBelow classes units table (n + 1)
short_below_more classes units table n before here k below = elim (cases_lt k n) [
  | inl earlier ↦ before k earlier
  | inr from ↦ let same : n ≡ k = omega arith in subst (AreShort classes units table) same here
]

-- THE FIRST OF A TABLE

module _ (classes : Classes) (units : List HeadAndForest) (table : NamedTable) (stands : IsTable table.table) (n : ℕ) where
  abbrev Untidy : ℕ → Type 0
  Untidy k = IsFallen (declarations_of table.table) k ⊎ HasLongColumnIn classes units table k

  at_rises : (i j : ℕ) → i < j → j < length table.table.decls → (decl_at table.table.decls i).at < (decl_at table.table.decls j).at
  at_rises i j less below = placed_rise table.table.specs _ table.table.decls stands.2.front i j stands.2.placed less below

  -- one more isn't untidy
  pub none_more : ((p : ℕ) → IsUntidyBelow classes units table n p → ⊥) → (IsFallen (declarations_of table.table) n ⊎ HasLongColumnIn classes units table n → ⊥) → (p : ℕ) → IsUntidyBelow classes units table (n + 1) p → ⊥
  none_more before tidy p (k, below, place, untidy) = elim (cases_lt k n) [
    | inl earlier ↦ before p (k, earlier, place, untidy)
    | inr from ↦ let same : k ≡ n = omega arith in tidy (subst (λ (z : ℕ). Untidy z) same untidy)
  ]

  -- the first that is
  pub first_found : (p : ℕ) → n < length table.table.decls → p ≡ (decl_at table.table.decls n).at → ((q : ℕ) → IsUntidyBelow classes units table n q → ⊥) → IsFallen (declarations_of table.table) n ⊎ HasLongColumnIn classes units table n → IsLeastPlace (IsUntidyIn classes units table) p
  first_found p known place before untidy = ((n, known, place, untidy), earliest)
    where
      earliest : (q : ℕ) → q < p → IsUntidyIn classes units table q → ⊥
      earliest q less (k, inside, at, other) = elim (cases_lt k n) [
        | inl earlier ↦ before q (k, earlier, at, other)
        | inr from ↦ elim (cases_lt n k) [
          | inl later ↦ absurd (omega (arith, at_rises n k later inside, place, at, less))
          | inr to ↦
              let same : k ≡ n = omega arith in
              absurd (omega (arith, ap (λ (z : ℕ). (decl_at table.table.decls z).at) same, place, at, less))
        ]
      ]
