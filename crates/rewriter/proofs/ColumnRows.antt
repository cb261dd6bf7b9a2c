-- The values of an entry, each in its column.
use Rattle.std.proofs.Common.{◌≡◌, ◌≤◌, ◌<◌, ◌+◌, ◌-◌, ◌⊎◌, inl, inr, ◌∙◌, ℕ, List, [], ◌∷◌, ◌++◌, length, take, drop, true, false, sym, ap, leb, ltb, arith}
use Rattle.std.proofs.lemmas.Bool.{and_from, and_left, and_right, le-leb, lt-leb, lt-ltb, le-ltb, cond-true, cond-false, cond_both}
use Rattle.std.proofs.lemmas.List.{append-nil, length-append, length-drop, length-take-le, get_or-take, get_or-drop, flat_map_more}
use Rattle.form_codec.specs.declared.value.Value.{Value}
use Rattle.abbrev_tables.specs.declared.decl.Decl.{Decl}
use Rattle.abbrev_tables.specs.Listings.{decl_at}
use Rattle.column_forms.specs.TableColumns.{AddsRow}
use Rattle.entry_arena.specs.declared.entry.Entry.{Entry}
use Rattle.entry_arena.specs.Arena.{value_at}
use Rattle.rewriter.specs.inside.Columns.{has_column, value_in_column, values_in_column, with_entries}

-- a declaration has those columns of its table that follow its first one, and no others
pub column_here : (d : Decl) (k : ℕ) → d.first ≤ k → k < d.first + d.count → has_column d k ≡ true
column_here d k low high = and_from (leb d.first k) (ltb k (d.first + d.count)) (le-leb d.first k low) (lt-ltb k (d.first + d.count) high)

pub column_before : (d : Decl) (k : ℕ) → k < d.first → has_column d k ≡ false
column_before d k low = and_left (leb d.first k) (ltb k (d.first + d.count)) (lt-leb d.first k low)

pub column_past : (d : Decl) (k : ℕ) → d.first + d.count ≤ k → has_column d k ≡ false
column_past d k high = and_right (leb d.first k) (ltb k (d.first + d.count)) (le-ltb k (d.first + d.count) high)

pub column_outside : (d : Decl) (k : ℕ) → (k < d.first) ⊎ (d.first + d.count ≤ k) → has_column d k ≡ false
column_outside d k (inl low) = column_before d k low
column_outside d k (inr high) = column_past d k high

module _ (decls : List Decl) (values : List Value) (e : Entry) where
  -- an entry has a value in each column of its declaration
  pub value_here : (j : ℕ) → j < (decl_at decls e.decl).count → value_in_column decls values ((decl_at decls e.decl).first + j) e ≡ value_at values (e.first + j) ∷ []
  value_here j inside =
      let d : Decl = decl_at decls e.decl in
      let k : ℕ = d.first + j in
      let place : k - d.first ≡ j = omega arith in
      cond-true {A = List Value} (has_column d k) (value_at values (e.first + (k - d.first)) ∷ []) [] (column_here d k (omega arith) (omega arith))
      ∙ ap (λ (n : ℕ). value_at values (e.first + n) ∷ []) place

  -- and in no other
  pub value_none : (k : ℕ) → has_column (decl_at decls e.decl) k ≡ false → value_in_column decls values k e ≡ []
  value_none k none =
      let d : Decl = decl_at decls e.decl in
      cond-false {A = List Value} (has_column d k) (value_at values (e.first + (k - d.first)) ∷ []) [] none

  one_value : (k : ℕ) → length (value_in_column decls values k e) ≤ 1
  one_value k =
      let d : Decl = decl_at decls e.decl in
      cond_both (has_column d k) (value_at values (e.first + (k - d.first)) ∷ []) [] (λ (vs : List Value). length vs ≤ 1) (λ _. omega arith) (λ _. omega arith)

  more_values : (entries : List Entry) (before : ℕ → List Value) (k : ℕ) → with_entries decls values (entries ++ e ∷ []) before k ≡ with_entries decls values entries before k ++ value_in_column decls values k e
  more_values entries before k = sym (flat_map_more (value_in_column decls values k) (before k) entries e)

  -- One entry more: each of its values comes behind those that its column had.
  pub row_added : (entries : List Entry) (before : ℕ → List Value) (row : List Value) → row ≡ take e.count (drop e.first values) → e.count ≡ (decl_at decls e.decl).count → e.first + e.count ≤ length values → AddsRow (decl_at decls e.decl).first row (with_entries decls values entries before) (with_entries decls values (entries ++ e ∷ []) before)
  row_added entries before row row_is counted inside =
      let d : Decl = decl_at decls e.decl in
      let size : length row ≡ e.count = ap length row_is ∙ length-take-le e.count (drop e.first values) (omega (arith, length-drop e.first values)) in
      record {
        each = λ j below.
            let within : j < e.count = omega arith in
            let same : value_at row j ≡ value_at values (e.first + j) = ap (λ (vs : List Value). value_at vs j) row_is ∙ get_or-take e.count (drop e.first values) j (value_at [] 0) within ∙ get_or-drop e.first values j (value_at [] 0) in
            let now : value_in_column decls values (d.first + j) e ≡ value_at row j ∷ [] = value_here j (omega arith) ∙ ap (λ (v : Value). v ∷ []) (sym same) in
            more_values entries before (d.first + j) ∙ ap (λ (vs : List Value). with_entries decls values entries before (d.first + j) ++ vs) now;
        others = λ k out.
            let far : (k < d.first) ⊎ (d.first + d.count ≤ k) = elim out [
              | inl low ↦ inl low
              | inr high ↦ inr (omega (arith, size, counted, high))
            ] in
            more_values entries before k ∙ ap (λ (vs : List Value). with_entries decls values entries before k ++ vs) (value_none k (column_outside d k far)) ∙ append-nil (with_entries decls values entries before k);
      }

-- each entry has one value at most in a column
pub few_values : (decls : List Decl) (values : List Value) (entries : List Entry) (k : ℕ) → length (values_in_column decls values entries k) ≤ length entries
few_values decls values [] k = omega arith
few_values decls values (e ∷ es) k =
    let rest : length (values_in_column decls values es k) ≤ length es = few_values decls values es k in
    omega (arith, length-append (value_in_column decls values k e) (values_in_column decls values es k), one_value decls values e k, rest)
