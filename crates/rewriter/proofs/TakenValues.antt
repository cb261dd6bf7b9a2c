-- The values of a unit as it is written, entry by entry: those of the first entry, then those of the next one.
use Rattle.std.proofs.Common.{◌≡◌, ◌≤◌, ◌<◌, ◌+◌, ◌-◌, ◌∙◌, ◌⊎◌, inl, inr, ℕ, zero, suc, List, [], ◌∷◌, ◌++◌, length, take, drop, sym, ap, refl, subst, arith}
use Rattle.std.specs.Prelude.{flat_map}
use Rattle.std.specs.List.{AllZip}
use Rattle.std.proofs.lemmas.List.{take_more, take_all, flat_map_more, append_assoc, append-nil, length-append, length-drop, length-take-le}
use Rattle.std.proofs.lemmas.List.Concat.{get_or-flat_map}
use Rattle.form_codec.specs.declared.value.Value.{Value}
use Rattle.form_codec.specs.declared.value.Value.TheVariants as value
use Rattle.abbrev_tables.specs.declared.decl.Decl.{Decl}
use Rattle.abbrev_tables.specs.declared.decl.Spec.{Spec}
use Rattle.abbrev_tables.specs.Listings.{Listing, decl_at, spec_at, declared_in}
use Rattle.entry_arena.specs.declared.entry.Entry.{Entry}
use Rattle.entry_arena.specs.Arena.{Arena, entry_at, value_at}
use Rattle.entry_arena.specs.Trees.{listed_to}
use Rattle.entry_arena.proofs.TreeLaws.{trees_are_walks}
use Rattle.entry_read.specs.Places.{HaveOwners}
use Rattle.entry_read.specs.Units.{HeadAndForest, entries_at, declarations_of, IsTable, IsUnitHeld}
use Rattle.entry_read.proofs.Declarations.{columns_inside}
use Rattle.entry_read.proofs.OwnerLaws.{values_belong}
use Rattle.unit_write.specs.Placing.{columns_of, values_in}
use Rattle.rewriter.specs.inside.Held.{HaveAllValues}
use Rattle.rewriter.specs.inside.Taken.{is_taken, taken_value, taken_row, taken_values}
use Rattle.rewriter.proofs.ColumnUnits.{entry_declared, entry_counted, entry_columns, entry_values, inside_unit, row_read}
use Rattle.rewriter.proofs.MovedValues.{part_at}
use Rattle.rewriter.proofs.Standing.{filled}
use Rattle.rewriter.proofs.Zips.{zip_from}

-- ENTRIES ONE AFTER THE OTHER

-- each entry has a row of as many items as it has values, and these rows stand one after the other
module _ (f : Arena) (all : HaveAllValues f) (row : Entry → List Value) (sized : (id : ℕ) → id < length f.entries → length (row (entry_at f.entries id)) ≡ (entry_at f.entries id).count) where
  -- those of one entry more
  rows_more : (id : ℕ) → id < length f.entries → length (flat_map row (take (id + 1) f.entries)) ≡ length (flat_map row (take id f.entries)) + (entry_at f.entries id).count
  rows_more id inside =
      ap (λ (es : List Entry). length (flat_map row es)) (take_more f.entries id (entry_at [] 0) inside)
      ∙ ap length (sym (flat_map_more row [] (take id f.entries) (entry_at f.entries id)))
      ∙ length-append (flat_map row (take id f.entries)) (row (entry_at f.entries id))
      ∙ ap (λ (n : ℕ). length (flat_map row (take id f.entries)) + n) (sized id inside)

  rows_before : (id : ℕ) → id < length f.entries → length (flat_map row (take id f.entries)) ≡ (entry_at f.entries id).first
  rows_before zero inside = sym all.first
  rows_before (suc id) inside =
      let next : suc id ≡ id + 1 = omega arith in
      ap (λ (n : ℕ). length (flat_map row (take n f.entries))) next
      ∙ rows_more id (omega arith)
      ∙ ap (λ (n : ℕ). n + (entry_at f.entries id).count) (rows_before id (omega arith))
      ∙ sym (all.adjacent id (omega arith))
      ∙ ap (λ (n : ℕ). (entry_at f.entries n).first) (sym next)

  pub rows_count : length (flat_map row f.entries) ≡ length f.values
  rows_count =
      let id : ℕ = length f.entries - 1 in
      let some : 0 < length f.entries = all.some in
      let last : id + 1 ≡ length f.entries = omega arith in
      ap (λ (es : List Entry). length (flat_map row es)) (sym (take_all (id + 1) f.entries (omega arith)))
      ∙ rows_more id (omega arith)
      ∙ ap (λ (n : ℕ). n + (entry_at f.entries id).count) (rows_before id (omega arith))
      ∙ all.last id last

  pub row_value : (id j : ℕ) → id < length f.entries → j < (entry_at f.entries id).count → value_at (flat_map row f.entries) ((entry_at f.entries id).first + j) ≡ value_at (row (entry_at f.entries id)) j
  row_value id j inside below =
      ap (λ (n : ℕ). value_at (flat_map row f.entries) (n + j)) (sym (rows_before id inside))
      ∙ get_or-flat_map row f.entries id j (entry_at [] 0) (value.Addr 0) inside (subst (λ (n : ℕ). j < n) (sym (sized id inside)) below)

-- the values of a unit that is held are those of its entries
pub held_values : (unit : HeadAndForest) (table : Listing) → IsUnitHeld unit.forest.section unit.head (declarations_of table) unit.forest → HaveAllValues unit.forest
held_values unit table held =
    let owned = values_belong unit.forest.section unit.head (declarations_of table) unit.forest refl held in
    let walk = (trees_are_walks unit.forest.section (declarations_of table) (entries_at unit.head) (listed_to unit.forest held.0)).0 held.1.tree in
    record { some = filled unit.forest.entries walk.some; first = owned.first; adjacent = owned.adjacent; last = owned.last }

-- THE VALUES OF AN ENTRY

row_count : (at : ℕ) (olds news : List Spec) (vs : List Value) → length olds ≡ length vs → length news ≡ length vs → length (taken_row at olds news vs) ≡ length vs
row_count at [] [] [] was is = refl
row_count at (old ∷ olds) [] vs was is = absurd (omega (arith, was, is))
row_count at [] (new ∷ news) vs was is = absurd (omega (arith, was, is))
row_count at [] [] (v ∷ vs) was is = absurd (omega (arith, was))
row_count at (old ∷ olds) (new ∷ news) [] was is = absurd (omega (arith, was))
row_count at (old ∷ olds) (new ∷ news) (v ∷ vs) was is = ap suc (row_count at olds news vs (omega (arith, was)) (omega (arith, is)))

row_at : (at : ℕ) (olds news : List Spec) (vs : List Value) (j : ℕ) → length olds ≡ length vs → length news ≡ length vs → j < length vs → value_at (taken_row at olds news vs) j ≡ taken_value at (is_taken (spec_at olds j) (spec_at news j)) (value_at vs j)
row_at at olds news [] j was is below = absurd (omega (arith, below))
row_at at [] news (v ∷ vs) j was is below = absurd (omega (arith, was))
row_at at (old ∷ olds) [] (v ∷ vs) j was is below = absurd (omega (arith, is))
row_at at (old ∷ olds) (new ∷ news) (v ∷ vs) zero was is below = refl
row_at at (old ∷ olds) (new ∷ news) (v ∷ vs) (suc j) was is below = row_at at olds news vs j (omega (arith, was)) (omega (arith, is)) (omega (arith, below))

-- what is left of a row, while its values are pushed one by one
pub row_next : (at : ℕ) (whole items pushed : List Value) (old new : Spec) (v : Value) (olds olds_next news news_next : List Spec) (vs vs_next : List Value) → whole ≡ items ++ taken_row at olds news vs → olds ≡ old ∷ olds_next → news ≡ new ∷ news_next → vs ≡ v ∷ vs_next → pushed ≡ items ++ taken_value at (is_taken old new) v ∷ [] → whole ≡ pushed ++ taken_row at olds_next news_next vs_next
row_next at whole items pushed old new v olds olds_next news news_next vs vs_next left o n w is =
    left
    ∙ ap (λ (cs : List Spec). items ++ taken_row at cs news vs) o
    ∙ ap (λ (cs : List Spec). items ++ taken_row at (old ∷ olds_next) cs vs) n
    ∙ ap (λ (xs : List Value). items ++ taken_row at (old ∷ olds_next) (new ∷ news_next) xs) w
    ∙ sym (append_assoc items (taken_value at (is_taken old new) v ∷ []) (taken_row at olds_next news_next vs_next))
    ∙ ap (λ (xs : List Value). xs ++ taken_row at olds_next news_next vs_next) (sym is)

row_none : (at : ℕ) (olds news : List Spec) (vs : List Value) → (length olds ≡ 0) ⊎ ((length news ≡ 0) ⊎ (length vs ≡ 0)) → taken_row at olds news vs ≡ []
row_none at [] news vs none = refl
row_none at (old ∷ olds) [] vs none = refl
row_none at (old ∷ olds) (new ∷ news) [] none = refl
row_none at (old ∷ olds) (new ∷ news) (v ∷ vs) (inl none) = absurd (omega (arith, none))
row_none at (old ∷ olds) (new ∷ news) (v ∷ vs) (inr (inl none)) = absurd (omega (arith, none))
row_none at (old ∷ olds) (new ∷ news) (v ∷ vs) (inr (inr none)) = absurd (omega (arith, none))

pub row_done : (at : ℕ) (whole items : List Value) (olds news : List Spec) (vs : List Value) → whole ≡ items ++ taken_row at olds news vs → (length olds ≡ 0) ⊎ ((length news ≡ 0) ⊎ (length vs ≡ 0)) → items ≡ whole
row_done at whole items olds news vs left none = sym (left ∙ ap (λ (xs : List Value). items ++ xs) (row_none at olds news vs none) ∙ append-nil items)

-- A UNIT

-- those of an entry of a unit, by its table and new columns in place of the table's
abbrev pub row_of : HeadAndForest → Listing → List Spec → Entry → List Value
row_of unit table columns e = taken_row unit.head.at (columns_of table table.specs e.decl) (columns_of table columns e.decl) (take e.count (drop e.first unit.forest.values))

module _ (unit : HeadAndForest) (table : Listing) (columns : List Spec) (known : IsTable table) (held : IsUnitHeld unit.forest.section unit.head (declarations_of table) unit.forest) (renewed : length columns ≡ length table.specs) where
  -- an entry has as many values as it has columns, old and new ones
  pub columns_count : (specs : List Spec) (id : ℕ) → length specs ≡ length table.specs → id < length unit.forest.entries → length (columns_of table specs (entry_at unit.forest.entries id).decl) ≡ (entry_at unit.forest.entries id).count
  columns_count specs id many inside =
      let e : Entry = entry_at unit.forest.entries id in
      let d : Decl = decl_at table.decls e.decl in
      let counted : e.count ≡ d.count = entry_counted table unit known held id inside in
      let wide : d.first + e.count ≤ length table.specs = entry_columns table unit known held id inside in
      length-take-le d.count (drop d.first specs) (omega (arith, length-drop d.first specs)) ∙ sym counted

  pub values_count : (id : ℕ) → id < length unit.forest.entries → length (values_in unit.forest id) ≡ (entry_at unit.forest.entries id).count
  values_count id inside =
      let e : Entry = entry_at unit.forest.entries id in
      let within : e.first + e.count ≤ length unit.forest.values = entry_values table unit known held id inside in
      length-take-le e.count (drop e.first unit.forest.values) (omega (arith, length-drop e.first unit.forest.values))

  row_sized : (id : ℕ) → id < length unit.forest.entries → length (row_of unit table columns (entry_at unit.forest.entries id)) ≡ (entry_at unit.forest.entries id).count
  row_sized id inside =
      let e : Entry = entry_at unit.forest.entries id in
      row_count unit.head.at (columns_of table table.specs e.decl) (columns_of table columns e.decl) (values_in unit.forest id) (columns_count table.specs id refl inside ∙ sym (values_count id inside)) (columns_count columns id renewed inside ∙ sym (values_count id inside)) ∙ values_count id inside

  -- there are as many values as were read
  pub taken_count : length (taken_values table columns unit) ≡ length unit.forest.values
  unfolding taken_values
  taken_count = rows_count unit.forest (held_values unit table held) (row_of unit table columns) row_sized

  -- each value of an entry is taken by its column
  pub taken_at : (id j : ℕ) → id < length unit.forest.entries → j < (entry_at unit.forest.entries id).count → value_at (taken_values table columns unit) ((entry_at unit.forest.entries id).first + j) ≡ taken_value unit.head.at (is_taken (spec_at (columns_of table table.specs (entry_at unit.forest.entries id).decl) j) (spec_at (columns_of table columns (entry_at unit.forest.entries id).decl) j)) (value_at unit.forest.values ((entry_at unit.forest.entries id).first + j))
  unfolding taken_values
  taken_at id j inside below =
      let e : Entry = entry_at unit.forest.entries id in
      let here : j < length (values_in unit.forest id) = subst (λ (n : ℕ). j < n) (sym (values_count id inside)) below in
      let olds : List Spec = columns_of table table.specs e.decl in
      let news : List Spec = columns_of table columns e.decl in
      row_value unit.forest (held_values unit table held) (row_of unit table columns) row_sized id j inside below
      ∙ row_at unit.head.at olds news (values_in unit.forest id) j (columns_count table.specs id refl inside ∙ sym (values_count id inside)) (columns_count columns id renewed inside ∙ sym (values_count id inside)) here
      ∙ ap (taken_value unit.head.at (is_taken (spec_at olds j) (spec_at news j))) (part_at unit.forest.values e.first e.count j (value.Addr 0) here).0

  -- what is true of each value of an entry and of the one that is written for it is true of all of them
  pub taken_zip : (R : Value → Value → Type 0) → ((id j : ℕ) → id < length unit.forest.entries → j < (entry_at unit.forest.entries id).count → R (value_at unit.forest.values ((entry_at unit.forest.entries id).first + j)) (taken_value unit.head.at (is_taken (spec_at (columns_of table table.specs (entry_at unit.forest.entries id).decl) j) (spec_at (columns_of table columns (entry_at unit.forest.entries id).decl) j)) (value_at unit.forest.values ((entry_at unit.forest.entries id).first + j)))) → AllZip R unit.forest.values (taken_values table columns unit)
  taken_zip R each = zip_from R unit.forest.values (taken_values table columns unit) (value.Addr 0) (value.Addr 0) taken_count (λ k inside.
      let owned : HaveOwners (declarations_of table) unit.forest = values_belong unit.forest.section unit.head (declarations_of table) unit.forest refl held in
      let owner = owned.owned k inside in
      let e : Entry = entry_at unit.forest.entries owner.0 in
      let from : e.first ≤ k = owner.2 in
      let to : k < e.first + e.count = owner.3 in
      let j : ℕ = k - e.first in
      let same : e.first + j ≡ k = omega arith in
      let here = subst (R (value_at unit.forest.values (e.first + j))) (sym (taken_at owner.0 j owner.1 (omega arith))) (each owner.0 j owner.1 (omega arith)) in
      subst (λ (n : ℕ). R (value_at unit.forest.values n) (value_at (taken_values table columns unit) n)) same here)

-- ENTRY BY ENTRY

-- the rows of the first entries, where lists are those of the unit and of its table
module _ (unit : HeadAndForest) (table : Listing) (columns : List Spec) (known : IsTable table) (held : IsUnitHeld unit.forest.section unit.head (declarations_of table) unit.forest) (renewed : length columns ≡ length table.specs) (entries : List Entry) (entries_are : entries ≡ unit.forest.entries) (id : ℕ) (below : id < length entries) where
  abbrev e : Entry
  e = entry_at entries id

  abbrev own : Entry
  own = entry_at unit.forest.entries id

  inside : id < length unit.forest.entries
  inside = inside_unit table unit known held entries entries_are id below

  module _ (d : Decl) (d_is : d ≡ decl_at table.decls (entry_at entries id).decl) where
    decl_same : d ≡ decl_at table.decls own.decl
    decl_same = d_is ∙ ap (λ (es : List Entry). decl_at table.decls (entry_at es id).decl) entries_are

    pub columns_within : d.first + d.count ≤ length columns
    columns_within =
        let wide = subst (λ (z : Decl). z.first + z.count ≤ length table.specs) (sym decl_same) (columns_inside table own.decl known (entry_declared table unit known held id inside)) in
        omega (arith, wide, renewed)

    -- its new columns and its values
    news_same : take (d.first + d.count - d.first) (drop d.first columns) ≡ columns_of table columns own.decl
    news_same =
        let count : d.first + d.count - d.first ≡ d.count = omega arith in
        ap (λ (n : ℕ). take n (drop d.first columns)) count ∙ ap (λ (z : Decl). (declared_in columns z).columns) decl_same

    module _ (olds : List Spec) (olds_are : olds ≡ (declared_in table.specs (decl_at table.decls (entry_at entries id).decl)).columns) (values : List Value) (values_are : values ≡ unit.forest.values) (row : List Value) (row_is : row ≡ take ((entry_at entries id).first + (entry_at entries id).count - (entry_at entries id).first) (drop (entry_at entries id).first values)) where
      olds_same : olds ≡ columns_of table table.specs own.decl
      olds_same = olds_are ∙ ap (λ (es : List Entry). columns_of table table.specs (entry_at es id).decl) entries_are

      row_same : row ≡ values_in unit.forest id
      row_same = row_read table unit known held entries entries_are id below values values_are row row_is

      size : length row ≡ own.count
      size = ap length row_same ∙ values_count unit table columns known held renewed id inside

      pub olds_count : length olds ≡ length row
      olds_count = ap length olds_same ∙ columns_count unit table columns known held renewed table.specs id refl inside ∙ sym size

      pub news_count : length (take (d.first + d.count - d.first) (drop d.first columns)) ≡ length row
      news_count = ap length news_same ∙ columns_count unit table columns known held renewed columns id renewed inside ∙ sym size

      pub row_pushed : (at : ℕ) (items pushed : List Value) → at ≡ unit.head.at → items ≡ flat_map (row_of unit table columns) (take id unit.forest.entries) → pushed ≡ items ++ taken_row at olds (take (d.first + d.count - d.first) (drop d.first columns)) row → pushed ≡ flat_map (row_of unit table columns) (take (id + 1) unit.forest.entries)
      row_pushed at items pushed at_is before is =
          let news : List Spec = take (d.first + d.count - d.first) (drop d.first columns) in
          let taken : taken_row at olds news row ≡ row_of unit table columns own =
          ap (λ (n : ℕ). taken_row n olds news row) at_is
          ∙ ap (λ (cs : List Spec). taken_row unit.head.at cs news row) olds_same
          ∙ ap (λ (cs : List Spec). taken_row unit.head.at (columns_of table table.specs own.decl) cs row) news_same
          ∙ ap (taken_row unit.head.at (columns_of table table.specs own.decl) (columns_of table columns own.decl)) row_same in
          is
          ∙ ap (λ (vs : List Value). vs ++ taken_row at olds news row) before
          ∙ ap (λ (vs : List Value). flat_map (row_of unit table columns) (take id unit.forest.entries) ++ vs) taken
          ∙ flat_map_more (row_of unit table columns) [] (take id unit.forest.entries) own
          ∙ ap (flat_map (row_of unit table columns)) (sym (take_more unit.forest.entries id (entry_at [] 0) inside))

-- those of all entries are the values of the unit
pub rows_done : (unit : HeadAndForest) (table : Listing) (columns : List Spec) (entries : List Entry) (count : ℕ) (items : List Value) → entries ≡ unit.forest.entries → length entries ≤ count → items ≡ flat_map (row_of unit table columns) (take count unit.forest.entries) → items ≡ taken_values table columns unit
unfolding taken_values
rows_done unit table columns entries count items entries_are most is =
    let all : length unit.forest.entries ≤ count = subst (λ (es : List Entry). length es ≤ count) entries_are most in
    is ∙ ap (flat_map (row_of unit table columns)) (take_all count unit.forest.entries all)
