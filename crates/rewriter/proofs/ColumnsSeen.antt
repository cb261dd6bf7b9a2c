-- What is seen of the columns of a table, value by value, and which of them become references within units.
use Rattle.std.proofs.Common.{◌≡◌, ◌≢◌, ◌≤◌, ◌<◌, ◌+◌, ◌-◌, ◌&&◌, ◌⊎◌, inl, inr, ◌∙◌, ℕ, Bool, List, [], ◌∷◌, ◌++◌, length, map, take, drop, get_or, eqb, sym, ap, refl, subst, arith}
use Rattle.std.specs.Prelude.{slice_set}
use Rattle.std.proofs.lemmas.Bool.{cases_lt, cond-false, and_right, ne_eqb}
use Rattle.std.proofs.lemmas.List.{append-nil, append_assoc, length-drop, length-map, length-set, length-take-le, get_or-drop, get_or-map, get_or-set_other, get_or-set_same, get_or-take, get_or_default, flat_map_more, map-append, take_more}
use Rattle.form_codec.specs.declared.form.Form.TheVariants.{RefAddr}
use Rattle.form_codec.specs.declared.value.Value.{Value}
use Rattle.form_codec.specs.Forms.{Meaning, code_of}
use Rattle.form_codec.specs.Values.{meant_in}
use Rattle.abbrev_tables.specs.declared.decl.Decl.{Decl}
use Rattle.abbrev_tables.specs.declared.decl.Spec.{Spec}
use Rattle.abbrev_tables.specs.Listings.{Listing, decl_at, spec_at}
use Rattle.entry_arena.specs.declared.entry.Entry.{Entry}
use Rattle.entry_arena.specs.Arena.{entry_at, value_at}
use Rattle.entry_read.specs.declared.head.UnitHead.{UnitHead}
use Rattle.entry_read.specs.Units.{HeadAndForest, declarations_of, IsTable, IsUnitHeld}
use Rattle.written_files.specs.Uses.{names_inside, are_inside}
use Rattle.rewriter.specs.declared.inside_columns.Seen.{Seen}
use Rattle.rewriter.specs.declared.inside_columns.Seen.TheVariants.{Nothing}
use Rattle.rewriter.specs.inside.Placed.{unit_in}
use Rattle.rewriter.specs.inside.Columns.{value_in_column, values_in_column, AreInside, AreSeen, SeesEntries, SeesRow, seen_at, seen_of, inside_column, column_inside, meanings_of_units, with_head}
use Rattle.rewriter.proofs.ColumnRows.{column_outside, value_here, value_none}
use Rattle.rewriter.proofs.ColumnUnits.{entry_counted, entry_values}

-- A ROW

-- the columns of the first so many values of a row, from one on, have seen these, and the others are as they were
pub record HasSeenRow (first : ℕ) (head : UnitHead) (row : List Value) (j : ℕ) (old new : List Seen) : Type 0 where
  pub count : length new ≡ length old
  pub each : (i : ℕ) (section : List ℕ) (values : List (UnitHead × Meaning)) → i < j → seen_at old (first + i) ≡ seen_of values → seen_at new (first + i) ≡ seen_of (values ++ (head, meant_in section (value_at row i)) ∷ [])
  pub others : (k : ℕ) → (k < first) ⊎ (first + j ≤ k) → seen_at new k ≡ seen_at old k

pub row_none : (first : ℕ) (head : UnitHead) (row : List Value) (seen : List Seen) → HasSeenRow first head row 0 seen seen
row_none first head row seen = record {
  count = refl;
  each = λ i section values below. absurd (omega arith);
  others = λ k out. refl;
}

-- one value more
pub row_more : (first : ℕ) (head : UnitHead) (row : List Value) (j : ℕ) (old now : List Seen) (was is : Seen) (v : Value) (test : Bool) → first + j < length old → HasSeenRow first head row j old now → was ≡ get_or now (first + j) was → v ≡ value_at row j → ((section : List ℕ) → test ≡ names_inside head (meant_in section v)) → ((values : List (UnitHead × Meaning)) (x : UnitHead × Meaning) → was ≡ seen_of values → test ≡ names_inside x.0 x.1 → is ≡ seen_of (values ++ x ∷ [])) → HasSeenRow first head row (j + 1) old (slice_set now (first + j) is)
row_more first head row j old now was is v test inside before was_is v_is tested next =
    let here : first + j < length now = omega (arith, inside, before.count) in
    let old_is : was ≡ seen_at old (first + j) = was_is ∙ get_or_default now (first + j) was Nothing here ∙ before.others (first + j) (inr (omega arith)) in
    record {
      count = length-set now (first + j) is ∙ before.count;
      each = λ i section values below seen. elim (cases_lt i j) [
        | inl less ↦ get_or-set_other now (first + j) (first + i) is Nothing (omega arith) ∙ before.each i section values less seen
        | inr more ↦
            let same : j ≡ i = omega arith in
            let seen' : seen_at old (first + j) ≡ seen_of values = subst (λ (n : ℕ). seen_at old (first + n) ≡ seen_of values) (sym same) seen in
            let now_is : is ≡ seen_of (values ++ (head, meant_in section v) ∷ []) = next values (head, meant_in section v) (old_is ∙ seen') (tested section) in
            let named : is ≡ seen_of (values ++ (head, meant_in section (value_at row j)) ∷ []) = now_is ∙ ap (λ (z : Value). seen_of (values ++ (head, meant_in section z) ∷ [])) v_is in
            subst (λ (n : ℕ). seen_at (slice_set now (first + j) is) (first + n) ≡ seen_of (values ++ (head, meant_in section (value_at row n)) ∷ [])) same (get_or-set_same now (first + j) is Nothing here ∙ named)
      ];
      others = λ k out. elim out [
        | inl low ↦ get_or-set_other now (first + j) k is Nothing (omega arith) ∙ before.others k (inl low)
        | inr high ↦ get_or-set_other now (first + j) k is Nothing (omega arith) ∙ before.others k (inr (omega arith))
      ];
    }

-- all values of a row are seen, each in its column
module _ (first : ℕ) (head : UnitHead) (row : List Value) (old new : List Seen) (inside : first + length row ≤ length old) (done : HasSeenRow first head row (length row) old new) (section : List ℕ) (before after : ℕ → List (UnitHead × Meaning)) (sees : SeesRow first (map (λ (v : Value). (head, meant_in section v)) row) before after) (seen : AreSeen (length old) before old) where
  abbrev named : Value → UnitHead × Meaning
  named v = (head, meant_in section v)

  size : length {A = UnitHead × Meaning} (map (λ (v : Value). (head, meant_in section v)) row) ≡ length row
  size = length-map row named

  kept : (k : ℕ) → k < length old → (k < first) ⊎ (first + length row ≤ k) → (k < first) ⊎ (first + length {A = UnitHead × Meaning} (map (λ (v : Value). (head, meant_in section v)) row) ≤ k) → seen_at new k ≡ seen_of (after k)
  kept k below out far = done.others k out ∙ seen.each k below ∙ ap seen_of (sym (sees.others k far))

  added : (i : ℕ) → i < length row → seen_at new (first + i) ≡ seen_of (after (first + i))
  added i within =
      let one : get_or (map named row) i (named (value_at [] 0)) ≡ named (value_at row i) = get_or-map named row i (value_at [] 0) (named (value_at [] 0)) within in
      let more : after (first + i) ≡ before (first + i) ++ named (value_at row i) ∷ [] = sees.each i (named (value_at [] 0)) (omega (arith, size)) ∙ ap (λ (x : UnitHead × Meaning). before (first + i) ++ x ∷ []) one in
      done.each i section (before (first + i)) within (seen.each (first + i) (omega (arith, within, inside))) ∙ ap seen_of (sym more)

  pub row_seen : AreSeen (length old) after new
  row_seen = record {
    size = done.count;
    each = λ k below.
        let known : k < length old = omega (arith, below, done.count) in
        elim (cases_lt k first) [
          | inl low ↦ kept k known (inl low) (inl low)
          | inr from ↦ elim (cases_lt k (first + length row)) [
            | inl within ↦
                let is : first + (k - first) ≡ k = omega arith in
                subst (λ (n : ℕ). seen_at new n ≡ seen_of (after n)) is (added (k - first) (omega arith))
            | inr high ↦ kept k known (inr high) (inr (omega (arith, size, high)))
          ]
        ];
  }

-- A UNIT

-- the same values by another name
pub seen_as : (m n : ℕ) (values others : ℕ → List (UnitHead × Meaning)) (seen : List Seen) → m ≡ n → ((k : ℕ) → values k ≡ others k) → AreSeen m values seen → AreSeen n others seen
seen_as m n values others seen counts same are = record { size = are.size ∙ counts; each = λ k below. are.each k below ∙ ap seen_of (same k) }

-- what a column has seen with some entries of a unit more
abbrev pub with_seen : List Decl → HeadAndForest → List Entry → (ℕ → List (UnitHead × Meaning)) → ℕ → List (UnitHead × Meaning)
with_seen decls unit entries before k = before k ++ with_head unit (values_in_column decls unit.forest.values entries k)

module _ (decls : List Decl) (unit : HeadAndForest) (e : Entry) where
  abbrev values : List Value
  values = unit.forest.values

  more_seen : (entries : List Entry) (before : ℕ → List (UnitHead × Meaning)) (k : ℕ) → with_seen decls unit (entries ++ e ∷ []) before k ≡ with_seen decls unit entries before k ++ with_head unit (value_in_column decls unit.forest.values k e)
  more_seen entries before k =
      let own : List Value = values_in_column decls values entries k in
      let next : List Value = value_in_column decls values k e in
      ap (λ (vs : List Value). before k ++ with_head unit vs) (sym (flat_map_more (value_in_column decls values k) [] entries e))
      ∙ ap (λ (ms : List (UnitHead × Meaning)). before k ++ ms) (map-append (λ (v : Value). (unit.head, meant_in unit.forest.section v)) own next)
      ∙ sym (append_assoc (before k) (with_head unit own) (with_head unit next))

  -- One entry more: each of its values comes behind those that its column had.
  row_sees : (entries : List Entry) (before : ℕ → List (UnitHead × Meaning)) (row : List Value) → row ≡ take e.count (drop e.first unit.forest.values) → e.count ≡ (decl_at decls e.decl).count → e.first + e.count ≤ length unit.forest.values → SeesRow (decl_at decls e.decl).first (with_head unit row) (with_seen decls unit entries before) (with_seen decls unit (entries ++ e ∷ []) before)
  row_sees entries before row row_is counted inside =
      let d : Decl = decl_at decls e.decl in
      let named : Value → UnitHead × Meaning = λ (v : Value). (unit.head, meant_in unit.forest.section v) in
      let size : length row ≡ e.count = ap length row_is ∙ length-take-le e.count (drop e.first values) (omega (arith, length-drop e.first values)) in
      let wide : length (with_head unit row) ≡ length row = length-map row named in
      record {
        each = λ j other below.
            let within : j < e.count = omega arith in
            let same : value_at row j ≡ value_at values (e.first + j) = ap (λ (vs : List Value). value_at vs j) row_is ∙ get_or-take e.count (drop e.first values) j (value_at [] 0) within ∙ get_or-drop e.first values j (value_at [] 0) in
            let one : get_or (with_head unit row) j other ≡ named (value_at row j) = get_or-map named row j (value_at [] 0) other (omega arith) in
            let now : with_head unit (value_in_column decls values (d.first + j) e) ≡ named (value_at values (e.first + j)) ∷ [] = ap (with_head unit) (value_here decls values e j (omega arith)) in
            more_seen entries before (d.first + j)
            ∙ ap (λ (ms : List (UnitHead × Meaning)). with_seen decls unit entries before (d.first + j) ++ ms) (now ∙ ap (λ (v : Value). named v ∷ []) (sym same) ∙ ap (λ (m : UnitHead × Meaning). m ∷ []) (sym one));
        others = λ k out.
            let far : (k < d.first) ⊎ (d.first + d.count ≤ k) = elim out [
              | inl low ↦ inl low
              | inr high ↦ inr (omega (arith, wide, size, counted, high))
            ] in
            more_seen entries before k
            ∙ ap (λ (vs : List Value). with_seen decls unit entries before k ++ with_head unit vs) (value_none decls values e k (column_outside d k far))
            ∙ append-nil (with_seen decls unit entries before k);
      }

module _ (table : Listing) (unit : HeadAndForest) (known : IsTable table) (held : IsUnitHeld unit.forest.section unit.head (declarations_of table) unit.forest) (id : ℕ) (inside : id < length unit.forest.entries) where
  abbrev e : Entry
  e = entry_at unit.forest.entries id

  -- the values of an entry are seen
  pub entry_sees : (old now new : List Seen) → SeesEntries table.decls unit (take id unit.forest.entries) old now → length new ≡ length now → (row : List Value) → row ≡ take (entry_at unit.forest.entries id).count (drop (entry_at unit.forest.entries id).first unit.forest.values) → (first : ℕ) → first ≡ (decl_at table.decls (entry_at unit.forest.entries id).decl).first → (head : UnitHead) → head ≡ unit.head → ((section : List ℕ) (before after : ℕ → List (UnitHead × Meaning)) → SeesRow first (map (λ (v : Value). (head, meant_in section v)) row) before after → AreSeen (length now) before now → AreSeen (length now) after new) → SeesEntries table.decls unit (take (id + 1) unit.forest.entries) old new
  entry_sees old now new sees same row row_is first first_is head head_is law =
      let done : List Entry = take id unit.forest.entries in
      let more : take (id + 1) unit.forest.entries ≡ done ++ e ∷ [] = take_more unit.forest.entries id (entry_at [] 0) inside in
      record {
        count = same ∙ sees.count;
        seen = λ before are.
            let own = row_sees table.decls unit e done before row row_is (entry_counted table unit known held id inside) (entry_values table unit known held id inside) in
            let there = subst (λ (n : ℕ). SeesRow n (with_head unit row) (with_seen table.decls unit done before) (with_seen table.decls unit (done ++ e ∷ []) before)) (sym first_is) own in
            let named = subst (λ (h : UnitHead). SeesRow first (map (λ (v : Value). (h, meant_in unit.forest.section v)) row) (with_seen table.decls unit done before) (with_seen table.decls unit (done ++ e ∷ []) before)) (sym head_is) there in
            let was = seen_as (length old) (length now) (with_seen table.decls unit done before) (with_seen table.decls unit done before) now (sym sees.count) (λ k. refl) (sees.seen before are) in
            let is = law unit.forest.section (with_seen table.decls unit done before) (with_seen table.decls unit (done ++ e ∷ []) before) named was in
            seen_as (length now) (length old) (with_seen table.decls unit (done ++ e ∷ []) before) (with_seen table.decls unit (take (id + 1) unit.forest.entries) before) new sees.count (λ k. ap (λ (es : List Entry). with_seen table.decls unit es before k) (sym more)) is;
      }

pub entries_unseen : (decls : List Decl) (unit : HeadAndForest) (seen : List Seen) → SeesEntries decls unit [] seen seen
entries_unseen decls unit seen = record {
  count = refl;
  seen = λ before are. seen_as (length seen) (length seen) before (with_seen decls unit [] before) seen refl (λ k. sym (append-nil (before k))) are;
}

-- ALL UNITS

module _ (units : List HeadAndForest) (table : Listing) (named : List ℕ) (n : ℕ) (inside : n < length named) (unit : HeadAndForest) (at_number : unit_in units (get_or named n 0) ≡ unit) where
  more_units : (k : ℕ) → with_seen table.decls unit unit.forest.entries (meanings_of_units units table.decls (take n named)) k ≡ meanings_of_units units table.decls (take (n + 1) named) k
  more_units k =
      let meanings_at : HeadAndForest → List (UnitHead × Meaning) = λ (x : HeadAndForest). with_head x (values_in_column table.decls x.forest.values x.forest.entries k) in
      ap (λ (ms : List (UnitHead × Meaning)). meanings_of_units units table.decls (take n named) k ++ ms) (ap meanings_at (sym at_number))
      ∙ flat_map_more (λ (z : ℕ). meanings_at (unit_in units z)) [] (take n named) (get_or named n 0)
      ∙ ap (λ (ns : List ℕ). meanings_of_units units table.decls ns k) (sym (take_more named n 0 inside))

  -- the values of a unit are seen
  pub unit_sees : (count : ℕ) (now new : List Seen) → AreSeen count (meanings_of_units units table.decls (take n named)) now → SeesEntries table.decls unit unit.forest.entries now new → AreSeen count (meanings_of_units units table.decls (take (n + 1) named)) new
  unit_sees count now new before sees =
      let was = seen_as count (length now) (meanings_of_units units table.decls (take n named)) (meanings_of_units units table.decls (take n named)) now (sym before.size) (λ k. refl) before in
      seen_as (length now) count (with_seen table.decls unit unit.forest.entries (meanings_of_units units table.decls (take n named))) (meanings_of_units units table.decls (take (n + 1) named)) new before.size more_units (sees.seen (meanings_of_units units table.decls (take n named)) was)

-- WHAT IS TAKEN

-- the first so many columns become references within units where what is seen of them allows it, and the others are as they were
pub record HaveTaken (seen : List Seen) (old : List Spec) (k : ℕ) (new : List Spec) : Type 0 where
  pub count : length new ≡ length old
  pub each : (i : ℕ) (values : List (UnitHead × Meaning)) → i < k → seen_at seen i ≡ seen_of values → spec_at new i ≡ column_inside values (spec_at old i)
  pub others : (i : ℕ) → k ≤ i → spec_at new i ≡ spec_at old i

-- a column of another form stays as it is
form_kept : (values : List (UnitHead × Meaning)) (column : Spec) → column.form ≢ code_of RefAddr → column_inside values column ≡ column
form_kept [] column other = refl
form_kept (v ∷ vs) column other =
    let all : Bool = are_inside (v ∷ vs) in
    let same : Bool = eqb column.form (code_of RefAddr) in
    cond-false {A = Spec} (all && same) (inside_column column) column (and_right all same (ne_eqb column.form (code_of RefAddr) other))

-- where no column has DW_FORM_ref_addr, none becomes another one
pub none_taken : (values : ℕ → List (UnitHead × Meaning)) (columns : List Spec) → ((k : ℕ) → k < length columns → (spec_at columns k).form ≢ code_of RefAddr) → AreInside values columns columns
none_taken values columns none = record { count = refl; each = λ k below. sym (form_kept (values k) (spec_at columns k) (none k below)) }
