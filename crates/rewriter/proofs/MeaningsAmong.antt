-- What the values of a column mean, and what its least form spells of them.
use Rattle.std.proofs.Common.{◌≡◌, ◌<◌, ◌+◌, ◌∙◌, ℕ, zero, suc, List, [], ◌∷◌, length, get_or, cond, eqb, Bool, true, sym, ap, subst, refl, arith}
use Rattle.std.specs.Prelude.{ℤ, map, filter, flat_map}
use Rattle.std.specs.List.{Contains}
use Rattle.std.proofs.lemmas.Bool.{cond_both, cond-true, eq-eqb}
use Rattle.std.proofs.lemmas.List.{get_or-map, length-map}
use Rattle.std.proofs.lemmas.List.Elements.{Contains-get_or, Contains-append_left, Contains-append_right}
use Rattle.form_codec.specs.declared.value.Value.{Value}
use Rattle.form_codec.specs.Forms.{Meaning, SpellsValue}
use Rattle.form_codec.specs.Columns.{EntriesWithin}
use Rattle.form_codec.specs.Values.{meant_in}
use Rattle.entry_arena.specs.declared.entry.Entry.{Entry}
use Rattle.entry_arena.specs.Arena.{entry_at, value_at}
use Rattle.entry_read.specs.declared.head.UnitHead.{UnitHead}
use Rattle.entry_read.specs.Units.{HeadAndForest}
use Rattle.written_files.specs.Uses.{values_with, column_values}
use Rattle.rewriter.specs.inside.Placed.{unit_in}

-- LISTS

module _ {X Y : Type 0} where
  -- an element's image is among the images
  pub contains_map : (f : X → Y) (xs : List X) (x : X) → Contains xs x → Contains (map f xs) (f x)
  contains_map f xs x (k, inside, same) =
      let size : length (map f xs) ≡ length xs = length-map xs f in
      (k, omega (arith, size, inside), get_or-map f xs k x (f x) inside ∙ ap f same)

  -- what one of the lists contains, all of them do
  contains_flat_map : (f : X → List Y) (xs : List X) (i : ℕ) (d : X) (y : Y) → i < length xs → Contains (f (get_or xs i d)) y → Contains (flat_map f xs) y
  contains_flat_map f [] i d y inside among = absurd (omega arith)
  contains_flat_map f (x ∷ xs) zero d y inside among = Contains-append_left (f x) (flat_map f xs) y among
  contains_flat_map f (x ∷ xs) (suc i) d y inside among = Contains-append_right (f x) (flat_map f xs) y (contains_flat_map f xs i d y (omega arith) among)

module _ {X : Type 0} where
  contains_more : (x y : X) (xs : List X) → Contains xs y → Contains (x ∷ xs) y
  contains_more x y xs (k, inside, same) = (suc k, omega arith, same)

  -- an element that passes the test is kept
  contains_filter : (p : X → Bool) (xs : List X) (i : ℕ) (d : X) → i < length xs → p (get_or xs i d) ≡ true → Contains (filter p xs) (get_or xs i d)
  contains_filter p [] i d inside passes = absurd (omega arith)
  contains_filter p (x ∷ xs) zero d inside passes =
      let is : filter p (x ∷ xs) ≡ x ∷ filter p xs = cond-true {A = List X} (p x) (x ∷ filter p xs) (filter p xs) passes in
      subst (λ (z : List X). Contains z x) (sym is) (Contains-get_or (x ∷ filter p xs) 0 x (omega arith))
  contains_filter p (x ∷ xs) (suc i) d inside passes =
      let y : X = get_or xs i d in
      let rest : Contains (filter p xs) y = contains_filter p xs i d (omega arith) passes in
      cond_both (p x) (x ∷ filter p xs) (filter p xs) (λ (z : List X). Contains z y) (λ _. contains_more x y (filter p xs) rest) (λ _. rest)

-- COLUMNS

-- the value that an entry has in a column of its declaration is one of those of the column in its unit
value_with : (unit : HeadAndForest) (id j : ℕ) → id < length unit.forest.entries → Contains (values_with (entry_at unit.forest.entries id).decl j unit) (value_at unit.forest.values ((entry_at unit.forest.entries id).first + j))
value_with unit id j known =
    let none : Entry = entry_at [] 0 in
    let e : Entry = entry_at unit.forest.entries id in
    let has : Entry → Bool = λ (x : Entry). eqb x.decl e.decl in
    let kept : Contains (filter has unit.forest.entries) e = contains_filter has unit.forest.entries id none known (eq-eqb e.decl e.decl refl) in
    contains_map (λ (x : Entry). value_at unit.forest.values (x.first + j)) (filter has unit.forest.entries) e kept

-- what a value of a unit means, with the header of the unit
abbrev headed : HeadAndForest → Value → UnitHead × Meaning
headed unit v = (unit.head, meant_in unit.forest.section v)

-- the values of a column that come from one unit
abbrev values_of : ℕ → ℕ → ℕ → HeadAndForest → List (UnitHead × Meaning)
values_of place number j unit = cond (eqb unit.head.table place) (map (headed unit) (values_with number j unit)) []

-- What a value of an entry means is one of the values of its column.
pub value_among : (units : List HeadAndForest) (u id j : ℕ) → u < length units → id < length (unit_in units u).forest.entries → Contains (column_values units (unit_in units u).head.table (entry_at (unit_in units u).forest.entries id).decl j) ((unit_in units u).head, meant_in (unit_in units u).forest.section (value_at (unit_in units u).forest.values ((entry_at (unit_in units u).forest.entries id).first + j)))
value_among units u id j inside known =
    let unit : HeadAndForest = unit_in units u in
    let number : ℕ = (entry_at unit.forest.entries id).decl in
    let v : Value = value_at unit.forest.values ((entry_at unit.forest.entries id).first + j) in
    let all : List (UnitHead × Meaning) = map (headed unit) (values_with number j unit) in
    let own : Contains all (headed unit v) = contains_map (headed unit) (values_with number j unit) v (value_with unit id j known) in
    let is : values_of unit.head.table number j unit ≡ all = cond-true {A = List (UnitHead × Meaning)} (eqb unit.head.table unit.head.table) all [] (eq-eqb unit.head.table unit.head.table refl) in
    let here : Contains (values_of unit.head.table number j unit) (headed unit v) = subst (λ (z : List (UnitHead × Meaning)). Contains z (headed unit v)) (sym is) own in
    contains_flat_map (values_of unit.head.table number j) units u (unit_in [] 0) (headed unit v) inside here

within_at : (name code : ℕ) (constant : ℤ) (meanings : List Meaning) (n k : ℕ) (d : Meaning) → EntriesWithin name code constant meanings n → k < length meanings → (bytes : List ℕ) × SpellsValue name code constant (get_or meanings k d) bytes
within_at name code constant [] n k d within inside = absurd (omega arith)
within_at name code constant (m ∷ ms) n zero d within inside = (within.0, within.2)
within_at name code constant (m ∷ ms) n (suc k) d within inside = within_at name code constant ms within.1 k d within.3 (omega arith)

-- a form whose bytes are enough for the values of a column spells each of them
pub spelled_among : (name code : ℕ) (constant : ℤ) (meanings : List Meaning) (n : ℕ) (m : Meaning) → EntriesWithin name code constant meanings n → Contains meanings m → (bytes : List ℕ) × SpellsValue name code constant m bytes
spelled_among name code constant meanings n m within (k, inside, same) =
    subst (λ (z : Meaning). (bytes : List ℕ) × SpellsValue name code constant z bytes) same (within_at name code constant meanings n k m within inside)
