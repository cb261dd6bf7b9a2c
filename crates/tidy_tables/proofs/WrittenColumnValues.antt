-- The values of a column in a file and in one that is written anew for it are those of entries with equal numbers, in one order.
use Rattle.std.proofs.Common.{◌≡◌, ◌<◌, ◌+◌, ◌∙◌, inl, inr, ℕ, suc, Bool, true, false, List, [], ◌∷◌, length, map, get_or, cond, eqb, sym, ap, refl, subst, arith}
use Rattle.std.specs.Prelude.{◌&&◌, ◌↔◌, filter, flat_map}
use Rattle.std.specs.List.{AllZip}
use Rattle.std.proofs.lemmas.Bool.{cases_Bool, cond-true, cond-false, and_parts, and_from, eqb-true, eq-eqb}
use Rattle.std.proofs.lemmas.List.{get_or-map, length-map}
use Rattle.form_codec.specs.declared.value.Value.{Value}
use Rattle.form_codec.specs.Forms.{Meaning}
use Rattle.form_codec.specs.Values.{meant_in}
use Rattle.entry_arena.specs.declared.entry.Entry.{Entry}
use Rattle.entry_arena.specs.Arena.{entry_at, value_at}
use Rattle.entry_read.specs.declared.head.UnitHead.{UnitHead}
use Rattle.entry_read.specs.Units.{HeadAndForest}
use Rattle.value_links.specs.Reading.{UnitRead, unit_among, no_unit}
use Rattle.value_links.specs.World.{head_and_forest}
use Rattle.written_files.specs.Uses.{values_with, column_values}
use Rattle.written_files.proofs.Zips.{zip_append, zip_map}

-- LISTS

-- a relation holds of what two tests keep, where both keep an element at each place or neither does
zip_kept : {A B : Type 0} (p : A → Bool) (q : B → Bool) (R : A → B → Type 0) (x : A) (y : B) (xs : List A) (ys : List B) → p x ≡ q y → (p x ≡ true → R x y) → AllZip R xs ys → AllZip R (cond (p x) (x ∷ xs) xs) (cond (q y) (y ∷ ys) ys)
zip_kept {A} {B} p q R x y xs ys same here rest = elim (cases_Bool (p x)) [
  | inl kept ↦
      let both : AllZip R (x ∷ xs) (y ∷ ys) = (here kept, rest) in
      subst (λ (us : List A). AllZip R us (cond (q y) (y ∷ ys) ys)) (sym (cond-true {A = List A} (p x) (x ∷ xs) xs kept))
      (subst (λ (vs : List B). AllZip R (x ∷ xs) vs) (sym (cond-true {A = List B} (q y) (y ∷ ys) ys (sym same ∙ kept))) both)
  | inr left ↦
      subst (λ (us : List A). AllZip R us (cond (q y) (y ∷ ys) ys)) (sym (cond-false {A = List A} (p x) (x ∷ xs) xs left))
      (subst (λ (vs : List B). AllZip R xs vs) (sym (cond-false {A = List B} (q y) (y ∷ ys) ys (sym same ∙ left))) rest)
]

zip_filter : {A B : Type 0} (p : A → Bool) (q : B → Bool) (R : A → B → Type 0) (xs : List A) (ys : List B) (d : A) (e : B) → length xs ≡ length ys → ((i : ℕ) → i < length xs → p (get_or xs i d) ≡ q (get_or ys i e)) → ((i : ℕ) → i < length xs → p (get_or xs i d) ≡ true → R (get_or xs i d) (get_or ys i e)) → AllZip R (filter p xs) (filter q ys)
zip_filter p q R [] [] d e count same each = tt
zip_filter p q R [] (y ∷ ys) d e count same each = absurd (omega (arith, count))
zip_filter p q R (x ∷ xs) [] d e count same each = absurd (omega (arith, count))
zip_filter p q R (x ∷ xs) (y ∷ ys) d e count same each =
    zip_kept p q R x y (filter p xs) (filter q ys) (same 0 (omega arith)) (each 0 (omega arith))
    (zip_filter p q R xs ys d e (omega (arith, count)) (λ i inside. same (suc i) (omega (arith, inside))) (λ i inside. each (suc i) (omega (arith, inside))))

zip_flat : {A B C D : Type 0} (R : C → D → Type 0) (f : A → List C) (g : B → List D) (xs : List A) (ys : List B) (d : A) (e : B) → length xs ≡ length ys → ((i : ℕ) → i < length xs → AllZip R (f (get_or xs i d)) (g (get_or ys i e))) → AllZip R (flat_map f xs) (flat_map g ys)
zip_flat R f g [] [] d e count each = tt
zip_flat R f g [] (y ∷ ys) d e count each = absurd (omega (arith, count))
zip_flat R f g (x ∷ xs) [] d e count each = absurd (omega (arith, count))
zip_flat R f g (x ∷ xs) (y ∷ ys) d e count each =
    zip_append R (f x) (flat_map f xs) (g y) (flat_map g ys) (each 0 (omega arith))
    (zip_flat R f g xs ys d e (omega (arith, count)) (λ i inside. each (suc i) (omega (arith, inside))))

none_kept : {A : Type 0} (xs : List A) → filter (λ (x : A). false) xs ≡ []
none_kept [] = refl
none_kept (x ∷ xs) = none_kept xs

map_twice : {A B C : Type 0} (g : B → C) (h : A → B) (xs : List A) → map g (map h xs) ≡ map (λ (x : A). g (h x)) xs
map_twice g h [] = refl
map_twice g h (x ∷ xs) = ap (λ zs. g (h x) ∷ zs) (map_twice g h xs)

-- a test of all moved into the test of each
tested_each : {A B C : Type 0} (b : Bool) (p : A → Bool) (g : B → C) (h : A → B) (xs : List A) → cond b (map g (map h (filter p xs))) [] ≡ map (λ (x : A). g (h x)) (filter (λ (x : A). b && p x) xs)
tested_each true p g h xs = map_twice g h (filter p xs)
tested_each {A} false p g h xs = ap (map (λ (x : A). g (h x))) (sym (none_kept xs))

same_truth : (a b : Bool) → (a ≡ true → b ≡ true) → (b ≡ true → a ≡ true) → a ≡ b
same_truth true b to back = sym (to refl)
same_truth false true to back = back refl
same_truth false false to back = refl

-- UNITS

-- whether an entry of a unit has the declaration with a number of the table at a place
abbrev has_declaration : ℕ → ℕ → HeadAndForest → Entry → Bool
has_declaration place number unit e = eqb unit.head.table place && eqb e.decl number

-- what its value in a column means, with the header of its unit
abbrev headed_value : ℕ → HeadAndForest → Entry → UnitHead × Meaning
headed_value j unit e = (unit.head, meant_in unit.forest.section (value_at unit.forest.values (e.first + j)))

-- the values of a unit in a column, if it names the table
abbrev values_in : ℕ → ℕ → ℕ → HeadAndForest → List (UnitHead × Meaning)
values_in place number j unit = cond (eqb unit.head.table place) (map (λ (v : Value). (unit.head, meant_in unit.forest.section v)) (values_with number j unit)) []

values_are : (place number j : ℕ) (unit : HeadAndForest) → values_in place number j unit ≡ map (headed_value j unit) (filter (has_declaration place number unit) unit.forest.entries)
values_are place number j unit =
    tested_each (eqb unit.head.table place) (λ (e : Entry). eqb e.decl number) (λ (v : Value). (unit.head, meant_in unit.forest.section v)) (λ (e : Entry). value_at unit.forest.values (e.first + j)) unit.forest.entries

-- an entry has the declaration
abbrev pub HasDeclaration : List UnitRead → ℕ → ℕ → ℕ → ℕ → Type 0
HasDeclaration units v id place number = ((unit_among units v).head.table ≡ place) × ((entry_at (unit_among units v).forest.entries id).decl ≡ number)

-- the value of an entry in a column
abbrev pub value_in : List UnitRead → ℕ → ℕ → ℕ → UnitHead × Meaning
value_in units v id j = headed_value j (head_and_forest (unit_among units v)) (entry_at (unit_among units v).forest.entries id)

module _ (place number : ℕ) (unit : HeadAndForest) (e : Entry) where
  test_of : (unit.head.table ≡ place) × (e.decl ≡ number) → has_declaration place number unit e ≡ true
  test_of (table, decl) = and_from (eqb unit.head.table place) (eqb e.decl number) (eq-eqb unit.head.table place table) (eq-eqb e.decl number decl)

  tested : has_declaration place number unit e ≡ true → (unit.head.table ≡ place) × (e.decl ≡ number)
  tested is = (let (table, decl) = and_parts (eqb unit.head.table place) (eqb e.decl number) is in (eqb-true unit.head.table place table, eqb-true e.decl number decl))

module _ (R : UnitHead × Meaning → UnitHead × Meaning → Type 0) (olds news : List UnitRead) (place number other also j : ℕ) (count : length olds ≡ length news) where
  -- the values of two units whose entries have the declaration by their numbers
  unit_paired : (one two : HeadAndForest) → length one.forest.entries ≡ length two.forest.entries → ((id : ℕ) → id < length one.forest.entries → ((one.head.table ≡ place) × ((entry_at one.forest.entries id).decl ≡ number)) ↔ ((two.head.table ≡ other) × ((entry_at two.forest.entries id).decl ≡ also))) → ((id : ℕ) → id < length one.forest.entries → (one.head.table ≡ place) × ((entry_at one.forest.entries id).decl ≡ number) → R (headed_value j one (entry_at one.forest.entries id)) (headed_value j two (entry_at two.forest.entries id))) → AllZip R (values_in place number j one) (values_in other also j two)
  unit_paired one two same have pair =
      let first : Entry = entry_at [] 0 in
      let kept = zip_filter (has_declaration place number one) (has_declaration other also two) (λ (x y : Entry). R (headed_value j one x) (headed_value j two y)) one.forest.entries two.forest.entries first first same
      (λ id inside. same_truth (has_declaration place number one (entry_at one.forest.entries id)) (has_declaration other also two (entry_at two.forest.entries id))
      (λ is. test_of other also two (entry_at two.forest.entries id) ((have id inside).0 (tested place number one (entry_at one.forest.entries id) is)))
      (λ is. test_of place number one (entry_at one.forest.entries id) ((have id inside).1 (tested other also two (entry_at two.forest.entries id) is))))
      (λ id inside is. pair id inside (tested place number one (entry_at one.forest.entries id) is)) in
      let mapped = zip_map R (headed_value j one) (headed_value j two) (filter (has_declaration place number one) one.forest.entries) (filter (has_declaration other also two) two.forest.entries) kept in
      subst (λ (vs : List (UnitHead × Meaning)). AllZip R vs (values_in other also j two)) (sym (values_are place number j one))
      (subst (λ (vs : List (UnitHead × Meaning)). AllZip R (map (headed_value j one) (filter (has_declaration place number one) one.forest.entries)) vs) (sym (values_are other also j two)) mapped)

  -- so those of all units
  pub values_paired : ((v : ℕ) → v < length olds → length (unit_among olds v).forest.entries ≡ length (unit_among news v).forest.entries) → ((v id : ℕ) → v < length olds → id < length (unit_among olds v).forest.entries → HasDeclaration olds v id place number ↔ HasDeclaration news v id other also) → ((v id : ℕ) → v < length olds → id < length (unit_among olds v).forest.entries → HasDeclaration olds v id place number → R (value_in olds v id j) (value_in news v id j)) → AllZip R (column_values (map head_and_forest olds) place number j) (column_values (map head_and_forest news) other also j)
  values_paired same have pair =
      let d : HeadAndForest = head_and_forest no_unit in
      zip_flat R (values_in place number j) (values_in other also j) (map head_and_forest olds) (map head_and_forest news) d d (length-map olds head_and_forest ∙ count ∙ sym (length-map news head_and_forest))
      (λ v below.
      let inside : v < length olds = subst (λ (n : ℕ). v < n) (length-map olds head_and_forest) below in
      let there : v < length news = subst (λ (n : ℕ). v < n) count inside in
      let one : get_or (map head_and_forest olds) v d ≡ head_and_forest (unit_among olds v) = get_or-map head_and_forest olds v no_unit d inside in
      let two : get_or (map head_and_forest news) v d ≡ head_and_forest (unit_among news v) = get_or-map head_and_forest news v no_unit d there in
      let both = unit_paired (head_and_forest (unit_among olds v)) (head_and_forest (unit_among news v)) (same v inside) (λ id known. have v id inside known) (λ id known has. pair v id inside known has) in
      subst (λ (x : HeadAndForest). AllZip R (values_in place number j x) (values_in other also j (get_or (map head_and_forest news) v d))) (sym one)
      (subst (λ (x : HeadAndForest). AllZip R (values_in place number j (head_and_forest (unit_among olds v))) (values_in other also j x)) (sym two) both))
