-- The values of an entry, one by one, and those that are written anew for them.
use Rattle.std.proofs.Common.{◌≡◌, ◌<◌, ◌+◌, ◌-◌, ◌∙◌, ◌++◌, ℕ, zero, suc, List, [], ◌∷◌, length, get_or, take, drop, sym, ap, min, subst, refl, arith}
use Rattle.std.specs.List.{AllZip}
use Rattle.std.proofs.lemmas.List.{append_assoc, get_or-take, get_or-drop, length-take, length-drop}
use Rattle.form_codec.specs.declared.value.Value.{Value}
use Rattle.form_codec.specs.declared.value.Value.TheVariants as value
use Rattle.form_codec.specs.Forms.{Meaning}
use Rattle.form_codec.specs.Values.{meant_in}
use Rattle.abbrev_tables.specs.declared.decl.Spec.{Spec}
use Rattle.entry_arena.specs.Arena.{value_at}
use Rattle.entry_arena.specs.Forests.{attributes_of}
use Rattle.entry_arena.specs.Trees.{ValuesBetween}
use Rattle.entry_read.proofs.Parts.{values_push}

-- an item of a part of a list, among all items
pub part_at : {X : Type 0} (xs : List X) (first count k : ℕ) (d : X) → k < length (take count (drop first xs)) → (get_or (take count (drop first xs)) k d ≡ get_or xs (first + k) d) × (k < count) × (first + k < length xs)
part_at xs first count k d inside =
    let size : length (take count (drop first xs)) ≡ min count (length (drop first xs)) = length-take count (drop first xs) in
    let left : length (drop first xs) ≡ length xs - first = length-drop first xs in
    let below : k < count = omega (arith, size) in
    (get_or-take count (drop first xs) k d below ∙ get_or-drop first xs k d, below, omega (arith, size, left))

-- one of the values of an entry among all values
pub value_here : (values : List Value) (first count k : ℕ) → k < length (take count (drop first values)) → (value_at (take count (drop first values)) k ≡ value_at values (first + k)) × (first + k < length values)
value_here values first count k inside = let p = part_at values first count k (value.Addr 0) inside in (p.0, p.2)

-- as many items of a part, where there are as many in all
pub as_many : {X : Type 0} (old new : List X) (first count : ℕ) → length new ≡ length old → length (take count (drop first new)) ≡ length (take count (drop first old))
as_many old new first count same =
    let a : length (take count (drop first new)) ≡ min count (length (drop first new)) = length-take count (drop first new) in
    let b : length (take count (drop first old)) ≡ min count (length (drop first old)) = length-take count (drop first old) in
    let c : length (drop first new) ≡ length new - first = length-drop first new in
    let d : length (drop first old) ≡ length old - first = length-drop first old in
    a ∙ ap (λ z. min count z) (c ∙ ap (λ (z : ℕ). z - first) same ∙ sym d) ∙ sym b

-- The value with a number among those of columns, what stands before it, and where it begins.
pub record SplitAt (section : List ℕ) (cs : List Spec) (vs : List Value) (from k : ℕ) : Type 0 where
  pub earlier_columns : List Spec
  pub column : Spec
  pub later_columns : List Spec
  pub columns : cs ≡ earlier_columns ++ column ∷ later_columns
  pub earlier : List Value
  pub value : Value
  pub later : List Value
  pub values : vs ≡ earlier ++ value ∷ later
  pub count : length earlier ≡ k
  pub place : ℕ
  pub valued : ValuesBetween section earlier_columns earlier from place

pub split_at : (section : List ℕ) (cs : List Spec) (vs : List Value) (from to k : ℕ) → ValuesBetween section cs vs from to → k < length vs → SplitAt section cs vs from k
split_at section [] [] from to k valued inside = absurd (omega arith)
split_at section [] (v ∷ vs) from to k valued inside = absurd valued
split_at section (c ∷ cs) [] from to k valued inside = absurd valued
split_at section (c ∷ cs) (v ∷ vs) from to zero valued inside = record { earlier_columns = []; column = c; later_columns = cs; columns = refl; earlier = []; value = v; later = vs; values = refl; count = refl; place = from; valued = refl }
split_at section (c ∷ cs) (v ∷ vs) from to (suc k) (next, spelled, placed, valued) inside =
    let rest = split_at section cs vs next to k valued (omega arith) in
    record {
      earlier_columns = c ∷ rest.earlier_columns;
      column = rest.column;
      later_columns = rest.later_columns;
      columns = ap (λ z. c ∷ z) rest.columns;
      earlier = v ∷ rest.earlier;
      value = rest.value;
      later = rest.later;
      values = ap (λ z. v ∷ z) rest.values;
      count = ap suc rest.count;
      place = rest.place;
      valued = (next, spelled, placed, rest.valued);
    }

-- The attributes of an entry, one by one, where each value that stands among columns is in a relation to what it means now:
-- `moved` tells that by the value's number among those of the entry.
module _ (Moves : ℕ × Meaning → ℕ × Meaning → Type 0) (old new : List ℕ) (columns : List Spec) (values : List Value) (values_at : ℕ) (moved : ℕ → Meaning) (each : (before : List Spec) (c : Spec) (after : List Spec) (evs : List Value) (v : Value) (more : List Value) (place : ℕ) → columns ≡ before ++ c ∷ after → values ≡ evs ++ v ∷ more → ValuesBetween old before evs values_at place → Moves (c.name, meant_in old v) (c.name, moved (length evs))) where
  pub attributes_move : (earlier cs : List Spec) (evs vs ws : List Value) (n from to : ℕ) → columns ≡ earlier ++ cs → values ≡ evs ++ vs → length evs ≡ n → ValuesBetween old earlier evs values_at from → ValuesBetween old cs vs from to → length ws ≡ length vs → ((k : ℕ) → k < length vs → meant_in new (value_at ws k) ≡ moved (n + k)) → AllZip Moves (attributes_of old cs vs) (attributes_of new cs ws)
  attributes_move earlier [] evs [] [] n from to is_columns is_values count prior valued size means = tt
  attributes_move earlier [] evs [] (w ∷ ws) n from to is_columns is_values count prior valued size means = absurd (omega arith)
  attributes_move earlier [] evs (v ∷ vs) ws n from to is_columns is_values count prior valued size means = absurd valued
  attributes_move earlier (c ∷ cs) evs [] ws n from to is_columns is_values count prior valued size means = absurd valued
  attributes_move earlier (c ∷ cs) evs (v ∷ vs) [] n from to is_columns is_values count prior valued size means = absurd (omega arith)
  attributes_move earlier (c ∷ cs) evs (v ∷ vs) (w ∷ ws) n from to is_columns is_values count prior (next, spelled, placed, valued) size means =
      let moves : Moves (c.name, meant_in old v) (c.name, moved (length evs)) = each earlier c cs evs v vs from is_columns is_values prior in
      let here : moved (length evs) ≡ meant_in new w = ap moved (omega (arith, count)) ∙ sym (means 0 (omega arith)) in
      let first : Moves (c.name, meant_in old v) (c.name, meant_in new w) = subst (λ (z : Meaning). Moves (c.name, meant_in old v) (c.name, z)) here moves in
      let later : (k : ℕ) → k < length vs → meant_in new (value_at ws k) ≡ moved (suc n + k) = λ k inside. means (suc k) (omega arith) ∙ ap moved (omega arith) in
      let longer : length (evs ++ v ∷ []) ≡ suc n = length_push evs v ∙ ap suc count in
      (first, attributes_move (earlier ++ c ∷ []) cs (evs ++ v ∷ []) vs ws (suc n) next to (is_columns ∙ sym (append_assoc earlier (c ∷ []) cs)) (is_values ∙ sym (append_assoc evs (v ∷ []) vs)) longer (values_push old earlier evs c v values_at from next prior spelled placed) valued (omega arith) later)
    where
      length_push : (xs : List Value) (x : Value) → length (xs ++ x ∷ []) ≡ suc (length xs)
      length_push [] x = refl
      length_push (y ∷ xs) x = ap suc (length_push xs x)
