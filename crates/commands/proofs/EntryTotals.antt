-- The entries and the units of a file, as they are held and as they are meant.
use Rattle.std.proofs.Common.{◌≡◌, ◌<◌, ◌+◌, ◌∙◌, ℕ, suc, List, [], ◌∷◌, length, get_or, map, sym, ap, refl, arith, None}
use Rattle.std.specs.List.{sum_by}
use Rattle.std.proofs.lemmas.List.{length-map}
use Rattle.std.proofs.lemmas.List.Sums.{sum_by-cons}
use Rattle.entry_read.specs.Units.{HeadAndForest}
use Rattle.value_links.specs.Debug.{Debug, UnitMeaning, MeanUnits}
use Rattle.value_links.specs.Reading.{UnitRead, Reading, no_unit}
use Rattle.value_links.specs.World.{head_and_forest}
use Rattle.commands.specs.Summary.{entry_count}

-- two lists whose items have the same numbers, one by one, have the same sum
sums_same : {X Y : Type 0} (f : X → ℕ) (g : Y → ℕ) (xs : List X) (ys : List Y) (d : X) (e : Y) → length ys ≡ length xs → ((i : ℕ) → i < length ys → g (get_or ys i e) ≡ f (get_or xs i d)) → sum_by g ys ≡ sum_by f xs
sums_same f g [] [] d e count each = refl
sums_same f g [] (y ∷ ys) d e count each = absurd (omega arith)
sums_same f g (x ∷ xs) [] d e count each = absurd (omega arith)
sums_same f g (x ∷ xs) (y ∷ ys) d e count each =
    let first : g y ≡ f x = each 0 (omega arith) in
    let rest : sum_by g ys ≡ sum_by f xs = sums_same f g xs ys d e (omega arith) (λ i less. each (suc i) (omega arith)) in
    sum_by-cons g y ys ∙ ap (λ n. n + sum_by g ys) first ∙ ap (λ n. f x + n) rest ∙ sym (sum_by-cons f x xs)

sums_mapped : {X Y : Type 0} (h : X → Y) (f : Y → ℕ) (xs : List X) → sum_by f (map h xs) ≡ sum_by (λ x. f (h x)) xs
sums_mapped h f [] = refl
sums_mapped h f (x ∷ xs) = sum_by-cons f (h x) (map h xs) ∙ ap (λ n. f (h x) + n) (sums_mapped h f xs) ∙ sym (sum_by-cons (λ x. f (h x)) x xs)

abbrev held_entries : HeadAndForest → ℕ
held_entries unit = length unit.forest.entries

-- as many entries are held as were read
pub entries_held : (units : List UnitRead) (held : List HeadAndForest) → held ≡ map head_and_forest units → sum_by (λ (unit : HeadAndForest). length unit.forest.entries) held ≡ sum_by (λ (unit : UnitRead). length unit.forest.entries) units
entries_held units held same = ap (sum_by held_entries) same ∙ sums_mapped head_and_forest held_entries units

-- and as many are meant
pub entries_meant : (r : Reading) (debug : Debug) → MeanUnits r debug.units → entry_count debug ≡ sum_by (λ (unit : UnitRead). length unit.forest.entries) r.links.units
entries_meant r debug means =
    let none : UnitMeaning = record { unit_type = 0; signature = 0; type_entry = None; forest = [] } in
    sums_same (λ (unit : UnitRead). length unit.forest.entries) (λ (unit : UnitMeaning). length unit.forest) r.links.units debug.units no_unit none means.count (λ i less.
    simp length-map at (means.each i none less).forest.count)
