-- Runs of view pairs, by their numbers and their sizes.
use Rattle.std.proofs.Common.{◌≡◌, ◌≤◌, ◌<◌, ◌+◌, ◌-◌, ◌∙◌, ℕ, suc, List, [], ◌∷◌, length, get_or, map, take, sym, ap, refl, subst, arith, inl, inr}
use Rattle.std.specs.List.{sum_by}
use Rattle.std.proofs.lemmas.Bool.{cases_lt}
use Rattle.std.proofs.lemmas.List.{get_or-map, get_or_append_left, get_or-append_right, length-append, length-map, take-take, take_all}
use Rattle.std.proofs.lemmas.List.Concat.{length-flat_map}
use Rattle.std.proofs.lemmas.List.Sums.{sum_by-cons, sum_by_more, sum_by-take-le, sum_by_more_le}
use Rattle.spelled.specs.Spelled.{Joined}
use Rattle.loc_lists.specs.declared.views.ViewPair.{ViewPair}
use Rattle.loc_lists.specs.Views.{ShortestPair}
use Rattle.list_write.specs.declared.named.NamedList.{NamedList}
use Rattle.list_write.specs.declared.named.ViewRun.{ViewRun}
use Rattle.list_write.specs.Written.{Run, ToWrite, run_of, to_write, list_at, pair_size, run_size, all_runs, runs_before, run_at}
use Rattle.list_write.specs.inside.Places.{run_sizes}

-- what stands for those past the end
abbrev pub no_list : ToWrite
no_list = record { part = 0; at = 0; picks = []; size = 0; expressions = []; views = [] }

abbrev pub no_run : Run
no_run = record { at = 0; pairs = [] }

-- what is to be written of a list by its number
pub to_write_at : (lists : List NamedList) (k : ℕ) (list : NamedList) → k < length lists → list ≡ get_or lists k list → list_at (map to_write lists) k ≡ to_write list
to_write_at lists k list inside is = get_or-map to_write lists k list no_list inside ∙ ap to_write (sym is)

-- what is to be written of a run by its number, as it is held
pub run_held : (items there : List ViewRun) (i : ℕ) (run : ViewRun) → there ≡ items → i < length there → run ≡ get_or there i run → (i < length (map run_of items)) × (run_at (map run_of items) i ≡ run_of run)
run_held items there i run same inside is =
    let within : i < length items = subst (λ (z : List ViewRun). i < length z) same inside in
    let here : run ≡ get_or items i run = subst (λ (z : List ViewRun). run ≡ get_or z i run) same is in
    (subst (λ (z : ℕ). i < z) (sym (length-map items run_of)) within, get_or-map run_of items i run no_run within ∙ ap run_of (sym here))

-- sums of fronts rise
pub sums_rise : {X : Type 0} (f : X → ℕ) (xs : List X) (j k : ℕ) → j ≤ k → sum_by f (take j xs) ≤ sum_by f (take k xs)
sums_rise f xs j k less = subst (λ z. sum_by f z ≤ sum_by f (take k xs)) (take-take j k xs less) (sum_by-take-le f (take k xs) j)

-- ---- sizes

-- the bytes of one more run
pub run_more : (runs : List Run) (i : ℕ) → i < length runs → run_sizes runs (i + 1) ≡ run_sizes runs i + run_size (run_at runs i)
run_more runs i inside = sum_by_more run_size runs i no_run inside

-- they are no more than those of all runs
pub run_within : (runs : List Run) (i : ℕ) → i < length runs → run_sizes runs i + run_size (run_at runs i) ≤ sum_by run_size runs
run_within runs i inside = sum_by_more_le run_size runs i no_run inside

-- the shortest bytes of pairs are so many
pub pairs_size : (pairs : List ViewPair) (bytes : List ℕ) → Joined ShortestPair pairs bytes → length bytes ≡ sum_by pair_size pairs
pairs_size [] bytes e = ap length e
pairs_size (pair ∷ pairs) bytes (first, rest, s, more, e) =
    let size : length bytes ≡ length first + length rest = ap length e ∙ length-append first rest in
    let own : length first ≡ pair_size pair = s.1 in
    let sum = sum_by-cons pair_size pair pairs in
    omega (arith, size, own, sum, pairs_size pairs rest more)

-- ---- numbers

abbrev count_of : ToWrite → ℕ
count_of list = length list.views

pub runs_more : (lists : List ToWrite) (k : ℕ) → k < length lists → runs_before lists (k + 1) ≡ runs_before lists k + length (list_at lists k).views
runs_more lists k inside = sum_by_more count_of lists k no_list inside

pub runs_rise : (lists : List ToWrite) (j k : ℕ) → j ≤ k → runs_before lists j ≤ runs_before lists k
runs_rise = sums_rise count_of

-- a run of a list comes before those of later lists
pub run_below : (lists : List ToWrite) (k i last : ℕ) → k < last → last ≤ length lists → i < length (list_at lists k).views → runs_before lists k + i < runs_before lists last
run_below lists k i last less within inside =
    let more = runs_more lists k (omega (arith, less, within)) in
    let rise = runs_rise lists (k + 1) last (omega (arith, less)) in
    omega (arith, more, rise, inside)

pub runs_all : (lists : List ToWrite) → runs_before lists (length lists) ≡ length (all_runs lists)
runs_all lists = ap (sum_by count_of) (take_all (length lists) lists (omega arith)) ∙ sym (length-flat_map (λ (list : ToWrite). list.views) lists)

-- each of all runs is one of a list
pub run_among : (lists : List ToWrite) (n : ℕ) → n < length (all_runs lists) → (k : ℕ) × (i : ℕ) × (k < length lists) × (i < length (list_at lists k).views) × (n ≡ runs_before lists k + i) × (run_at (all_runs lists) n ≡ run_at (list_at lists k).views i)
run_among [] n inside = absurd (omega (arith, inside))
run_among (list ∷ lists) n inside =
    let size = length-append list.views (all_runs lists) in
    elim (cases_lt n (length list.views)) [
      | inl l ↦ (0, n, omega arith, l, omega arith, get_or_append_left list.views (all_runs lists) no_run n l)
      | inr m ↦
          let there = run_among lists (n - length list.views) (omega (arith, m, inside, size)) in
          let sum = sum_by-cons count_of list (take there.0 lists) in
          (suc there.0, there.1, omega (arith, there.2), there.3, omega (arith, m, there.4, sum), get_or-append_right list.views (all_runs lists) (length list.views) n no_run refl m ∙ there.5)
    ]
