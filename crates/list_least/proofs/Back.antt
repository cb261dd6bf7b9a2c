-- Potentials, from the last one to the first.
use Rattle.std.proofs.Common.{◌≡◌, ◌≤◌, ◌<◌, ◌+◌, ◌-◌, ◌∙◌, ◌⊎◌, ℕ, zero, suc, List, [], ◌∷◌, length, take, drop, get_or, sym, ap, subst, arith, inl, inr}
use Rattle.std.specs.Prelude.{min, map}
use Rattle.std.proofs.lemmas.Bool.{cases_lt}
use Rattle.std.proofs.lemmas.List.{drop_more}
use Rattle.leb_codec.specs.LineCosts.{IsLeastCost}
use Rattle.list_model.specs.declared.context.Context.{Context}
use Rattle.list_model.specs.declared.item.Item.{Item}
use Rattle.list_model.specs.Items.{Bounds}
use Rattle.list_model.specs.Costs.{ItemsWithin}
use Rattle.list_model.specs.Potentials.{potential, OnFrom}
use Rattle.list_least.specs.declared.runs.Run.{Run}
use Rattle.list_least.specs.declared.cheapest.Choice.{Choice}
use Rattle.list_least.specs.Plans.{bounds_of}
use Rattle.list_least.specs.Tails.{run_at, AreLeft}
use Rattle.list_least.specs.inside.Search.{ItemFirst, AreLeftBehind, IsLowered, IsChoiceAt, IsChosen}

-- ---- an item before items

pub taken_cases : (addr : List ℕ) (context : Context) (base : ℕ) (item : Bounds) (items : List Bounds) (q : ℕ) (ps : List ℕ) (taken bytes n : ℕ) → taken ≤ suc (length items) → ItemsWithin addr context base (take taken (item ∷ items)) bytes → bytes + potential (drop taken (q ∷ ps)) ≤ n → (q ≤ n) ⊎ ItemFirst addr context base item items ps n
taken_cases addr context base item items q ps zero bytes n within enough sum = inl (omega (arith, sum))
taken_cases addr context base item items q ps (suc t) bytes n within (k, l, one, more, le) sum = inr (record {
  first = k;
  rest = l + potential (drop t ps);
  one = one;
  others = record { taken = t; bytes = l; within = omega (arith, within); enough = more; sum = omega arith };
  sum = omega (arith, le, sum);
})

pub stays : (addr : List ℕ) (context : Context) (base : ℕ) (item : Bounds) (items : List Bounds) (q : ℕ) (ps : List ℕ) (m n : ℕ) → m ≤ n → ItemFirst addr context base item items ps m → OnFrom addr context base (item ∷ items) (q ∷ ps) n
stays addr context base item items q ps m n le f =
    let on = f.others in
    record { taken = suc on.taken; bytes = f.first + on.bytes; within = omega (arith, on.within); enough = (f.first, on.bytes, f.one, on.enough, omega arith); sum = omega (arith, on.sum, f.sum, le) }

pub left_step : (addr : List ℕ) (context : Context) (item : Bounds) (items : List Bounds) (q : ℕ) (ps : List ℕ) (under by next : ℕ) (runs new : List Run) → by ≡ under - q → next ≡ under - by → IsLowered by runs new → AreLeftBehind addr context item items ps under runs 0 → AreLeft addr context (item ∷ items) (q ∷ ps) next new
left_step addr context item items q ps under by next runs new e f low behind i base inside =
    let old = low.each i base inside in
    let b = behind old.0 base old.1 (omega arith) in
    let left : ℕ = under - (run_at runs old.0).gain in
    let fits : (run_at new i).gain ≤ next = omega (arith, e, f, old.2, b.0) in
    let same : min left q ≡ next - (run_at new i).gain = omega (arith, e, f, old.2, b.0) in (
      fits,
      subst (IsLeastCost (OnFrom addr context base (item ∷ items) (q ∷ ps))) same (record {
        enough = elim (cases_lt left q) [
          | inl lt ↦ stays addr context base item items q ps left (min left q) (omega (arith, lt)) b.1.enough
          | inr ge ↦ record { taken = 0; bytes = 0; within = omega arith; enough = tt; sum = omega (arith, ge) }
        ];
        least = λ n on. elim (taken_cases addr context base item items q ps on.taken on.bytes n on.within on.enough on.sum) [
          | inl le ↦ omega (arith, le)
          | inr g ↦ omega (arith, b.1.least n g)
        ];
      }),
    )

-- what n bytes for the first item and those behind it say of the accepted potentials
pub accept_taken : (addr : List ℕ) (context : Context) (item : Bounds) (items : List Bounds) (q : ℕ) (ps : List ℕ) (base set taken bytes : ℕ) → ((n : ℕ) → ItemFirst addr context base item items ps n → q ≤ set + n) → 0 < taken → taken ≤ suc (length items) → ItemsWithin addr context base (take taken (item ∷ items)) bytes → q ≤ set + bytes + potential (drop taken (q ∷ ps))
accept_taken addr context item items q ps base set zero bytes most some within enough = absurd (omega (arith, some))
accept_taken addr context item items q ps base set (suc t) bytes most some within (k, l, one, more, le) =
    let x : q ≤ set + (bytes + potential (drop t ps)) = most (bytes + potential (drop t ps)) (record {
      first = k;
      rest = l + potential (drop t ps);
      one = one;
      others = record { taken = t; bytes = l; within = omega (arith, within); enough = more; sum = omega arith };
      sum = omega (arith, le);
    }) in
    omega (arith, x)

-- ---- the end of a list

pub end_least : (addr : List ℕ) (context : Context) (base n taken bytes : ℕ) → taken ≤ 0 → bytes + potential (drop taken []) ≤ n → 1 ≤ n
end_least addr context base n zero bytes within sum = omega (arith, sum)
end_least addr context base n (suc taken) bytes within sum = absurd (omega (arith, within))

-- the items of a list, as they are read
pub one_before_count : (items : List Item) (i count : ℕ) (d : Item) → count ≡ i + 1 → i < length items → map bounds_of (drop i items) ≡ bounds_of (get_or items i d) ∷ map bounds_of (drop count items)
one_before_count items i count d e lt = ap (map bounds_of) (drop_more items i d lt) ∙ ap (λ z. bounds_of (get_or items i d) ∷ map bounds_of (drop z items)) (sym e)

-- ---- the bases that are set

pub chosen_step : (addr : List ℕ) (context : Context) (item : Bounds) (items : List Bounds) (ps : List ℕ) (under : ℕ) (runs : List Run) (choice : Choice) → AreLeftBehind addr context item items ps under runs 0 → IsChoiceAt addr context under runs choice → IsChosen addr context item items ps choice
chosen_step addr context item items ps under runs choice behind at = record { set = at.set; left = under - (run_at runs at.i).gain; is = at.is; behind = (behind at.i choice.base at.in_run (omega arith)).1; sum = at.sum }
