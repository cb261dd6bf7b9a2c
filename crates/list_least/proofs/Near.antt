-- The base that is cheapest to set, by what was the cheapest before the items behind an item.
use Rattle.std.proofs.Common.{◌≡◌, ◌≤◌, ◌<◌, ◌+◌, ◌-◌, ◌^◌, ℕ, List, [], ◌∷◌, suc, drop, length, sym, ap, refl, subst, arith, inl, inr}
use Rattle.std.specs.Prelude.{Option, Some, None}
use Rattle.std.proofs.lemmas.Bool.{cases_lt}
use Rattle.leb_codec.specs.LineCosts.{IsLeastCost}
use Rattle.list_model.specs.declared.context.Context.{Context}
use Rattle.list_model.specs.declared.entry.EntryKind.TheVariants.{BaseAddressx, BaseAddress}
use Rattle.list_model.specs.Items.{Bounds}
use Rattle.list_model.specs.Costs.{ItemWithin, BaseWithin}
use Rattle.list_model.specs.Potentials.{potential, AcceptsFirst}
use Rattle.list_least.specs.declared.costs.Costs.{Costs}
use Rattle.list_least.specs.declared.runs.Run.{Run}
use Rattle.list_least.specs.declared.cheapest.Choice.{Choice}
use Rattle.list_least.specs.Tails.{run_at, GoDown, StartAtTop, IsIn, IsSet, IsReady}
use Rattle.list_least.specs.inside.Search.{AreCosts, IsAbove, ItemFirst, AreLeftBehind, IsBaseBetween, IsRunBytes, IsChoiceAt, IsChosen, IsNear, as_before, IsNearTo}
use Rattle.list_least.proofs.Bases.{run_least, from_lowest}
use Rattle.list_least.proofs.Covering.{covered, run_small}
use Rattle.list_least.proofs.Back.{taken_cases, stays, accept_taken, end_least, chosen_step}

-- a base that is set is one
is_within : (addr : List ℕ) (context : Context) (index : Option ℕ) (base set : ℕ) → IsSet addr context index base set → BaseWithin addr context base set
is_within addr context None base set is = (BaseAddress, base, refl, omega (arith, is))
is_within addr context (Some index) base set is = (BaseAddressx, index, is.0, omega (arith, is.1))

pub near_start : (addr : List ℕ) (context : Context) (costs : Costs) (under : ℕ) (runs : List Run) (before : Choice) (from : ℕ) → ((ad : List ℕ) (co : Context) (item : Bounds) → AreCosts ad co item costs → (j base : ℕ) → j < from → base < 2 ^ 64 → IsIn runs j base → IsLeastCost (ItemWithin ad co base item) costs.free) → IsNearTo addr context costs under runs before from (as_before costs before)
near_start addr context costs under runs before from free = record {
  most = omega arith;
  one = inr refl;
  least = λ item items ps are ready behind j base n lt fits inside w.
      let f = (behind j base inside (omega arith)).1.enough in
      let x : costs.free ≤ f.first = (free addr context item are j base lt fits inside).least f.first f.one in
      let y : before.bytes ≤ n + f.rest = ready.least base n f.rest fits w f.others in
      omega (arith, x, y, f.sum);
}

module _ (addr : List ℕ) (context : Context) (costs : Costs) (under : ℕ) (runs : List Run) (before : Choice) (i : ℕ) where
  pub near_free : (lowest : ℕ) (best : Choice) → i < length runs → IsAbove runs (i + 1) lowest → ((ad : List ℕ) (co : Context) (item : Bounds) → AreCosts ad co item costs → (base : ℕ) → lowest ≤ base → base ≤ (run_at runs i).upto → IsLeastCost (ItemWithin ad co base item) costs.free) → IsNearTo addr context costs under runs before i best → IsNearTo addr context costs under runs before (i + 1) best
  near_free lowest best lt above free to = record {
    most = to.most;
    one = to.one;
    least = λ item items ps are ready behind j base n less fits inside w. elim (cases_lt j i) [
      | inl l ↦ to.least item items ps are ready behind j base n l fits inside w
      | inr ge ↦
          let e : j ≡ i = omega (arith, less, ge) in
          let here : IsIn runs i base = subst (λ (k : ℕ). IsIn runs k base) e inside in
          let f = (behind i base here (omega arith)).1.enough in
          let cost = free addr context item are base (from_lowest runs i lowest base above here) here.upto in
          let x : costs.free ≤ f.first = cost.least f.first f.one in
          let y : before.bytes ≤ n + f.rest = ready.least base n f.rest fits w f.others in
          let z : best.bytes ≤ n + (under - (run_at runs i).gain) = omega (arith, x, y, f.sum, to.most) in
          subst (λ (k : ℕ). best.bytes ≤ n + (under - (run_at runs k).gain)) (sym e) z
    ];
  }

  pub near_far : (best : Choice) → ((ad : List ℕ) (co : Context) (item : Bounds) → AreCosts ad co item costs → (j base : ℕ) → i ≤ j → IsIn runs j base → IsLeastCost (ItemWithin ad co base item) costs.free) → IsNearTo addr context costs under runs before i best → IsNearTo addr context costs under runs before (length runs) best
  near_far best free to = record {
    most = to.most;
    one = to.one;
    least = λ item items ps are ready behind j base n less fits inside w. elim (cases_lt j i) [
      | inl l ↦ to.least item items ps are ready behind j base n l fits inside w
      | inr ge ↦
          let f = (behind j base inside (omega arith)).1.enough in
          let x : costs.free ≤ f.first = (free addr context item are j base ge inside).least f.first f.one in
          let y : before.bytes ≤ n + f.rest = ready.least base n f.rest fits w f.others in
          omega (arith, x, y, f.sum, to.most)
    ];
  }

  with_run : (bytes choice : ℕ) (least : (item : Bounds) (items : List Bounds) (ps : List ℕ) → AreCosts addr context item costs → IsReady addr context items ps before → AreLeftBehind addr context item items ps under runs 0 → (j base n : ℕ) → j < i → base < 2 ^ 64 → IsIn runs j base → BaseWithin addr context base n → bytes ≤ n + (under - (run_at runs j).gain)) → IsRunBytes addr context under runs i choice → bytes ≤ choice →
      (item : Bounds) (items : List Bounds) (ps : List ℕ) → AreCosts addr context item costs → IsReady addr context items ps before → AreLeftBehind addr context item items ps under runs 0 → (j base n : ℕ) → j < i + 1 → base < 2 ^ 64 → IsIn runs j base → BaseWithin addr context base n → bytes ≤ n + (under - (run_at runs j).gain)
  with_run bytes choice least run le item items ps are ready behind j base n less fits inside w =
      elim (cases_lt j i) [
        | inl l ↦ least item items ps are ready behind j base n l fits inside w
        | inr ge ↦
            let e : j ≡ i = omega (arith, less, ge) in
            let x : choice ≤ n + (under - (run_at runs j).gain) = run_least addr context under runs j choice base n (subst (λ (k : ℕ). IsRunBytes addr context under runs k choice) (sym e) run) inside w in
            omega (arith, x, le)
      ]

  pub near_better : (best choice : Choice) → IsRunBytes addr context under runs i choice.bytes → IsChoiceAt addr context under runs choice → choice.bytes ≤ best.bytes → IsNearTo addr context costs under runs before i best → IsNearTo addr context costs under runs before (i + 1) choice
  near_better best choice run at le to = record {
    most = omega (arith, le, to.most);
    one = inl at;
    least = with_run choice.bytes choice.bytes (λ item items ps are ready behind j base n less fits inside w. omega (arith, le, to.least item items ps are ready behind j base n less fits inside w)) run (omega arith);
  }

  pub near_worse : (best : Choice) (bytes : ℕ) → IsRunBytes addr context under runs i bytes → best.bytes ≤ bytes → IsNearTo addr context costs under runs before i best → IsNearTo addr context costs under runs before (i + 1) best
  near_worse best bytes run le to = record { most = to.most; one = to.one; least = with_run best.bytes bytes to.least run le }

-- the base from before is still the best
still_best : (addr : List ℕ) (context : Context) (costs : Costs) (under : ℕ) (runs : List Run) (before best : Choice) (item : Bounds) (items : List Bounds) (ps : List ℕ) → StartAtTop runs → best ≡ as_before costs before → AreCosts addr context item costs → IsReady addr context items ps before → AreLeftBehind addr context item items ps under runs 0 →
    ((base n m : ℕ) → base < 2 ^ 64 → BaseWithin addr context base n → ItemFirst addr context base item items ps m → best.bytes ≤ n + m) → IsChosen addr context item items ps best × (best.base < 2 ^ 64)
still_best addr context costs under runs before best item items ps top e are ready behind least =
    let c = covered runs before.base top ready.fits in
    let b : IsLeastCost (ItemFirst addr context before.base item items ps) (under - (run_at runs c.0).gain) = (behind c.0 before.base c.1 (omega arith)).1 in
    let v : ℕ = (under - (run_at runs c.0).gain) in
    let sum : best.bytes ≡ before.bytes + costs.free = ap (λ (z : Choice). z.bytes) e in
    let most : v ≤ ready.left + costs.free = b.least (ready.left + costs.free) (record { first = costs.free; rest = ready.left; one = are.free.enough before.base; others = ready.behind.enough; sum = omega arith }) in
    let low : best.bytes ≤ ready.set + v = least before.base ready.set v ready.fits (is_within addr context before.index before.base ready.set ready.is) b.enough in
    let done : IsChosen addr context item items ps (as_before costs before) × (before.base < 2 ^ 64) = (record { set = ready.set; left = v; is = ready.is; behind = b; sum = omega (arith, ready.sum, sum, most, low) }, ready.fits) in
    subst (λ (z : Choice). IsChosen addr context item items ps z × (z.base < 2 ^ 64)) (sym e) done

pub near_end : (addr : List ℕ) (context : Context) (costs : Costs) (under : ℕ) (runs : List Run) (before : Choice) (i : ℕ) (best : Choice) → i ≡ length runs → StartAtTop runs → GoDown runs → IsNearTo addr context costs under runs before i best → (item : Bounds) (items : List Bounds) (ps : List ℕ) → AreCosts addr context item costs → IsReady addr context items ps before → AreLeftBehind addr context item items ps under runs 0 → IsNear addr context item items ps best
near_end addr context costs under runs before i best e top down to item items ps are ready behind =
    let least : (base n m : ℕ) → base < 2 ^ 64 → BaseWithin addr context base n → ItemFirst addr context base item items ps m → best.bytes ≤ n + m
    = λ base n m fits w f.
    let c = covered runs base top fits in
    let x : best.bytes ≤ n + (under - (run_at runs c.0).gain) = to.least item items ps are ready behind c.0 base n (omega (arith, e, c.1.inside)) fits c.1 w in
    omega (arith, x, (behind c.0 base c.1 (omega arith)).1.least m f)
    in
    elim to.one [
      | inl at ↦ record { chosen = chosen_step addr context item items ps under runs best behind at; fits = omega (arith, at.in_run.upto, run_small runs top down at.i at.in_run.inside); least = least }
      | inr same ↦ let s = still_best addr context costs under runs before best item items ps top same are ready behind least in record { chosen = s.0; fits = s.1; least = least }
    ]

pub ready_start : (addr : List ℕ) (context : Context) (set : Choice) (to : ℕ) → IsBaseBetween addr context 0 to set.bytes → IsSet addr context set.index set.base set.bytes → set.base ≤ to → to ≡ 18446744073709551615 → IsReady addr context [] [] (record { bytes = set.bytes + 1; base = set.base; index = set.index })
ready_start addr context set to between is below e = record {
  set = set.bytes;
  left = 1;
  is = is;
  fits = omega (arith, below, e);
  behind = record {
    enough = record { taken = 0; bytes = 0; within = omega arith; enough = tt; sum = omega arith };
    least = λ n on. end_least addr context set.base n on.taken on.bytes on.within on.sum;
  };
  sum = refl;
  least = λ base n m fits w on. omega (arith, between.least base n (omega arith) (omega (arith, fits, e)) w, end_least addr context base m on.taken on.bytes on.within on.sum);
}

-- ---- the base that is best before an item with a potential

module _ (addr : List ℕ) (context : Context) (item : Bounds) (items : List Bounds) (ps : List ℕ) (choice : Choice) (near : IsNear addr context item items ps choice) where
  -- it is the one with which the base stays for the item, where none can be set for the potential in fewer bytes
  kept_best : (p : ℕ) → ((base n : ℕ) → base < 2 ^ 64 → BaseWithin addr context base n → choice.bytes ≤ n + p) → IsReady addr context (item ∷ items) (p ∷ ps) choice
  kept_best p low =
      let chosen = near.chosen in
      record {
        set = chosen.set;
        left = chosen.left;
        is = chosen.is;
        fits = near.fits;
        behind = record {
          enough = stays addr context choice.base item items p ps chosen.left chosen.left (omega arith) chosen.behind.enough;
          least = λ n on. elim (taken_cases addr context choice.base item items p ps on.taken on.bytes n on.within on.enough on.sum) [
            | inl le ↦ omega (arith, le, chosen.sum, low choice.base chosen.set near.fits (is_within addr context choice.index choice.base chosen.set chosen.is))
            | inr f ↦ chosen.behind.least n f
          ];
        };
        sum = chosen.sum;
        least = λ base n m fits w on. elim (taken_cases addr context base item items p ps on.taken on.bytes m on.within on.enough on.sum) [
          | inl le ↦ omega (arith, le, low base n fits w)
          | inr f ↦ near.least base n m fits w f
        ];
      }

  pub kept_under : (p : ℕ) → choice.bytes ≤ p → IsReady addr context (item ∷ items) (p ∷ ps) choice
  kept_under p le = kept_best p (λ base n fits w. omega (arith, le))

  module _ (set : Choice) (to p : ℕ) (between : IsBaseBetween addr context 0 to set.bytes) (e : to ≡ 18446744073709551615) where
    pub kept_over : choice.bytes ≤ set.bytes + p → IsReady addr context (item ∷ items) (p ∷ ps) choice
    kept_over le = kept_best p (λ base n fits w. omega (arith, le, between.least base n (omega arith) (omega (arith, fits, e)) w))

    -- it is the cheapest of all, and the base doesn't stay for the item
    pub set_anew : IsSet addr context set.index set.base set.bytes → set.base ≤ to → set.bytes + p < choice.bytes → IsReady addr context (item ∷ items) (p ∷ ps) (record { bytes = set.bytes + p; base = set.base; index = set.index })
    set_anew is below less =
        let within : set.base < 2 ^ 64 = omega (arith, below, e) in
        record {
          set = set.bytes;
          left = p;
          is = is;
          fits = within;
          behind = record {
            enough = record { taken = 0; bytes = 0; within = omega arith; enough = tt; sum = omega arith };
            least = λ n on. elim (taken_cases addr context set.base item items p ps on.taken on.bytes n on.within on.enough on.sum) [
              | inl le ↦ le
              | inr f ↦ omega (arith, less, near.least set.base set.bytes n within (is_within addr context set.index set.base set.bytes is) f)
            ];
          };
          sum = refl;
          least = λ base n m fits w on. elim (taken_cases addr context base item items p ps on.taken on.bytes m on.within on.enough on.sum) [
            | inl le ↦ omega (arith, le, between.least base n (omega arith) (omega (arith, fits, e)) w)
            | inr f ↦ omega (arith, less, near.least base n m fits w f)
          ];
        }

  -- a potential is accepted where it is no greater than this
  pub accepted_up_to : (p : ℕ) → p ≤ choice.bytes → AcceptsFirst addr context (item ∷ items) (p ∷ ps)
  accepted_up_to p le base set taken bytes fits sets some within enough =
      accept_taken addr context item items p ps base set taken bytes (λ n f. omega (arith, le, near.least base set n fits sets f)) some within enough

  pub no_more_accepted : (p : ℕ) → AcceptsFirst addr context (item ∷ items) (p ∷ ps) → p ≤ choice.bytes
  no_more_accepted p accepts =
      let chosen = near.chosen in
      let f = chosen.behind.enough in
      let on = f.others in
      let x : p ≤ chosen.set + (f.first + on.bytes) + potential (drop on.taken ps) = accepts choice.base chosen.set (suc on.taken) (f.first + on.bytes) near.fits (is_within addr context choice.index choice.base chosen.set chosen.is) (omega arith) (omega (arith, on.within)) (f.first, on.bytes, f.one, on.enough, omega arith) in
      omega (arith, x, on.sum, f.sum, chosen.sum)
