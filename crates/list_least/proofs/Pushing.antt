-- Runs that are appended.
use Rattle.std.proofs.Common.{◌≡◌, ◌≤◌, ◌<◌, ◌+◌, ◌-◌, ◌∙◌, ◌⊎◌, ℕ, List, [], ◌∷◌, ◌++◌, length, sym, ap, refl, subst, arith, inl, inr}
use Rattle.std.proofs.lemmas.Bool.{cases_lt}
use Rattle.std.proofs.lemmas.List.{get_or_append_left, length-append}
use Rattle.std.proofs.Math.Seq.{get_or-append_seam}
use Rattle.leb_codec.specs.LineCosts.{IsLeastCost}
use Rattle.list_model.specs.declared.context.Context.{Context}
use Rattle.list_model.specs.Items.{Bounds}
use Rattle.list_model.specs.Costs.{ItemWithin}
use Rattle.list_model.specs.Potentials.{OnFrom}
use Rattle.list_least.specs.declared.costs.Costs.{Costs}
use Rattle.list_least.specs.declared.runs.Run.{Run}
use Rattle.list_least.specs.Tails.{run_at, GoDown, IsIn, IsLess}
use Rattle.list_least.specs.inside.Search.{AreCosts, IsPiece, BeginFrom, ItemFirst, AreLeftBehind, IsPushed, AddsDown}

-- an item and what is left behind it, both least
pub item_first_least : (addr : List ℕ) (context : Context) (base : ℕ) (item : Bounds) (items : List Bounds) (ps : List ℕ) (k l : ℕ) → IsLeastCost (ItemWithin addr context base item) k → IsLeastCost (OnFrom addr context base items ps) l → IsLeastCost (ItemFirst addr context base item items ps) (l + k)
item_first_least addr context base item items ps k l one rest = record {
  enough = record { first = k; rest = l; one = one.enough; others = rest.enough; sum = omega arith };
  least = λ n f. omega (arith, one.least f.first f.one, rest.least f.rest f.others, f.sum);
}

-- where one more run stands
last_run : (old new : List Run) (run : Run) → new ≡ old ++ run ∷ [] → run_at new (length old) ≡ run
last_run old new run e = ap (λ z. run_at z (length old)) e ∙ get_or-append_seam old run [] (record { upto = 0; gain = 0 })

front_run : (old new : List Run) (run : Run) (i : ℕ) → new ≡ old ++ run ∷ [] → i < length old → run_at new i ≡ run_at old i
front_run old new run i e lt = ap (λ z. run_at z i) e ∙ get_or_append_left old (run ∷ []) (record { upto = 0; gain = 0 }) i lt

one_more : (old new : List Run) (run : Run) → new ≡ old ++ run ∷ [] → length new ≡ length old + 1
one_more old new run e = ap length e ∙ length-append old (run ∷ [])

-- whatever holds of the bases of runs holds after one more
pub keeps : (F : ℕ → ℕ → Type 0) (old new : List Run) (run : Run) (top bottom : ℕ) → run.upto ≡ top → BeginFrom old (top + 1) → IsPushed old run new → ((i base : ℕ) → IsIn old i base → top + 1 ≤ base → F base (run_at old i).gain) → ((base : ℕ) → bottom ≤ base → base ≤ top → F base run.gain) → (i base : ℕ) → IsIn new i base → bottom ≤ base → F base (run_at new i).gain
keeps F old new run top bottom is above (inl e) f g i base in2 from =
    elim (cases_lt i (length old)) [
      | inl lt ↦
          let same : run_at new i ≡ run_at old i = front_run old new run i e lt in
          let upto : base ≤ (run_at old i).upto = subst (λ (z : Run). base ≤ z.upto) same in2.upto in
          elim (cases_lt (i + 1) (length old)) [
            | inl more ↦
                let next : run_at new (i + 1) ≡ run_at old (i + 1) = front_run old new run (i + 1) e more in
                let beyond : (run_at old (i + 1)).upto < base = subst (λ (z : Run). z.upto < base) next (in2.beyond (omega (arith, more, one_more old new run e))) in
                subst (λ (z : Run). F base z.gain) (sym same) (f i base (record { inside = lt; upto = upto; beyond = λ l. beyond }) (omega (arith, above (i + 1) more, beyond)))
            | inr last ↦
                let k : i + 1 ≡ length old = omega (arith, lt, last) in
                let next : run_at new (i + 1) ≡ run = ap (run_at new) k ∙ last_run old new run e in
                let beyond : run.upto < base = subst (λ (z : Run). z.upto < base) next (in2.beyond (omega (arith, k, one_more old new run e))) in
                subst (λ (z : Run). F base z.gain) (sym same) (f i base (record { inside = lt; upto = upto; beyond = λ l. absurd (omega (arith, l, k)) }) (omega (arith, is, beyond)))
          ]
      | inr ge ↦
          let k : i ≡ length old = omega (arith, ge, in2.inside, one_more old new run e) in
          let same : run_at new i ≡ run = ap (run_at new) k ∙ last_run old new run e in
          subst (λ (z : Run). F base z.gain) (sym same) (g base from (omega (arith, is, subst (λ (z : Run). base ≤ z.upto) same in2.upto)))
    ]
keeps F old new run top bottom is above (inr (j, last, left, e)) f g i base in2 from =
    let inside : IsIn old i base = subst (λ (z : List Run). IsIn z i base) e in2 in
    subst (λ (z : List Run). F base (run_at z i).gain) (sym e) (
    elim (cases_lt top base) [
      | inl lt ↦ f i base inside (omega (arith, lt))
      | inr ge ↦ elim (cases_lt (i + 1) (length old)) [
        | inl more ↦ absurd (omega (arith, above (i + 1) more, inside.beyond more, ge))
        | inr end ↦
            let k : i ≡ j = omega (arith, end, inside.inside, last) in
            let h : run.gain ≡ (run_at old i).gain = sym left ∙ ap (λ z. (run_at old z).gain) (sym k) in
            subst (F base) h (g base from ge)
      ]
    ]
    )

pub goes_down : (old new : List Run) (run : Run) (top : ℕ) → run.upto ≡ top → BeginFrom old (top + 1) → GoDown old → IsPushed old run new → GoDown new
goes_down old new run top is above down (inr (j, last, left, e)) i lt = subst (λ (z : List Run). GoDown z) (sym e) down i lt
goes_down old new run top is above down (inl e) i lt =
    elim (cases_lt (i + 1) (length old)) [
      | inl more ↦
          let a : run_at new i ≡ run_at old i = front_run old new run i e (omega (arith, more)) in
          let b : run_at new (i + 1) ≡ run_at old (i + 1) = front_run old new run (i + 1) e more in
          omega (arith, down i more, ap (λ (z : Run). z.upto) a, ap (λ (z : Run). z.upto) b)
      | inr end ↦
          let k : i + 1 ≡ length old = omega (arith, end, lt, one_more old new run e) in
          let a : run_at new i ≡ run_at old i = front_run old new run i e (omega (arith, k)) in
          let b : run_at new (i + 1) ≡ run = ap (run_at new) k ∙ last_run old new run e in
          omega (arith, above i (omega (arith, k)), is, ap (λ (z : Run). z.upto) a, ap (λ (z : Run). z.upto) b)
    ]

pub begins_from : (old new : List Run) (run : Run) (top bottom : ℕ) → run.upto ≡ top → bottom ≤ top → BeginFrom old (top + 1) → IsPushed old run new → BeginFrom new bottom
begins_from old new run top bottom is le above (inr (j, last, left, e)) i lt = omega (arith, above i (omega (arith, lt, ap length e)), le, ap (λ (z : List Run). (run_at z i).upto) e)
begins_from old new run top bottom is le above (inl e) i lt =
    elim (cases_lt i (length old)) [
      | inl more ↦ omega (arith, above i more, le, ap (λ (z : Run). z.upto) (front_run old new run i e more))
      | inr end ↦
          let k : i ≡ length old = omega (arith, end, lt, one_more old new run e) in
          omega (arith, is, le, ap (λ (z : Run). z.upto) (ap (run_at new) k ∙ last_run old new run e))
    ]

pub has_some : (old new : List Run) (run : Run) → IsPushed old run new → 0 < length new
has_some old new run (inl e) = omega (arith, one_more old new run e)
has_some old new run (inr (j, last, left, e)) = omega (arith, last, ap length e)

pub has_first : (old new : List Run) (run : Run) (top : ℕ) → run.upto ≡ top → IsPushed old run new → ((old ≡ []) × ((run_at new 0).upto ≡ top)) ⊎ ((0 < length old) × ((run_at new 0).upto ≡ (run_at old 0).upto))
has_first [] new run top is (inl e) = inl (refl, ap (λ (z : List Run). (run_at z 0).upto) e ∙ is)
has_first (r ∷ rs) new run top is (inl e) = inr (omega arith, ap (λ (z : List Run). (run_at z 0).upto) e)
has_first old new run top is (inr (j, last, left, e)) = inr (omega (arith, last), ap (λ (z : List Run). (run_at z 0).upto) e)

pub is_small : (old new : List Run) (run : Run) (most : ℕ) → run.gain ≤ most → IsPushed old run new → (i : ℕ) → i < length new → ((run_at new i).gain ≤ most) ⊎ ((j : ℕ) × (j < length old) × ((run_at new i).gain ≡ (run_at old j).gain))
is_small old new run most le (inr (j, last, left, e)) i lt = inr (i, omega (arith, lt, ap length e), ap (λ (z : List Run). (run_at z i).gain) e)
is_small old new run most le (inl e) i lt =
    elim (cases_lt i (length old)) [
      | inl more ↦ inr (i, more, ap (λ (z : Run). z.gain) (front_run old new run i e more))
      | inr end ↦
          let k : i ≡ length old = omega (arith, end, lt, one_more old new run e) in
          inl (omega (arith, le, ap (λ (z : Run). z.gain) (ap (run_at new) k ∙ last_run old new run e)))
    ]

pub keeps_small : (F : ℕ → Type 0) (old new : List Run) (run : Run) → IsPushed old run new → ((i : ℕ) → i < length old → F (run_at old i).gain) → F run.gain → (i : ℕ) → i < length new → F (run_at new i).gain
keeps_small F old new run (inr (j, last, left, e)) f g i lt = subst (λ (z : List Run). F (run_at z i).gain) (sym e) (f i (omega (arith, lt, ap length e)))
keeps_small F old new run (inl e) f g i lt =
    elim (cases_lt i (length old)) [
      | inl more ↦ subst (λ (z : Run). F z.gain) (sym (front_run old new run i e more)) (f i more)
      | inr end ↦
          let k : i ≡ length old = omega (arith, end, lt, one_more old new run e) in
          subst (λ (z : Run). F z.gain) (sym (ap (run_at new) k ∙ last_run old new run e)) g
    ]

-- an item and what is left behind it, by its gain
pub item_less : (addr : List ℕ) (context : Context) (base : ℕ) (item : Bounds) (items : List Bounds) (ps : List ℕ) (cost free gain under : ℕ) → cost ≤ free → IsLeastCost (ItemWithin addr context base item) cost → IsLess (OnFrom addr context base items ps) under gain → IsLess (ItemFirst addr context base item items ps) (under + free) (gain + (free - cost))
item_less addr context base item items ps cost free gain under le one (fits, rest) =
    let e : under - gain + cost ≡ under + free - (gain + (free - cost)) = omega (arith, le, fits) in
    (omega (arith, le, fits), subst (IsLeastCost (ItemFirst addr context base item items ps)) e (item_first_least addr context base item items ps cost (under - gain) one rest))

pub adds_down : (costs : Costs) (gain top bottom cost : ℕ) (old new : List Run) → costs.free ≤ 17 → bottom ≤ top → cost ≤ costs.free → GoDown old → BeginFrom old (top + 1) → (piece_bottom : ℕ) → piece_bottom ≤ bottom → ((addr : List ℕ) (context : Context) (item : Bounds) → AreCosts addr context item costs → IsPiece addr context item top (record { cost = cost; bottom = piece_bottom })) → IsPushed old (record { upto = top; gain = gain + (costs.free - cost) }) new → AddsDown costs gain top bottom old new
adds_down costs gain top bottom cost old new free le few down above piece_bottom reach piece pushed =
    let run : Run = record { upto = top; gain = gain + (costs.free - cost) } in
    record {
      down = goes_down old new run top refl above down pushed;
      from = begins_from old new run top bottom refl le above pushed;
      some = has_some old new run pushed;
      first = has_first old new run top refl pushed;
      small = is_small old new run (gain + 17) (omega (arith, few, free)) pushed;
      left_behind = λ addr context item items ps under are between behind. keeps (λ base n. IsLess (ItemFirst addr context base item items ps) (under + costs.free) n) old new run top bottom refl above pushed behind (λ base from to.
          item_less addr context base item items ps cost costs.free gain under few ((piece addr context item are).cost base (omega (arith, from, reach)) to) (between base from to));
    }

first_more : (old cur new : List Run) (top next : ℕ) → ((old ≡ []) × ((run_at cur 0).upto ≡ top)) ⊎ ((0 < length old) × ((run_at cur 0).upto ≡ (run_at old 0).upto)) → 0 < length cur → ((cur ≡ []) × ((run_at new 0).upto ≡ next)) ⊎ ((0 < length cur) × ((run_at new 0).upto ≡ (run_at cur 0).upto)) → ((old ≡ []) × ((run_at new 0).upto ≡ top)) ⊎ ((0 < length old) × ((run_at new 0).upto ≡ (run_at old 0).upto))
first_more old cur new top next a some (inl (none, is)) = absurd (omega (arith, some, ap length none))
first_more old cur new top next (inl (none, is)) some (inr (more, same)) = inl (none, same ∙ is)
first_more old cur new top next (inr (one, is)) some (inr (more, same)) = inr (one, same ∙ is)

-- pieces of a run, one after the other
pub adds_more : (costs : Costs) (gain top mid next bottom : ℕ) (old cur new : List Run) → mid ≡ next + 1 → next < top → bottom ≤ next → AddsDown costs gain top mid old cur → AddsDown costs gain next bottom cur new → AddsDown costs gain top bottom old new
adds_more costs gain top mid next bottom old cur new e lt le a b = record {
  down = b.down;
  from = b.from;
  some = b.some;
  first = first_more old cur new top next a.first a.some b.first;
  small = λ i inside. elim (b.small i inside) [ inl x ↦ inl x | inr (j, l, same) ↦ elim (a.small j l) [ inl x ↦ inl (omega (arith, same, x)) | inr (k, m, again) ↦ inr (k, m, same ∙ again) ] ];
  left_behind = λ addr context item items ps under are between behind.
      b.left_behind addr context item items ps under are (λ base from to. between base from (omega (arith, to, lt))) (subst (AreLeftBehind addr context item items ps (under + costs.free) cur) e (a.left_behind addr context item items ps under are (λ base from to. between base (omega (arith, from, e, le)) to) behind));
}
