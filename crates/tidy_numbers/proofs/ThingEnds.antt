-- Things that stand at a place, where they end, and what holds at a place behind them.
use Rattle.std.proofs.Common.{◌≡◌, ◌≤◌, ◌+◌, ◌-◌, ◌++◌, ◌⊎◌, inl, inr, ℕ, List, length, take, drop, ◌∙◌, sym, ap, subst, refl, arith}
use Rattle.std.specs.Prelude.{Option}
use Rattle.std.proofs.lemmas.List.{length-append, length-drop, length-take-le, append_cancel_left, take_at, drop-drop}
use Rattle.spelled.specs.Spelled.{HasUniqueFronts, Then}
use Rattle.spelled.proofs.Parts.{take_sum}
use Rattle.expr_ops.proofs.ReadLaws.{rest_and}
use Rattle.tidy_places.specs.Firsts.{IsLeastFound}
use Rattle.tidy_numbers.specs.Fronts.{Behind}
use Rattle.tidy_numbers.specs.inside.Operands.{IsEndOf, HoldsFrom}
use Rattle.tidy_numbers.proofs.FoundAmong.{found_same}

-- a thing ends where its bytes do
pub end_is : {V : Type 0} (Spells : V → List ℕ → Type 0) (bytes : List ℕ) (at end : ℕ) (v : V) (first rest : List ℕ) → at ≤ length bytes → Spells v first → drop at bytes ≡ first ++ rest → end ≡ at + length first → IsEndOf Spells bytes at end
end_is {V} Spells bytes at end v first rest within spells whole is =
    let size : length (drop at bytes) ≡ length bytes - at = length-drop at bytes in
    let parts : length (drop at bytes) ≡ length first + length rest = ap length whole ∙ length-append first rest in
    let long : length first ≡ end - at = omega (arith, is) in
    let own : take (end - at) (drop at bytes) ≡ first = ap (take (end - at)) whole ∙ take_at first rest (end - at) long in
    record { thing = v; starts = omega (arith, is); inside = omega (arith, is, size, parts, within); spelled = subst (Spells v) (sym own) spells }

module _ {V : Type 0} (Spells : V → List ℕ → Type 0) (Holds : ℕ → List ℕ → Type 0) (bytes : List ℕ) (at end : ℕ) (there : IsEndOf Spells bytes at end) where
  -- the bytes behind it
  split : drop at bytes ≡ take (end - at) (drop at bytes) ++ drop end bytes
  split = rest_and bytes at end there.starts

  own_long : length (take (end - at) (drop at bytes)) ≡ end - at
  own_long =
      let size : length (drop at bytes) ≡ length bytes - at = length-drop at bytes in
      length-take-le (end - at) (drop at bytes) (omega (arith, size, there.inside))

  -- what holds at a place behind it
  pub behind_end : HasUniqueFronts Spells → (inner : ℕ) → Behind Spells (λ v. Holds) inner (drop at bytes) → (deep : ℕ) × Holds deep (drop end bytes) × (at + inner ≡ end + deep)
  behind_end once inner (v, first, rest, deep, spells, holds, whole, place) =
      let own : List ℕ = take (end - at) (drop at bytes) in
      let same : first ≡ take (end - at) (drop at bytes) = (once v there.thing first (take (end - at) (drop at bytes)) rest (drop end bytes) spells there.spelled (sym whole ∙ split)).0 in
      let behind : rest ≡ drop end bytes = append_cancel_left first rest (drop end bytes) (sym whole ∙ split ∙ ap (λ (z : List ℕ). z ++ drop end bytes) (sym same)) in
      let long : length first ≡ end - at = ap length same ∙ own_long in
      (deep, subst (Holds deep) behind holds, omega (arith, place, long, there.starts))

  pub end_behind : (deep : ℕ) → Holds deep (drop end bytes) → Behind Spells (λ v. Holds) (end - at + deep) (drop at bytes)
  end_behind deep holds =
      let long = own_long in
      (there.thing, take (end - at) (drop at bytes), drop end bytes, deep, there.spelled, holds, split, omega (arith, long))

-- what is said of the bytes behind a thing that the bytes begin with
pub rest_there : {V : Type 0} (Spells : V → List ℕ → Type 0) (P : List ℕ → Type 0) (bytes : List ℕ) (at end : ℕ) (v : V) (first rest : List ℕ) → HasUniqueFronts Spells → IsEndOf Spells bytes at end → Spells v first → drop at bytes ≡ first ++ rest → P rest → P (drop end bytes)
rest_there {V} Spells P bytes at end v first rest once there spells whole holds =
    (behind_end Spells (λ n. P) bytes at end there once (length first + 0) (v, first, rest, 0, spells, holds, whole, refl)).1

-- a thing and then another one
pub ends_join : {V W : Type 0} (S : V → List ℕ → Type 0) (T : W → List ℕ → Type 0) (bytes : List ℕ) (at mid end : ℕ) → IsEndOf S bytes at mid → IsEndOf T bytes mid end → IsEndOf (Then S (λ _. T)) bytes at end
ends_join {V} {W} S T bytes at mid end one other =
    let starts = one.starts in
    let goes = other.starts in
    let sum : (mid - at) + (end - mid) ≡ end - at = omega (arith, starts, goes) in
    let behind : drop (mid - at) (drop at bytes) ≡ drop mid bytes = drop-drop (mid - at) at bytes ∙ ap (λ (n : ℕ). drop n bytes) (back at mid starts) in
    let split : take (end - at) (drop at bytes) ≡ take (mid - at) (drop at bytes) ++ take (end - mid) (drop mid bytes) = ap (λ (n : ℕ). take n (drop at bytes)) (sym sum) ∙ take_sum (mid - at) (end - mid) (drop at bytes) ∙ ap (λ (z : List ℕ). take (mid - at) (drop at bytes) ++ take (end - mid) z) behind in
    record {
      thing = (one.thing, other.thing);
      starts = omega (arith, starts, goes);
      inside = other.inside;
      spelled = (take (mid - at) (drop at bytes), take (end - mid) (drop mid bytes), one.spelled, other.spelled, split);
    }
  where
    back : (at mid : ℕ) → at ≤ mid → at + (mid - at) ≡ mid
    back at mid less = omega (arith, less)

-- nothing holds of the first of two things, and the least place in the second is found
pub found_behind : {V : Type 0} (Spells : V → List ℕ → Type 0) (One Other : ℕ → List ℕ → Type 0) (bytes : List ℕ) (at end : ℕ) → HasUniqueFronts Spells → IsEndOf Spells bytes at end → ((inner : ℕ) → One inner (drop at bytes) → ⊥) → (found : Option ℕ) → IsLeastFound (HoldsFrom Other end bytes) found → IsLeastFound (HoldsFrom (λ inner z. One inner z ⊎ Behind Spells (λ v. Other) inner z) at bytes) found
found_behind {V} Spells One Other bytes at end once there never found least =
    found_same (HoldsFrom Other end bytes) (HoldsFrom (λ inner z. One inner z ⊎ Behind Spells (λ v. Other) inner z) at bytes) to from found least
  where
    to : (p : ℕ) → HoldsFrom Other end bytes p → HoldsFrom (λ inner z. One inner z ⊎ Behind Spells (λ v. Other) inner z) at bytes p
    to p (deep, holds, place) = let starts = there.starts in (end - at + deep, inr (end_behind Spells Other bytes at end there deep holds), omega (arith, place, starts))

    from : (p : ℕ) → HoldsFrom (λ inner z. One inner z ⊎ Behind Spells (λ v. Other) inner z) at bytes p → HoldsFrom Other end bytes p
    from p (inner, inl one, place) = absurd (never inner one)
    from p (inner, inr behind, place) =
        let (deep, holds, here) = behind_end Spells Other bytes at end there once inner behind in
        (deep, holds, omega (arith, place, here))
