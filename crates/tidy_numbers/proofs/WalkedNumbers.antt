-- The number that stands next, by where it stands and ends.
use Rattle.std.proofs.Common.{◌≡◌, ◌≤◌, ◌+◌, ◌++◌, ◌⊎◌, ◌∙◌, ℕ, List, length, drop, Option, Some, None, true, false, sym, ap, refl, inl, inr, arith}
use Rattle.std.specs.Prelude.{◌↔◌, Bool, IsTrue}
use Rattle.std.proofs.lemmas.Bool.{false≢true}
use Rattle.tidy_places.specs.Firsts.{IsLeastFound}
use Rattle.entry_arena.specs.Trees.{bytes_between, SpellsBetween}
use Rattle.entry_arena.proofs.Between.{length_between}
use Rattle.tidy_numbers.specs.inside.NumberWalks.{HoldsFrom}
use Rattle.tidy_numbers.proofs.WalkedPlaces.{found_same}
use Rattle.tidy_numbers.proofs.WalkedBehind.{parted}

pub stands_inside : (S : List ℕ → Type 0) (bytes : List ℕ) (start end : ℕ) → SpellsBetween S bytes start end → start ≤ length bytes
stands_inside S bytes start end stands =
    let order : start ≤ end = stands.order in
    let inside : end ≤ length bytes = stands.inside in
    omega arith

-- where it stands the bytes begin with it
pub begins : {V : Type 0} (S : V → List ℕ → Type 0) (bytes : List ℕ) (start : ℕ) (v : V) (end : ℕ) → SpellsBetween (S v) bytes start end → (w : V) × (first : List ℕ) × (rest : List ℕ) × S w first × (drop start bytes ≡ first ++ rest)
begins S bytes start v end stands = (v, bytes_between bytes start end, drop end bytes, stands.spelled, parted bytes start end stands.order)

pub ends_there : {V : Type 0} (S : V → List ℕ → Type 0) (bytes : List ℕ) (start here : ℕ) → ((v : V) (first rest : List ℕ) → S v first → drop start bytes ≡ first ++ rest → here ≡ start + length first) → (v : V) (end : ℕ) → SpellsBetween (S v) bytes start end → here ≡ end
ends_there S bytes start here ends v end stands =
    let order : start ≤ end = stands.order in
    let size = length_between bytes start end stands.inside in
    let is = ends v (bytes_between bytes start end) (drop end bytes) stands.spelled (parted bytes start end stands.order) in
    omega (arith, size, is)

-- a number with a byte too many is found at its own place
pub found_here : (Begins : List ℕ → Type 0) (bytes : List ℕ) (start : ℕ) (long : Bool) (before found : Option ℕ) → (IsTrue long ↔ Begins (drop start bytes)) → IsLeastFound (λ p. (before ≡ Some p) ⊎ (IsTrue long × (p ≡ start))) found → IsLeastFound (λ p. (before ≡ Some p) ⊎ HoldsFrom (λ i rest. (i ≡ 0) × Begins rest) bytes start p) found
found_here Begins bytes start long before found begins least =
    found_same (λ p. (before ≡ Some p) ⊎ (IsTrue long × (p ≡ start))) (λ p. (before ≡ Some p) ⊎ HoldsFrom (λ i rest. (i ≡ 0) × Begins rest) bytes start p) found least
    (λ p h. elim h [
      | inl is ↦ inl is
      | inr here ↦ let place : p ≡ start = here.1 in inr (0, (refl, begins.0 here.0), omega arith)
    ])
    (λ p h. elim h [
      | inl is ↦ inl is
      | inr there ↦
          let none : there.0 ≡ 0 = there.1.0 in
          let place : p ≡ start + there.0 = there.2 in
          inr (begins.1 there.1.1, omega (arith, none, place))
    ])

-- a place that was found or not is one that is found where something holds
pub found_next : (long : Bool) (start : ℕ) (before here found : Option ℕ) → ((long ≡ true) × (here ≡ Some start)) ⊎ ((long ≡ false) × (here ≡ None)) → IsLeastFound (λ p. (before ≡ Some p) ⊎ (here ≡ Some p)) found → IsLeastFound (λ p. (before ≡ Some p) ⊎ (IsTrue long × (p ≡ start))) found
found_next long start before here found cases least =
    found_same (λ p. (before ≡ Some p) ⊎ (here ≡ Some p)) (λ p. (before ≡ Some p) ⊎ (IsTrue long × (p ≡ start))) found least
    (λ p h. elim h [
      | inl is ↦ inl is
      | inr there ↦ elim cases [
        | inl yes_it ↦ inr (yes_it.0, (let one : here ≡ Some start = yes_it.1 in cc (one, there)))
        | inr no_it ↦ absurd (let none : here ≡ None = no_it.1 in cc (none, there))
      ]
    ])
    (λ p h. elim h [
      | inl is ↦ inl is
      | inr there ↦ elim cases [
        | inl yes_it ↦ inr (yes_it.1 ∙ ap (λ (z : ℕ). Some z) (sym there.1))
        | inr no_it ↦ absurd (false≢true (sym no_it.0 ∙ there.0))
      ]
    ])
