-- Pairs that are appended step by step.
use Rattle.std.proofs.Common.{◌≡◌, ◌<◌, ◌+◌, ◌⊎◌, ◌∙◌, inl, inr, ℕ, List, [], ap, subst, arith}
use Rattle.std.specs.Prelude.{◌↔◌, Result, Ok, Err, OnOk}
use Rattle.std.specs.List.{Contains}
use Rattle.std.proofs.lemmas.Bool.{cases_lt}
use Rattle.tidy_lists.specs.declared.followers.Follower.{Follower}
use Rattle.tidy_lists.specs.inside.NamedNumbers.{Adds, Below, Somewhere}

abbrev pub pair_of : ℕ → ℕ → Follower
pair_of k m = record { old = k; new = m }

-- nothing is added where nothing holds
pub adds_none : (Holds : ℕ → ℕ → Type 0) (pairs : List Follower) → ((k m : ℕ) → Holds k m → ⊥) → Adds Holds pairs pairs
adds_none Holds pairs none = λ k m. (λ has. inl has, λ either. elim either [ inl has ↦ has | inr holds ↦ absurd (none k m holds) ])

-- a pair is added alone where it is the only one of which something holds
pub adds_one : (Holds : ℕ → ℕ → Type 0) (old new : ℕ) (before after : List Follower) → ((x : Follower) → Contains after x ↔ (Contains before x ⊎ (pair_of old new ≡ x))) → ((k m : ℕ) → Holds k m ↔ ((old ≡ k) × (new ≡ m))) → Adds Holds before after
adds_one Holds old new before after adds only = λ k m. (
  λ has. elim ((adds (pair_of k m)).0 has) [
    | inl earlier ↦ inl earlier
    | inr same ↦ inr ((only k m).1 (ap (λ (z : Follower). z.old) same, ap (λ (z : Follower). z.new) same))
  ],
  λ either. (adds (pair_of k m)).1 (elim either [
    | inl earlier ↦ inl earlier
    | inr holds ↦ (let both = (only k m).0 holds in inr (ap (λ (z : ℕ). pair_of z new) both.0 ∙ ap (λ (z : ℕ). pair_of k z) both.1))
  ]),
)

-- what is added in two steps
pub adds_both : (First Second : ℕ → ℕ → Type 0) (before mid after : List Follower) → Adds First before mid → Adds Second mid after → Adds (λ (k m : ℕ). First k m ⊎ Second k m) before after
adds_both First Second before mid after one two = λ k m. (
  λ has. elim ((two k m).0 has) [
    | inl some ↦ (elim ((one k m).0 some) [
      | inl earlier ↦ inl earlier
      | inr first ↦ inr (inl first)
    ])
    | inr second ↦ inr (inr second)
  ],
  λ either. (two k m).1 (elim either [
    | inl earlier ↦ inl ((one k m).1 (inl earlier))
    | inr (inl first) ↦ inl ((one k m).1 (inr first))
    | inr (inr second) ↦ inr second
  ]),
)

-- what holds of the same pairs is added as well
pub adds_same : (First Second : ℕ → ℕ → Type 0) (before after : List Follower) → ((k m : ℕ) → First k m ↔ Second k m) → Adds First before after → Adds Second before after
adds_same First Second before after same adds = λ k m. (
  λ has. elim ((adds k m).0 has) [ inl earlier ↦ inl earlier | inr holds ↦ inr ((same k m).0 holds) ],
  λ either. (adds k m).1 (elim either [ inl earlier ↦ inl earlier | inr holds ↦ inr ((same k m).1 holds) ]),
)

-- WHAT IS ADDED NUMBER BY NUMBER

pub below_none : (HoldsAt : ℕ → ℕ → ℕ → Type 0) (pairs : List Follower) → Adds (Below HoldsAt 0) pairs pairs
below_none HoldsAt pairs = adds_none (Below HoldsAt 0) pairs (λ k m (i, less, holds). omega (arith, less))

below_more : (HoldsAt : ℕ → ℕ → ℕ → Type 0) (n k m : ℕ) → (Below HoldsAt n k m ⊎ HoldsAt n k m) ↔ Below HoldsAt (n + 1) k m
below_more HoldsAt n k m = (
  λ either. elim either [
    | inl (i, less, holds) ↦ (i, omega (arith, less), holds)
    | inr holds ↦ (n, omega arith, holds)
  ],
  λ (i, less, holds). elim (cases_lt i n) [
    | inl below ↦ inl (i, below, holds)
    | inr past ↦ (let same : i ≡ n = omega (arith, less, past) in inr (subst (λ (z : ℕ). HoldsAt z k m) same holds))
  ],
)

pub below_next : (HoldsAt : ℕ → ℕ → ℕ → Type 0) (n : ℕ) (before mid after : List Follower) → Adds (Below HoldsAt n) before mid → Adds (HoldsAt n) mid after → Adds (Below HoldsAt (n + 1)) before after
below_next HoldsAt n before mid after one two =
    adds_same (λ (k m : ℕ). Below HoldsAt n k m ⊎ HoldsAt n k m) (Below HoldsAt (n + 1)) before after (below_more HoldsAt n) (adds_both (Below HoldsAt n) (HoldsAt n) before mid after one two)

pub below_all : (HoldsAt : ℕ → ℕ → ℕ → Type 0) (n : ℕ) (before after : List Follower) → ((i k m : ℕ) → HoldsAt i k m → i < n) → Adds (Below HoldsAt n) before after → Adds (Somewhere HoldsAt) before after
below_all HoldsAt n before after inside =
    adds_same (Below HoldsAt n) (Somewhere HoldsAt) before after (λ k m. (λ (i, less, holds). (i, holds), λ (i, holds). (i, inside i k m holds, holds)))

-- pairs that are added to none are those of which something holds
pub adds_all : (Holds : ℕ → ℕ → Type 0) (pairs : List Follower) → Adds Holds [] pairs → (k m : ℕ) → Contains pairs (pair_of k m) ↔ Holds k m
adds_all Holds pairs adds = λ k m. (
  λ has. elim ((adds k m).0 has) [ inl (i, inside, e) ↦ absurd (omega (arith, inside)) | inr holds ↦ holds ],
  λ holds. (adds k m).1 (inr holds),
)

-- what follows from what holds of a step that didn't fail
pub on_ok : {T E : Type 0} {P Q : Type 0} (result : Result T E) → (P → Q) → OnOk result P → OnOk result Q
on_ok (Ok value) follows holds = follows holds
on_ok (Err error) follows holds = tt
