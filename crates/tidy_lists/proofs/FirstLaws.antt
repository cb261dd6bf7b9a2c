-- The least number that goes with each other one, by pairs.
use Rattle.std.proofs.Common.{◌≡◌, ◌≤◌, ◌<◌, ◌+◌, ◌∙◌, ◌⊎◌, inl, inr, ℕ, List, length, set, min, sym, ap, subst, refl, arith}
use Rattle.std.specs.Prelude.{slice_index}
use Rattle.std.specs.List.{Contains}
use Rattle.std.proofs.lemmas.Bool.{cases_lt, cases_eq}
use Rattle.std.proofs.lemmas.List.{get_or_default, get_or-set_same, get_or-set_other}
use Rattle.tidy_lists.specs.declared.followers.Follower.{Follower}
use Rattle.tidy_lists.specs.inside.LeastPlaces.{pair_at, IsFirstOf}

abbrev pub most : ℕ
most = 4294967295

-- of the first pairs
pub record AreFirstSoFar (pairs : List Follower) (i count : ℕ) (firsts : List ℕ) : Type 0 where
  pub few : (j : ℕ) → j < i → (pair_at pairs j).new ≤ most
  pub least : (j : ℕ) → j < i → slice_index firsts (pair_at pairs j).old ≤ (pair_at pairs j).new
  pub one : (k : ℕ) → k < count → (slice_index firsts k ≡ most) ⊎ ((j : ℕ) × (j < i) × ((pair_at pairs j).old ≡ k) × ((pair_at pairs j).new ≡ slice_index firsts k))

pair_is : (pairs : List Follower) (j k m : ℕ) → j < length pairs → (pair_at pairs j).old ≡ k → (pair_at pairs j).new ≡ m → Contains pairs (record { old = k; new = m })
pair_is pairs j k m inside old new = (
  j,
  inside,
  get_or_default pairs j (record { old = k; new = m }) (record { old = 0; new = 0 }) inside ∙ ap (λ (z : ℕ). record { old = z; new = (pair_at pairs j).new }) old ∙ ap (λ (z : ℕ). record { old = k; new = z }) new,
)

-- a pair by its number
pub numbered : (pairs : List Follower) (k m : ℕ) → Contains pairs (record { old = k; new = m }) → (j : ℕ) × (j < length pairs) × ((pair_at pairs j).old ≡ k) × ((pair_at pairs j).new ≡ m)
numbered pairs k m (j, inside, e) =
    let same : pair_at pairs j ≡ record { old = k; new = m } = get_or_default pairs j (record { old = 0; new = 0 }) (record { old = k; new = m }) inside ∙ e in
    (j, inside, ap (λ (z : Follower). z.old) same, ap (λ (z : Follower). z.new) same)

pub itself : (pairs : List Follower) (j : ℕ) → j < length pairs → Contains pairs (record { old = (pair_at pairs j).old; new = (pair_at pairs j).new })
itself pairs j inside = pair_is pairs j (pair_at pairs j).old (pair_at pairs j).new inside refl refl

pub first_more : (pairs : List Follower) (i count : ℕ) (firsts : List ℕ) (here : ℕ) → length firsts ≡ count → (pair_at pairs i).old < count → (pair_at pairs i).new ≤ most → here ≡ min (slice_index firsts (pair_at pairs i).old) (pair_at pairs i).new →
    AreFirstSoFar pairs i count firsts → AreFirstSoFar pairs (i + 1) count (set firsts (pair_at pairs i).old here)
first_more pairs i count firsts here long inside fits is are =
    let old : ℕ = (pair_at pairs i).old in
    let there : slice_index (set firsts old here) old ≡ here = get_or-set_same firsts old here 0 (omega (arith, long, inside)) in
    let now : (k : ℕ) → ((k ≡ old) × (slice_index (set firsts old here) k ≡ here)) ⊎ (slice_index (set firsts old here) k ≡ slice_index firsts k) = λ k. elim (cases_eq k old) [
      | inl e ↦ inl (e, ap (slice_index (set firsts old here)) e ∙ there)
      | inr apart ↦ inr (get_or-set_other firsts old k here 0 apart)
    ] in
    record {
      few = λ j less. elim (cases_lt j i) [
        | inl before ↦ are.few j before
        | inr rest ↦ (let e : i ≡ j = omega (arith, rest, less) in subst (λ (z : ℕ). (pair_at pairs z).new ≤ most) e fits)
      ];
      least = λ j less. elim (cases_lt j i) [
        | inl before ↦ elim (now (pair_at pairs j).old) [
          | inl (e, value) ↦
              let was = are.least j before in
              let same : slice_index firsts (pair_at pairs j).old ≡ slice_index firsts old = ap (slice_index firsts) e in
              omega (arith, was, same, value, is)
          | inr value ↦ (let was = are.least j before in omega (arith, was, value))
        ]
        | inr rest ↦
            let e : i ≡ j = omega (arith, rest, less) in
            subst (λ (z : ℕ). slice_index (set firsts old here) (pair_at pairs z).old ≤ (pair_at pairs z).new) e (omega (arith, there, is))
      ];
      one = λ k known. elim (now k) [
        | inl (e, value) ↦ own k e value (are.one old inside)
        | inr value ↦ elim (are.one k known) [
          | inl none ↦ inl (value ∙ none)
          | inr (j, less, first, second) ↦ inr (j, omega (arith, less), first, second ∙ sym value)
        ]
      ];
    }
  where
    own : (k : ℕ) → k ≡ (pair_at pairs i).old → slice_index (set firsts (pair_at pairs i).old here) k ≡ here → (slice_index firsts (pair_at pairs i).old ≡ most) ⊎ ((j : ℕ) × (j < i) × ((pair_at pairs j).old ≡ (pair_at pairs i).old) × ((pair_at pairs j).new ≡ slice_index firsts (pair_at pairs i).old)) →
        (slice_index (set firsts (pair_at pairs i).old here) k ≡ most) ⊎ ((j : ℕ) × (j < i + 1) × ((pair_at pairs j).old ≡ k) × ((pair_at pairs j).new ≡ slice_index (set firsts (pair_at pairs i).old here) k))
    own k e value before = elim (cases_lt (pair_at pairs i).new (slice_index firsts (pair_at pairs i).old)) [
      | inl less ↦ inr (i, omega arith, sym e, omega (arith, less, is, value))
      | inr more ↦ elim before [
        | inl none ↦ inl (omega (arith, none, is, value, more))
        | inr (j, earlier, first, second) ↦ inr (j, omega (arith, earlier), first ∙ sym e, omega (arith, second, is, value, more))
      ]
    ]

-- after all pairs each that some pair has has its first
pub firsts_found : (pairs : List Follower) (i count : ℕ) (firsts : List ℕ) → length pairs ≤ i → i ≤ length pairs → AreFirstSoFar pairs i count firsts → (k m : ℕ) → k < count → Contains pairs (record { old = k; new = m }) → IsFirstOf pairs k (slice_index firsts k)
firsts_found pairs i count firsts past within are k m known there =
    let (j, inside, old, new) = numbered pairs k m there in
    let below : (n : ℕ) → Contains pairs (record { old = k; new = n }) → slice_index firsts k ≤ n = λ n among.
    let (h, h_in, h_old, h_new) = numbered pairs k n among in
    let was = are.least h (omega (arith, h_in, past)) in
    let same : slice_index firsts (pair_at pairs h).old ≡ slice_index firsts k = ap (slice_index firsts) h_old in
    omega (arith, was, same, h_new) in
    elim (are.one k known) [
      | inl none ↦
          let least = below m there in
          let same : m ≡ slice_index firsts k = omega (arith, least, none, new, are.few j (omega (arith, inside, past))) in
          record { among = subst (λ (z : ℕ). Contains pairs (record { old = k; new = z })) same there; least = λ n among. (let under = below n among in omega (arith, under)) }
      | inr (h, less, first, second) ↦ record {
        among = pair_is pairs h k (slice_index firsts k) (omega (arith, less, within)) first second;
        least = λ n among. (let under = below n among in omega (arith, under));
      }
    ]
