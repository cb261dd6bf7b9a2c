-- Searches among numbers below a bound.
use Rattle.std.proofs.Common.{◌≡◌, ◌≢◌, ◌≤◌, ◌<◌, ◌⊎◌, inl, inr, ℕ, zero, suc, List, [], ◌∷◌, length, ap, subst, refl, arith}
use Rattle.std.specs.Prelude.{slice_index}
use Rattle.std.proofs.lemmas.Bool.{cases_eq, cases_lt}

-- below a bound a number has what can be told of each, or none has
pub some_below : (Has : ℕ → Type 0) → ((u : ℕ) → Has u ⊎ (Has u → ⊥)) → (n : ℕ) → ((u : ℕ) × (u < n) × Has u) ⊎ ((u : ℕ) → u < n → Has u → ⊥)
some_below Has told zero = inr (λ u less has. omega (arith, less))
some_below Has told (suc n) = elim (some_below Has told n) [
  | inl (u, less, has) ↦ inl (u, omega (arith, less), has)
  | inr none ↦ elim (told n) [
    | inl has ↦ inl (n, omega arith, has)
    | inr hasnt ↦ inr (λ u less has. elim (cases_eq u n) [
      | inl last ↦ hasnt (subst Has last has)
      | inr before ↦ none u (let o : u ≢ n = before in omega (arith, less)) has
    ])
  ]
]

-- of those below a bound that are given one number, one has the least
pub least_below : (f g : ℕ → ℕ) (number n : ℕ) →
    ((u : ℕ) × (u < n) × (f u ≡ number) × ((v : ℕ) → v < n → f v ≡ number → g u ≤ g v)) ⊎ ((v : ℕ) → v < n → f v ≢ number)
least_below f g number zero = inr (λ v less. absurd (omega (arith, less)))
least_below f g number (suc n) = elim (cases_eq (f n) number) [
  | inr other ↦ elim (least_below f g number n) [
    | inl (u, less, is, least) ↦ inl (
      u,
      omega (arith, less),
      is,
      λ v v_less same. elim (cases_eq v n) [
        | inl last ↦ absurd (other (subst (λ (z : ℕ). f z ≡ number) last same))
        | inr before ↦ least v (let o : v ≢ n = before in omega (arith, v_less)) same
      ],
    )
    | inr none ↦ inr (λ v v_less same. elim (cases_eq v n) [
      | inl last ↦ other (subst (λ (z : ℕ). f z ≡ number) last same)
      | inr before ↦ none v (let o : v ≢ n = before in omega (arith, v_less)) same
    ])
  ]
  | inl here ↦ elim (least_below f g number n) [
    | inr none ↦ inl (
      n,
      omega arith,
      here,
      λ v v_less same. elim (cases_eq v n) [
        | inl last ↦ (let e : g v ≡ g n = ap g last in omega (arith, e))
        | inr before ↦ absurd (none v (let o : v ≢ n = before in omega (arith, v_less)) same)
      ],
    )
    | inl (u, less, is, least) ↦ elim (cases_lt (g n) (g u)) [
      | inl lower ↦ inl (
        n,
        omega arith,
        here,
        λ v v_less same. elim (cases_eq v n) [
          | inl last ↦ (let e : g v ≡ g n = ap g last in omega (arith, e))
          | inr before ↦ (let l : g u ≤ g v = least v (let o : v ≢ n = before in omega (arith, v_less)) same in omega (arith, l, lower))
        ],
      )
      | inr kept ↦ inl (
        u,
        omega (arith, less),
        is,
        λ v v_less same. elim (cases_eq v n) [
          | inl last ↦ (let e : g v ≡ g n = ap g last in omega (arith, e, kept))
          | inr before ↦ least v (let o : v ≢ n = before in omega (arith, v_less)) same
        ],
      )
    ]
  ]
]

-- where each number below a bound has one, a list holds these
pub record AreChosen (Has : ℕ → ℕ → Type 0) (n : ℕ) : Type 0 where
  pub chosen : List ℕ
  pub count : length chosen ≡ n
  pub each : (u : ℕ) → u < n → Has u (slice_index chosen u)

pub all_chosen : (Has : ℕ → ℕ → Type 0) (n : ℕ) → ((u : ℕ) → u < n → (i : ℕ) × Has u i) → AreChosen Has n
all_chosen Has zero some = record { chosen = []; count = refl; each = λ u less. absurd (omega (arith, less)) }
all_chosen Has (suc n) some =
    let first = some 0 (omega arith) in
    let rest : AreChosen (λ (u : ℕ). Has (suc u)) n = all_chosen (λ (u : ℕ). Has (suc u)) n (λ u less. some (suc u) (omega (arith, less))) in
    record { chosen = first.0 ∷ rest.chosen; count = omega (arith, rest.count); each = each first.0 first.1 rest.chosen rest.each }
  where
    each : (i : ℕ) → Has 0 i → (more : List ℕ) → ((u : ℕ) → u < n → Has (suc u) (slice_index more u)) → (u : ℕ) → u < suc n →
        Has u (slice_index (i ∷ more) u)
    each i has more rest zero less = has
    each i has more rest (suc u) less = rest u (omega (arith, less))
