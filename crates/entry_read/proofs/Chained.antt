-- Things that stand one after the other and have bytes. Their places rise.
use Rattle.std.proofs.Common.{◌≡◌, ◌≤◌, ◌<◌, ◌+◌, inl, inr, ℕ, zero, suc, List, [], ◌∷◌, length, get_or, arith}
use Rattle.std.proofs.lemmas.Bool.{cases_lt}

-- each begins where the one before it ends, and has bytes
module _ {X : Type 0} (at len : X → ℕ) where
  abbrev pub Chained : List X → ℕ → ℕ → Type 0
  Chained [] a e = a ≡ e
  Chained (x ∷ xs) a e = (at x ≡ a) × (0 < len x) × Chained xs (a + len x) e

  pub chained_rises : (xs : List X) (a e : ℕ) → Chained xs a e → a ≤ e
  chained_rises [] a e same = let here : a ≡ e = same in omega arith
  chained_rises (x ∷ xs) a e (first, filled, rest) = let behind : a + len x ≤ e = chained_rises xs (a + len x) e rest in omega arith

  pub begins_from : (xs : List X) (a e i : ℕ) (d : X) → Chained xs a e → i < length xs → a ≤ at (get_or xs i d)
  begins_from [] a e i d c inside = absurd (omega arith)
  begins_from (x ∷ xs) a e zero d (first, filled, rest) inside = omega arith
  begins_from (x ∷ xs) a e (suc i) d (first, filled, rest) inside = let later : a + len x ≤ at (get_or xs i d) = begins_from xs (a + len x) e i d rest (omega arith) in omega arith

  pub stand_apart : (xs : List X) (a e i j : ℕ) (d : X) → Chained xs a e → i < j → j < length xs → at (get_or xs i d) + len (get_or xs i d) ≤ at (get_or xs j d)
  stand_apart [] a e i j d c less inside = absurd (omega arith)
  stand_apart (x ∷ xs) a e i zero d c less inside = absurd (omega arith)
  stand_apart (x ∷ xs) a e zero (suc j) d (first, filled, rest) less inside = let later : a + len x ≤ at (get_or xs j d) = begins_from xs (a + len x) e j d rest (omega arith) in omega arith
  stand_apart (x ∷ xs) a e (suc i) (suc j) d (first, filled, rest) less inside = stand_apart xs (a + len x) e i j d rest (omega arith) (omega arith)

  pub has_bytes : (xs : List X) (a e i : ℕ) (d : X) → Chained xs a e → i < length xs → 0 < len (get_or xs i d)
  has_bytes [] a e i d c inside = absurd (omega arith)
  has_bytes (x ∷ xs) a e zero d (first, filled, rest) inside = filled
  has_bytes (x ∷ xs) a e (suc i) d (first, filled, rest) inside = has_bytes xs (a + len x) e i d rest (omega arith)

  -- a place lies in one of them at most
  pub lies_once : (xs : List X) (a e i j place : ℕ) (d : X) → Chained xs a e → i < length xs → j < length xs → at (get_or xs i d) ≤ place → place < at (get_or xs i d) + len (get_or xs i d) → at (get_or xs j d) ≤ place → place < at (get_or xs j d) + len (get_or xs j d) → i ≡ j
  lies_once xs a e i j place d c i_in j_in i_from i_to j_from j_to = elim (cases_lt i j) [
    | inl less ↦ let apart : at (get_or xs i d) + len (get_or xs i d) ≤ at (get_or xs j d) = stand_apart xs a e i j d c less j_in in absurd (omega arith)
    | inr rest ↦ elim (cases_lt j i) [
      | inl less ↦ let apart : at (get_or xs j d) + len (get_or xs j d) ≤ at (get_or xs i d) = stand_apart xs a e j i d c less i_in in absurd (omega arith)
      | inr more ↦ omega arith
    ]
  ]

  -- and each ends by the end of all
  pub ends_by : (xs : List X) (a e i : ℕ) (d : X) → Chained xs a e → i < length xs → at (get_or xs i d) + len (get_or xs i d) ≤ e
  ends_by [] a e i d c inside = absurd (omega arith)
  ends_by (x ∷ xs) a e zero d (first, filled, rest) inside = let behind : a + len x ≤ e = chained_rises xs (a + len x) e rest in omega arith
  ends_by (x ∷ xs) a e (suc i) d (first, filled, rest) inside = ends_by xs (a + len x) e i d rest (omega arith)
