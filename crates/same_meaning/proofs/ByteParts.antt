-- Where lists of bytes, or parts of them, are the same, and where they differ.
use Rattle.std.proofs.Common.{Bool, true, false, not, ◌≡◌, ◌≢◌, ◌≤◌, ◌<◌, ◌+◌, ◌-◌, ◌∙◌, inl, inr, ℕ, suc, List, [], ◌∷◌, length, take, drop, get_or, sym, ap, refl, arith}
use Rattle.std.specs.Prelude.{slice_index, slice_range, bytes_eq}
use Rattle.std.proofs.lemmas.List.{get_or-drop, get_or-take, length-take, length-drop}
use Rattle.std.proofs.lemmas.Bool.{cases_eq, true≢false, not-true, not-false}
use Rattle.std.proofs.lemmas.Slice.Eq.{bytes_eq-Decides}

-- what a comparison of lists says
pub compared : (xs ys : List ℕ) (r : Bool) → r ≡ not (bytes_eq xs ys) → (r ≡ true → xs ≢ ys) × (r ≡ false → xs ≡ ys)
compared xs ys r is =
    let equal = bytes_eq-Decides xs ys in
    (λ differ same. true≢false (sym (equal.1 same) ∙ not-true (bytes_eq xs ys) (sym is ∙ differ)), λ alike. equal.0 (not-false (bytes_eq xs ys) (sym is ∙ alike)))

-- lists of one length that aren't the same differ somewhere
some_other : (xs ys : List ℕ) → length xs ≡ length ys → xs ≢ ys → (k : ℕ) × (k < length xs) × (slice_index xs k ≢ slice_index ys k)
some_other [] [] size other = absurd (other refl)
some_other [] (y ∷ ys) size other = absurd (omega arith)
some_other (x ∷ xs) [] size other = absurd (omega arith)
some_other (x ∷ xs) (y ∷ ys) size other = elim (cases_eq x y) [
  | inl e ↦
      let (k, inside, differs) = some_other xs ys (omega arith) (λ same. other (cc)) in
      (suc k, omega arith, differs)
  | inr differs ↦ (0, omega arith, differs)
]

-- FRONTS

taken_alike : (xs ys : List ℕ) (n k : ℕ) → k < n → slice_index xs k ≡ slice_index ys k → slice_index (take n xs) k ≡ slice_index (take n ys) k
taken_alike xs ys n k low same = get_or-take n xs k 0 low ∙ same ∙ sym (get_or-take n ys k 0 low)

pub same_taken : (xs ys : List ℕ) (n k : ℕ) → take n xs ≡ take n ys → k < n → slice_index xs k ≡ slice_index ys k
same_taken xs ys n k same low = sym (get_or-take n xs k 0 low) ∙ ap (λ (z : List ℕ). get_or z k 0) same ∙ get_or-take n ys k 0 low

pub other_taken : (xs ys : List ℕ) (n : ℕ) → length xs ≡ length ys → take n xs ≢ take n ys → (k : ℕ) × (k < n) × (slice_index xs k ≢ slice_index ys k)
other_taken xs ys n size differ =
    let a = length-take n xs in
    let b = length-take n ys in
    let (k, inside, other) = some_other (take n xs) (take n ys) (omega arith) differ in
    let low : k < n = omega arith in
    (k, low, λ same. other (taken_alike xs ys n k low same))

-- ENDS

dropped_alike : (xs ys : List ℕ) (n k : ℕ) → slice_index xs (n + k) ≡ slice_index ys (n + k) → slice_index (drop n xs) k ≡ slice_index (drop n ys) k
dropped_alike xs ys n k same = get_or-drop n xs k 0 ∙ same ∙ sym (get_or-drop n ys k 0)

dropped_at : (xs : List ℕ) (n k : ℕ) → n ≤ k → slice_index (drop n xs) (k - n) ≡ slice_index xs k
dropped_at xs n k high =
    let e : n + (k - n) ≡ k = omega arith in
    get_or-drop n xs (k - n) 0 ∙ ap (λ (j : ℕ). get_or xs j 0) e

pub same_dropped : (xs ys : List ℕ) (n k : ℕ) → drop n xs ≡ drop n ys → n ≤ k → slice_index xs k ≡ slice_index ys k
same_dropped xs ys n k same high = sym (dropped_at xs n k high) ∙ ap (λ (z : List ℕ). get_or z (k - n) 0) same ∙ dropped_at ys n k high

pub other_dropped : (xs ys : List ℕ) (n : ℕ) → length xs ≡ length ys → drop n xs ≢ drop n ys → (k : ℕ) × (n ≤ k) × (k < length xs) × (slice_index xs k ≢ slice_index ys k)
other_dropped xs ys n size differ =
    let a = length-drop n xs in
    let b = length-drop n ys in
    let (k, inside, other) = some_other (drop n xs) (drop n ys) (omega arith) differ in
    (n + k, omega arith, omega arith, λ same. other (dropped_alike xs ys n k same))

-- PARTS

-- a byte of a part
pub byte_in : (file : List ℕ) (at size k : ℕ) → k < size → slice_index (slice_range file at (at + size)) k ≡ slice_index file (at + k)
byte_in file at size k inside = get_or-take (at + size - at) (drop at file) k 0 (omega arith) ∙ get_or-drop at file k 0

pub same_part : (xs ys : List ℕ) (from to k : ℕ) → slice_range xs from to ≡ slice_range ys from to → from ≤ k → k < to → slice_index xs k ≡ slice_index ys k
same_part xs ys from to k same high low =
    sym (dropped_at xs from k high) ∙ same_taken (drop from xs) (drop from ys) (to - from) (k - from) same (omega arith) ∙ dropped_at ys from k high

pub other_part : (xs ys : List ℕ) (from to : ℕ) → length xs ≡ length ys → slice_range xs from to ≢ slice_range ys from to → (k : ℕ) × (from ≤ k) × (k < to) × (slice_index xs k ≢ slice_index ys k)
other_part xs ys from to size differ =
    let a = length-drop from xs in
    let b = length-drop from ys in
    let (k, low, other) = other_taken (drop from xs) (drop from ys) (to - from) (omega arith) differ in
    (from + k, omega arith, omega arith, λ same. other (dropped_alike xs ys from k same))
