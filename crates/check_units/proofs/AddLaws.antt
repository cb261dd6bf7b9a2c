-- Adding to a number, and to the sums that have it.
use Rattle.std.proofs.Common.{◌≡◌, ◌<◌, ◌+◌, ◌-◌, ◌*◌, ◌/◌, ◌⊎◌, inl, inr, ℕ, List, length, get_or, drop, set, ap, ◌∙◌, arith}
use Rattle.std.proofs.lemmas.Bool.{cases_lt, cases_eq}
use Rattle.std.proofs.lemmas.List.{length-set, length-drop, get_or-set_same, get_or-set_other, get_or-drop, ext_get_or}
use Rattle.check_units.specs.inside.Sums.{numbers_of, AreSums, IsAdding}

-- one cell has had something added
record AddsAt (at more : ℕ) (old new : List ℕ) : Type 0 where
  long : length new ≡ length old
  here : get_or new at 0 ≡ get_or old at 0 + more
  there : (q : ℕ) → ¬ (q ≡ at) → get_or new q 0 ≡ get_or old q 0

adds_at : (at more : ℕ) (old : List ℕ) → at < length old → AddsAt at more old (set old at (get_or old at 0 + more))
adds_at at more old inside = record {
  long = length-set old at (get_or old at 0 + more);
  here = get_or-set_same old at (get_or old at 0 + more) 0 inside;
  there = λ q ne. get_or-set_other old at q (get_or old at 0 + more) 0 ne;
}

-- a place is the double of its half, or that and one
halves : (at : ℕ) → (2 * (at / 2) ≡ at) ⊎ (2 * (at / 2) + 1 ≡ at)
halves at =
    elim (cases_lt (2 * (at / 2)) at) [
      | inl less ↦ inr (omega (arith, less))
      | inr same ↦ inl (omega (arith, same))
    ]

-- the cells below half a place have got more, as one of them has
below_more : (at more : ℕ) (old new : List ℕ) → AddsAt at more old new → get_or new (2 * (at / 2)) 0 + get_or new (2 * (at / 2) + 1) 0 ≡ get_or old (2 * (at / 2)) 0 + get_or old (2 * (at / 2) + 1) 0 + more
below_more at more old new adds =
    elim (halves at) [
      | inl left ↦
          let other = adds.there (2 * (at / 2) + 1) (λ e. absurd (omega (arith, e, left))) in
          let one : get_or new (2 * (at / 2)) 0 ≡ get_or old (2 * (at / 2)) 0 + more = rw left adds.here in
          omega (arith, other, one)
      | inr right ↦
          let other = adds.there (2 * (at / 2)) (λ e. absurd (omega (arith, e, right))) in
          let one : get_or new (2 * (at / 2) + 1) 0 ≡ get_or old (2 * (at / 2) + 1) 0 + more = rw right adds.here in
          omega (arith, other, one)
    ]

-- those below any other place haven't
below_same : (at more q : ℕ) (old new : List ℕ) → AddsAt at more old new → ¬ (q ≡ at / 2) → get_or new (2 * q) 0 + get_or new (2 * q + 1) 0 ≡ get_or old (2 * q) 0 + get_or old (2 * q + 1) 0
below_same at more q old new adds ne =
    let left = adds.there (2 * q) (λ e. ne (let f : q ≡ at / 2 = omega (arith, e) in f)) in
    let right = adds.there (2 * q + 1) (λ e. ne (let f : q ≡ at / 2 = omega (arith, e) in f)) in
    omega (arith, left, right)

module _ (old : List ℕ) (are : AreSums old) (place more : ℕ) (within : place < length old / 2) where
  next_from : (at : ℕ) (cells new : List ℕ) → 1 < at → IsAdding old place more at cells → AddsAt (at / 2) more cells new → IsAdding old place more (at / 2) new
  next_from at cells new up is adds =
      let n : ℕ = length old / 2 in
      let half : at / 2 < n = omega (arith, is.inside, is.long, are.even) in
      record {
        long = adds.long ∙ is.long;
        low = omega (arith, up);
        inside = omega (arith, is.inside, adds.long);
        number = omega (arith, is.number, adds.there (n + place) (λ e. absurd (omega (arith, e, half))));
        others = λ q high ne. omega (arith, is.others q high ne, adds.there q (λ e. absurd (omega (arith, e, high, half))));
        before = λ q less. omega (arith, is.before q (omega (arith, less)), adds.there q (λ e. absurd (omega (arith, e, less))));
        inner = λ q some below ne.
            let low = below_same (at / 2) more q cells new adds ne in
            elim (cases_eq q (at / 2)) [
              | inl same ↦
                  let here : get_or new q 0 ≡ get_or cells q 0 + more = rw same adds.here in
                  let was : get_or cells q 0 + more ≡ get_or cells (2 * q) 0 + get_or cells (2 * q + 1) 0 = rw same (is.broken (omega (arith, some, same))) in
                  omega (arith, here, was, low)
              | inr other ↦ omega (arith, adds.there q other, is.inner q some below other, low)
            ];
        broken = λ some.
            let one = adds.there (at / 2 / 2) (λ e. absurd (omega (arith, e, some))) in
            let was = is.inner (at / 2 / 2) some (omega (arith, half)) (λ e. absurd (omega (arith, e, some))) in
            omega (arith, one, was, below_more (at / 2) more cells new adds);
      }

  pub adding_next : (at : ℕ) (cells : List ℕ) → 1 < at → IsAdding old place more at cells → IsAdding old place more (at / 2) (set cells (at / 2) (get_or cells (at / 2) 0 + more))
  adding_next at cells up is = next_from at cells (set cells (at / 2) (get_or cells (at / 2) 0 + more)) up is (adds_at (at / 2) more cells (omega (arith, is.inside)))

  pub adding_numbers : (at : ℕ) (cells : List ℕ) → IsAdding old place more at cells → numbers_of cells ≡ set (numbers_of old) place (get_or (numbers_of old) place 0 + more)
  adding_numbers at cells is =
      let n : ℕ = length old / 2 in
      let same : length cells / 2 ≡ n = ap (λ (k : ℕ). k / 2) is.long in
      let value : ℕ = get_or (drop n old) place 0 + more in
      let long : length (set (drop n old) place value) ≡ length old - n = length-set (drop n old) place value ∙ length-drop n old in
      rw same (ext_get_or 0 (drop n cells) (set (drop n old) place value) (omega (arith, length-drop n cells, long, is.long))
      (λ i lt. rw (get_or-drop n cells i 0) (
      elim (cases_eq i place) [
        | inl here ↦
            let set_is = get_or-set_same (drop n old) place value 0 (omega (arith, length-drop n old, are.even, within)) in
            rw here (omega (arith, set_is, is.number, get_or-drop n old place 0))
        | inr other ↦
            let set_is = get_or-set_other (drop n old) place i value 0 other in
            omega (arith, set_is, is.others (n + i) (omega arith) (λ e. other (omega (arith, e))), get_or-drop n old i 0)
      ])))
