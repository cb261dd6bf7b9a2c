-- Laws of sums of which only the changes are held.
use Rattle.std.proofs.Common.{◌≡◌, ◌≤◌, ◌<◌, ◌+◌, ◌-◌, ◌%◌, ◌^◌, ◌∙◌, ℕ, List, [], ◌∷◌, get_or, set, length, replicate, refl, sym, ap, subst, arith, add-one, inl, inr, zero, suc}
use Rattle.std.proofs.lemmas.Bool.{cases_lt}
use Rattle.std.proofs.lemmas.List.{length-set, get_or-set_same, get_or-set_other}
use Rattle.line_sums.specs.inside.RunningSums.{sums_from}

-- the sum before a place
abbrev pub sum_before : ℕ → List ℕ → ℕ → ℕ
sum_before sum changes zero = sum
sum_before sum [] (suc place) = sum
sum_before sum (change ∷ changes) (suc place) = sum_before ((sum + change) % 2 ^ 64) changes place

before_suc : (sum : ℕ) (changes : List ℕ) (place d : ℕ) → place < length changes → sum_before sum changes (suc place) ≡ (sum_before sum changes place + get_or changes place d) % 2 ^ 64
before_suc sum [] place d h = absurd (omega arith)
before_suc sum (change ∷ changes) zero d h = refl
before_suc sum (change ∷ changes) (suc place) d h = before_suc ((sum + change) % 2 ^ 64) changes place d (omega arith)

sum_suc : (sum : ℕ) (changes : List ℕ) (place : ℕ) → place < length changes → get_or (sums_from sum changes) place 0 ≡ sum_before sum changes (suc place)
sum_suc sum [] place h = absurd (omega arith)
sum_suc sum (change ∷ changes) zero h = refl
sum_suc sum (change ∷ changes) (suc place) h = sum_suc ((sum + change) % 2 ^ 64) changes place (omega arith)

-- the sum before a place and its change are the sum at it, which is the sum before the next
module _ (changes : List ℕ) (place sum change : ℕ) (within : place < length changes) (sum_is : sum ≡ sum_before 0 changes place) (change_is : change ≡ get_or changes place change) where
  pub sum_here : get_or (sums_from 0 changes) place 0 ≡ (sum + change) % 2 ^ 64
  sum_here = omega (arith, sum_suc 0 changes place within, before_suc 0 changes place change within, sum_is, change_is)

  pub sum_next : (sum + change) % 2 ^ 64 ≡ sum_before 0 changes (place + 1)
  sum_next = rw add-one (omega (arith, before_suc 0 changes place change within, sum_is, change_is))

-- what is so below a place and at it
pub one_more : (P : ℕ → Type 0) (place : ℕ) → ((other : ℕ) → other < place → P other) → P place → (other : ℕ) → other < place + 1 → P other
one_more P place below here other h =
    elim (cases_lt other place) [
      | inl less ↦ below other less
      | inr same ↦ let is : place ≡ other = omega arith in subst P is here
    ]

-- the first of the places below one with the least sum, and that sum
pub record IsLeastBelow (sums : List ℕ) (place first least : ℕ) : Type 0 where
  pub within : first < place
  pub is : least ≡ get_or sums first 0
  pub least_is : (other : ℕ) → other < place → least ≤ get_or sums other 0
  pub first_is : (other : ℕ) → other < first → least < get_or sums other 0

pub least_same : (sums : List ℕ) (place first least next : ℕ) → IsLeastBelow sums place first least → get_or sums place 0 ≡ next → least ≤ next → IsLeastBelow sums (place + 1) first least
least_same sums place first least next below is le = record {
  within = omega (arith, below.within);
  is = below.is;
  least_is = one_more (λ (other : ℕ). least ≤ get_or sums other 0) place below.least_is (omega (arith, is));
  first_is = below.first_is;
}

pub least_new : (sums : List ℕ) (place first least next : ℕ) → IsLeastBelow sums place first least → get_or sums place 0 ≡ next → next < least → IsLeastBelow sums (place + 1) place next
least_new sums place first least next below is less = record {
  within = omega arith;
  is = sym is;
  least_is = one_more (λ (other : ℕ). next ≤ get_or sums other 0) place (λ other h. let low = below.least_is other h in omega arith) (omega (arith, is));
  first_is = λ other h. let low = below.least_is other h in omega arith;
}

-- all changes up to a place, its own with them
abbrev pub change_to : List ℕ → ℕ → ℕ
change_to [] place = 0
change_to (change ∷ changes) zero = change
change_to (change ∷ changes) (suc place) = change + change_to changes place

sum_is : (sum : ℕ) (changes : List ℕ) (place : ℕ) → place < length changes → get_or (sums_from sum changes) place 0 ≡ (sum + change_to changes place) % 2 ^ 64
sum_is sum [] place h = absurd (omega arith)
sum_is sum (change ∷ changes) zero h = refl
sum_is sum (change ∷ changes) (suc place) h = let rest = sum_is ((sum + change) % 2 ^ 64) changes place (omega arith) in omega (arith, rest)

-- a change is set at or before a place
change_set : (changes : List ℕ) (at place value d : ℕ) → at ≤ place → at < length changes → change_to (set changes at value) place + get_or changes at d ≡ change_to changes place + value
change_set [] at place value d le h = absurd (omega arith)
change_set (change ∷ changes) zero zero value d le h = omega arith
change_set (change ∷ changes) zero (suc place) value d le h = omega arith
change_set (change ∷ changes) (suc at) zero value d le h = absurd (omega arith)
change_set (change ∷ changes) (suc at) (suc place) value d le h = let rest = change_set changes at place value d (omega arith) (omega arith) in omega (arith, rest)

-- a change is set after a place
change_kept : (changes : List ℕ) (at place value : ℕ) → place < at → change_to (set changes at value) place ≡ change_to changes place
change_kept [] at place value h = refl
change_kept (change ∷ changes) zero place value h = absurd (omega arith)
change_kept (change ∷ changes) (suc at) zero value h = refl
change_kept (change ∷ changes) (suc at) (suc place) value h = let rest = change_kept changes at place value (omega arith) in omega (arith, rest)

-- A number is added to one change and taken from a later one, in 64 bits.
module _ (changes mid new : List ℕ) (from to amount first second : ℕ) (order : from ≤ to) (within : to < length changes) (first_is : first ≡ get_or changes from first) (second_is : second ≡ get_or mid to second) (mid_is : mid ≡ set changes from ((first + amount) % 2 ^ 64)) (new_is : new ≡ set mid to ((second + (2 ^ 64 - amount)) % 2 ^ 64)) where
  mid_size : length mid ≡ length changes
  mid_size = ap length mid_is ∙ length-set changes from ((first + amount) % 2 ^ 64)

  new_size : length new ≡ length changes
  new_size = ap length new_is ∙ length-set mid to ((second + (2 ^ 64 - amount)) % 2 ^ 64) ∙ mid_size

  new_kept : (place : ℕ) → place < to → change_to new place ≡ change_to mid place
  new_kept place h = rw new_is (change_kept mid to place ((second + (2 ^ 64 - amount)) % 2 ^ 64) h)

  new_set : (place : ℕ) → to ≤ place → change_to new place + second ≡ change_to mid place + (second + (2 ^ 64 - amount)) % 2 ^ 64
  new_set place h =
      let is = change_set mid to place ((second + (2 ^ 64 - amount)) % 2 ^ 64) second h (omega (arith, mid_size)) in
      rw new_is (omega (arith, is, second_is))

  mid_kept : (place : ℕ) → place < from → change_to mid place ≡ change_to changes place
  mid_kept place h = rw mid_is (change_kept changes from place ((first + amount) % 2 ^ 64) h)

  mid_set : (place : ℕ) → from ≤ place → change_to mid place + first ≡ change_to changes place + (first + amount) % 2 ^ 64
  mid_set place h =
      let is = change_set changes from place ((first + amount) % 2 ^ 64) first h (omega arith) in
      rw mid_is (omega (arith, is, first_is))

  pub sum_added : (place : ℕ) → from ≤ place → place < to → get_or (sums_from 0 changes) place 0 + amount < 2 ^ 64 → get_or (sums_from 0 new) place 0 ≡ get_or (sums_from 0 changes) place 0 + amount
  sum_added place later h room =
      let old = sum_is 0 changes place (omega arith) in
      let now = sum_is 0 new place (omega (arith, new_size)) in
      omega (arith, old, now, room, new_kept place h, mid_set place later)

  pub sum_kept : (place : ℕ) → place < from → get_or (sums_from 0 new) place 0 ≡ get_or (sums_from 0 changes) place 0
  sum_kept place h =
      let old = sum_is 0 changes place (omega arith) in
      let now = sum_is 0 new place (omega (arith, new_size)) in
      omega (arith, old, now, new_kept place (omega arith), mid_kept place h)

  pub sum_after : amount < 2 ^ 64 → (place : ℕ) → to ≤ place → place < length changes → get_or (sums_from 0 new) place 0 ≡ get_or (sums_from 0 changes) place 0
  sum_after small place h inside =
      let old = sum_is 0 changes place inside in
      let now = sum_is 0 new place (omega (arith, new_size)) in
      omega (arith, old, now, new_set place h, mid_set place (omega arith))

-- the sums of no changes
pub sums_none : (count place : ℕ) → get_or (sums_from 0 (replicate count 0)) place 0 ≡ 0
sums_none zero place = refl
sums_none (suc count) zero = refl
sums_none (suc count) (suc place) = sums_none count place

-- the sums up to a place are written out, and now the one at it
pub totals_more : (totals sums : List ℕ) (place sum : ℕ) → place < length totals → ((other : ℕ) → other < place → get_or totals other 0 ≡ get_or sums other 0) → get_or sums place 0 ≡ sum → (other : ℕ) → other < place + 1 → get_or (set totals place sum) other 0 ≡ get_or sums other 0
totals_more totals sums place sum within below here other h =
    elim (cases_lt other place) [
      | inl less ↦ get_or-set_other totals place other sum 0 (λ e. omega arith) ∙ below other less
      | inr more ↦ let is : other ≡ place = omega arith in rw is (get_or-set_same totals place sum 0 within ∙ sym here)
    ]
