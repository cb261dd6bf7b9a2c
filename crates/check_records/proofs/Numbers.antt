-- Numbers below a count of which something holds, rising.
use Rattle.std.proofs.Common.{◌≡◌, ◌<◌, ◌+◌, ◌∙◌, inl, inr, ℕ, zero, suc, List, [], ◌∷◌, ◌++◌, length, get_or, ap, subst, refl, arith}
use Rattle.std.specs.List.{All}
use Rattle.std.proofs.lemmas.Bool.{cases_lt}
use Rattle.std.proofs.lemmas.List.{length_push, get_or_push, get_or_append_left}
use Rattle.std.proofs.lemmas.List.Elements.{All-nil, All-push, All-weaker}
use Rattle.written_files.specs.Layouts.{AreNumbersOf}
use Rattle.check_records.specs.Parts.{numbers_below}

-- ONE AFTER THE OTHER

module _ (Those : ℕ → Type 0) where
  pub numbers_none : AreNumbersOf Those 0 []
  numbers_none = record { rising = λ i j less inside. absurd (omega (arith, inside)); those = All-nil (λ (k : ℕ). (k < 0) × Those k); all = λ k below is. absurd (omega (arith, below)) }

  module _ (count : ℕ) (numbers : List ℕ) (are : AreNumbersOf Those count numbers) where
    below_more : All (λ (k : ℕ). (k < count + 1) × Those k) numbers
    below_more i d less = let one = are.those i d less in (let below = one.0 in omega (arith, below), one.1)

    -- the next one is one of those
    pub numbers_more : Those count → AreNumbersOf Those (count + 1) (numbers ++ count ∷ [])
    numbers_more is = record {
      rising = λ i j less inside. elim (cases_lt j (length numbers)) [
        | inl early ↦
            let first : get_or (numbers ++ count ∷ []) i 0 ≡ get_or numbers i 0 = get_or_append_left numbers (count ∷ []) 0 i (omega (arith, less, early)) in
            let second : get_or (numbers ++ count ∷ []) j 0 ≡ get_or numbers j 0 = get_or_append_left numbers (count ∷ []) 0 j early in
            omega (arith, first, second, are.rising i j less early)
        | inr late ↦
            let end : length numbers ≡ j = omega (arith, late, inside, length_push numbers count) in
            let here : i < length numbers = omega (arith, less, end) in
            let first : get_or (numbers ++ count ∷ []) i 0 ≡ get_or numbers i 0 = get_or_append_left numbers (count ∷ []) 0 i here in
            let second : get_or (numbers ++ count ∷ []) j 0 ≡ count = get_or_push numbers count 0 j end in
            omega (arith, first, second, (are.those i 0 here).0)
      ];
      those = All-push (λ (k : ℕ). (k < count + 1) × Those k) numbers count below_more (omega arith, is);
      all = λ k below those. elim (cases_lt k count) [
        | inl early ↦ (let (i, inside, same) = are.all k early those in (i, omega (arith, inside, length_push numbers count), get_or_append_left numbers (count ∷ []) k i inside ∙ same))
        | inr late ↦ (let same : count ≡ k = omega (arith, below, late) in (length numbers, omega (arith, length_push numbers count), get_or_push numbers count k (length numbers) refl ∙ same))
      ];
    }

    -- or it isn't
    pub numbers_still : (Those count → ⊥) → AreNumbersOf Those (count + 1) numbers
    numbers_still other = record {
      rising = are.rising;
      those = below_more;
      all = λ k below those. elim (cases_lt k count) [
        | inl early ↦ are.all k early those
        | inr late ↦ absurd (other (subst Those (omega (arith, below, late)) those))
      ];
    }

-- AS A WHOLE

-- numbers of which the same holds
pub numbers_of : (Those Others : ℕ → Type 0) (count other : ℕ) → count ≡ other → ((k : ℕ) → k < count → Those k → Others k) → ((k : ℕ) → k < other → Others k → Those k) → (numbers : List ℕ) → AreNumbersOf Those count numbers → AreNumbersOf Others other numbers
numbers_of Those Others count other same to from numbers are = record {
  rising = are.rising;
  those = λ i d inside. (let one = are.those i d inside in (omega (arith, one.0, same), to (get_or numbers i d) one.0 one.1));
  all = λ k below is. are.all k (omega (arith, below, same)) (from k below is);
}

-- ALL NUMBERS BELOW A COUNT

pub below_length : (n : ℕ) → length (numbers_below n) ≡ n
below_length zero = refl
below_length (suc n) = let front : length (numbers_below n) ≡ n = below_length n in omega (arith, front, length_push (numbers_below n) n)

pub below_next : (n : ℕ) → numbers_below (n + 1) ≡ numbers_below n ++ n ∷ []
below_next n = let same : n + 1 ≡ suc n = omega arith in ap numbers_below same

pub below_all : (n : ℕ) → All (λ (k : ℕ). k < n) (numbers_below n)
below_all zero = All-nil (λ (k : ℕ). k < 0)
below_all (suc n) = All-push (λ (k : ℕ). k < suc n) (numbers_below n) n (All-weaker (λ (k : ℕ). k < n) (λ (k : ℕ). k < suc n) (λ k less. omega (arith, less)) (numbers_below n) (below_all n)) (omega arith)
