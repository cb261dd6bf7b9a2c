-- The places that were looked at under one line_range.
use Rattle.std.proofs.Common.{◌≡◌, ◌≤◌, ◌<◌, ◌+◌, ◌-◌, ◌∙◌, ◌⊎◌, ℕ, zero, suc, List, [], ◌∷◌, take, get_or, length, sym, subst, arith, Bool, true, false, inl, inr}
use Rattle.std.specs.Prelude.{All, if◌then◌else◌, nat_lt}
use Rattle.std.proofs.lemmas.Bool.{cases_lt, lt-ltb, true≢false}
use Rattle.std.proofs.lemmas.List.{get_or-take, get_or_default, length-take}
use Rattle.std.proofs.lemmas.List.Elements.{All-contains}
use Rattle.line_sums.specs.declared.count.CountedStep.{CountedStep}
use Rattle.line_sums.specs.Accepted.{IsAccepted}
use Rattle.line_sums.specs.Counting.{row_bytes}
use Rattle.line_sums.specs.Sums.{AreSummed, base_at}
use Rattle.check_lines.specs.inside.Looking.{AreLooked, IsFirstPlace, IsNextNumber, IsPlaceAccepted, IsStop, numbers_above}

-- NUMBERS ABOVE AN INDEX

kept_first : (P : ℕ → Type 0) (kept : Bool) (n : ℕ) (ns : List ℕ) → kept ≡ true → All P (if kept then n ∷ ns else ns) → P n
kept_first P true n ns is all = all 0 0 (omega arith)
kept_first P false n ns is all = absurd (true≢false (sym is))

kept_rest : (P : ℕ → Type 0) (kept : Bool) (n : ℕ) (ns : List ℕ) → All P (if kept then n ∷ ns else ns) → All P ns
kept_rest P true n ns all = λ k d lt. all (suc k) d (omega arith)
kept_rest P false n ns all = all

-- what all numbers above the index are, one at a place is
above_at : (P : ℕ → Type 0) (index : ℕ) (ns : List ℕ) → All P (numbers_above index ns) → (place : ℕ) → place < length ns → index < get_or ns place 0 → P (get_or ns place 0)
above_at P index [] all place lt more = absurd (omega arith)
above_at P index (n ∷ ns) all zero lt more = kept_first P (nat_lt index n) n (numbers_above index ns) (lt-ltb index n more) all
above_at P index (n ∷ ns) all (suc place) lt more = above_at P index ns (kept_rest P (nat_lt index n) n (numbers_above index ns) all) place (omega arith) more

-- where no number is above the index, none at a place is
none_above : (index : ℕ) (ns : List ℕ) → numbers_above index ns ≡ [] → (place : ℕ) → place < length ns → get_or ns place 0 ≤ index
none_above index ns none place lt =
    elim (cases_lt index (get_or ns place 0)) [
      | inl more ↦
          let nothing : All (λ n. n ≤ index) (numbers_above index ns) = subst (λ (z : List ℕ). All (λ n. n ≤ index) z) (sym none) (λ k d few. absurd (omega arith)) in
          above_at (λ n. n ≤ index) index ns nothing place lt more
      | inr few ↦ few
    ]

-- WHAT IS LOOKED AT

-- the places before one
pub front_size : (numbers : List ℕ) (failed : ℕ) → length numbers ≡ 256 → failed ≤ 256 → length (take failed numbers) ≡ failed
front_size numbers failed size within = omega (arith, length-take failed numbers, size)

module _ (range scale bytes : ℕ) (counted : List CountedStep) (numbers : List ℕ) where
  abbrev Accepted : ℕ → Type 0
  Accepted place = IsPlaceAccepted range scale bytes counted numbers place

  pub looked_none : (failed : ℕ) → failed ≤ 256 → (failed ≡ 256) ⊎ (length counted < get_or numbers failed 0) → AreLooked range scale bytes counted numbers 0 failed
  looked_none failed within bad = record {
    within = within;
    good = λ place before none. absurd (omega arith);
    stop = elim bad [ inl all ↦ inl all | inr more ↦ inr (λ a. omega (arith, a.within, more)) ];
  }

  -- a place whose number is the index is accepted exactly where its sum is large enough
  accepted_at : (sums : List ℕ) (index rest place : ℕ) → AreSummed range scale row_bytes counted index sums rest → index ≤ length counted → place < 256 → get_or numbers place 0 ≡ index → bytes ≤ get_or sums place 0 + rest → Accepted place
  accepted_at sums index rest place s inside lt is enough =
      subst (λ (x : ℕ). IsAccepted (base_at place) range scale 0 bytes counted x) (sym is) (record {
        within = inside;
        enough = λ n h.
            let low : get_or sums place 0 ≤ n = (s.least place lt).least n h in
            omega (arith, s.rest_is);
      })

  refused_at : (sums : List ℕ) (index rest place : ℕ) → AreSummed range scale row_bytes counted index sums rest → place < 256 → get_or numbers place 0 ≡ index → get_or sums place 0 + rest < bytes → Accepted place → ⊥
  refused_at sums index rest place s lt is short accepted =
      let a : IsAccepted (base_at place) range scale 0 bytes counted index = subst (λ (x : ℕ). IsAccepted (base_at place) range scale 0 bytes counted x) is accepted in
      let high = a.enough (get_or sums place 0) (s.least place lt).enough in
      omega (arith, high, s.rest_is)

  module _ (size : length numbers ≡ 256) (failed : ℕ) (within : failed ≤ 256) where
    abbrev Front : List ℕ
    Front = take failed numbers

    -- the places whose number is the index are looked at
    pub looked_at : (sums : List ℕ) (index rest missing new : ℕ) → AreLooked range scale bytes counted numbers index failed → AreSummed range scale row_bytes counted index sums rest → index ≤ length counted → missing ≡ bytes - rest → new ≤ length Front → ((place : ℕ) → place < new → get_or Front place 0 ≡ index → missing ≤ get_or sums place 0) → (new ≡ length Front) ⊎ ((get_or Front new 0 ≡ index) × (get_or sums new 0 < missing)) → AreLooked range scale bytes counted numbers (index + 1) new
    looked_at sums index rest missing new l s inside is order good bad =
        let front = front_size numbers failed size within in
        record {
          within = omega (arith, order, front);
          good = λ place before next.
              elim (cases_lt (get_or numbers place 0) index) [
                | inl less ↦ l.good place (omega (arith, order, front)) less
                | inr more ↦
                    let same : get_or numbers place 0 ≡ index = omega (arith, next) in
                    let enough = good place before (get_or-take failed numbers place 0 (omega (arith, order, front)) ∙ same) in
                    accepted_at sums index rest place s inside (omega (arith, order, front)) same (omega (arith, enough, is))
              ];
          stop = elim bad [
            | inl all ↦ subst (λ (x : ℕ). IsStop range scale bytes counted numbers x) (sym (all ∙ front)) l.stop
            | inr short ↦ (
                elim (cases_lt new failed) [
                  | inl less ↦ inr (refused_at sums index rest new s (omega arith) (sym (get_or-take failed numbers new 0 less) ∙ short.0) (omega (arith, short.1, is)))
                  | inr end ↦ (let all : failed ≡ new = omega (arith, order, front) in subst (λ (x : ℕ). IsStop range scale bytes counted numbers x) all l.stop)
                ]
                )
          ];
        }

    -- none has a number between the index and the next
    pub looked_next : (index next : ℕ) → AreLooked range scale bytes counted numbers (index + 1) failed → IsNextNumber index Front next → AreLooked range scale bytes counted numbers next failed
    looked_next index next l n = record {
      within = l.within;
      good = λ place before less.
          elim (cases_lt index (get_or numbers place 0)) [
            | inl more ↦
                let at = get_or-take failed numbers place 0 before in
                let most = above_at (λ k. next ≤ k) index Front n.least place (omega (arith, before, front_size numbers failed size within)) (omega (arith, at, more)) in
                absurd (omega (arith, at, most, less))
            | inr few ↦ l.good place before (omega (arith, few))
          ];
      stop = l.stop;
    }

    -- none has a number above the index
    pub looked_last : (index : ℕ) → AreLooked range scale bytes counted numbers (index + 1) failed → numbers_above index Front ≡ [] → IsFirstPlace range scale bytes counted numbers failed
    looked_last index l none = record {
      within = l.within;
      good = λ place before.
          let few = none_above index Front none place (omega (arith, before, front_size numbers failed size within)) in
          l.good place before (omega (arith, few, get_or-take failed numbers place 0 before));
      stop = l.stop;
    }

    -- the next number is no greater than the count, where none is
    pub next_inside : (index next count : ℕ) → IsNextNumber index Front next → ((place : ℕ) → place < failed → get_or numbers place 0 ≤ count) → next ≤ count
    next_inside index next count n few =
        All-contains (λ k. k ≤ count) Front next (λ k d lt.
        let inside : k < failed = omega (arith, lt, front_size numbers failed size within) in
        omega (arith, few k inside, get_or_default Front k d 0 lt, get_or-take failed numbers k 0 inside)) n.among
