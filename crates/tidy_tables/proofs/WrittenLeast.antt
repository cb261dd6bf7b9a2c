-- A least numbering of declarations is a least one of the used ones alone, in the order of their numbers.
use Rattle.std.proofs.Common.{◌≡◌, ◌≤◌, ◌<◌, ◌+◌, ◌-◌, ◌^◌, inl, inr, ◌∙◌, ℕ, List, length, get_or, ap, sym, subst, refl, arith}
use Rattle.std.specs.Prelude.{slice_index}
use Rattle.std.specs.List.{Contains, sum_by}
use Rattle.std.specs.List.Sorted.{IsPermutation}
use Rattle.std.proofs.lemmas.Bool.{cases_lt}
use Rattle.std.proofs.lemmas.List.{get_or_default}
use Rattle.std.proofs.lemmas.List.Sorted.{sum_by-IsPermutation}
use Rattle.leb_codec.specs.Numbering.{IsUsed, IsNumbering, IsLeastNumbering, number_bytes, numbering_size, used_count}
use Rattle.tidy_tables.proofs.WrittenLists.{AreChosen, chosen, same_members}
use Rattle.tidy_tables.proofs.WrittenNumbers.{used_from, used_there, used_differ, used_size, size_used, size_listed}

-- the old place of the one that is written at a place is used, and has the number behind this place
pub record IsSource (uses numbers : List ℕ) (k i : ℕ) : Type 0 where
  pub used : IsUsed uses i
  pub number : slice_index numbers i ≡ k + 1

-- The used ones have the numbers from 1 on, up to how many they are.
pub record AreNumbered (uses numbers : List ℕ) (n : ℕ) : Type 0 where
  pub numbered : IsNumbering uses numbers
  pub count : n ≡ used_count uses
  pub source : (k : ℕ) → k < n → (i : ℕ) × IsSource uses numbers k i
  pub within : (i : ℕ) → IsUsed uses i → slice_index numbers i ≤ n

module _ (uses numbers : List ℕ) (n : ℕ) (are : AreNumbered uses numbers n) where
  -- one has a source only
  pub one_source : (k i j : ℕ) → IsSource uses numbers k i → IsSource uses numbers k j → i ≡ j
  one_source k i j a b = are.numbered.one_to_one i j a.used b.used (a.number ∙ sym b.number)

  -- each used one is a source
  pub is_source : (i : ℕ) → IsUsed uses i → (k : ℕ) × (k < n) × IsSource uses numbers k i
  is_source i used =
      let some : 1 ≤ get_or numbers i 0 = are.numbered.positive i used in
      let most : get_or numbers i 0 ≤ n = are.within i used in
      (get_or numbers i 0 - 1, omega arith, record { used = used; number = omega arith })

  -- the sources in their order
  pub sources : AreChosen (IsSource uses numbers) n
  sources = chosen (IsSource uses numbers) n are.source

  abbrev pub listed : List ℕ
  listed = sources.numbers

  pub listed_size : length listed ≡ n
  listed_size = sources.size

  pub listed_each : (k : ℕ) → k < n → IsSource uses numbers k (get_or listed k 0)
  listed_each = sources.each

  -- they are the used ones in another order
  pub rearranged : IsPermutation (used_from 0 uses) listed
  rearranged = same_members (used_from 0 uses) listed (used_differ 0 uses) (let count = are.count in let size = listed_size in let used = used_size 0 uses in omega arith) within
    where
      within : (z : ℕ) → Contains (used_from 0 uses) z → Contains listed z
      within z among =
          let (i, place, used) = used_there 0 uses z among in
          let (k, inside, source) = is_source i used in
          let here : get_or listed k 0 ≡ i = one_source k (get_or listed k 0) i (listed_each k inside) source in
          let there : get_or listed k z ≡ get_or listed k 0 = get_or_default listed k z 0 (let size = listed_size in omega arith) in
          (k, (let size = listed_size in omega arith), there ∙ here ∙ (let e : i ≡ z = omega arith in e))

  module _ (news : List ℕ) (size : length news ≡ n) (same : (k i : ℕ) → k < n → IsSource uses numbers k i → slice_index news k ≡ slice_index uses i) where
    -- numbers of the used ones take as many bytes as those that they are in the new order
    same_size : (others written : List ℕ) → length others ≡ length uses → length written ≡ n → ((k i : ℕ) → k < n → IsSource uses numbers k i → slice_index written k ≡ slice_index others i) → numbering_size uses others ≡ numbering_size news written
    same_size others written long wide each =
        let bytes : ℕ → ℕ = λ j. number_bytes (get_or uses j 0) (get_or others j 0) in
        let before : numbering_size uses others ≡ sum_by bytes (used_from 0 uses) = size_used 0 uses others bytes long (λ k inside. ap bytes (let e : 0 + k ≡ k = omega arith in e)) in
        let after : numbering_size news written ≡ sum_by bytes listed =
        size_listed news written listed bytes (omega arith) (listed_size ∙ sym size) (λ k inside.
        let source = listed_each k (omega arith) in
        let uses_are : get_or news k 0 ≡ get_or uses (get_or listed k 0) 0 = same k (get_or listed k 0) (omega arith) source in
        let number : get_or written k 0 ≡ get_or others (get_or listed k 0) 0 = each k (get_or listed k 0) (omega arith) source in
        ap (λ (z : ℕ). number_bytes z (get_or others (get_or listed k 0) 0)) (sym uses_are) ∙ ap (number_bytes (get_or news k 0)) (sym number)) in
        before ∙ sym (sum_by-IsPermutation bytes (used_from 0 uses) listed rearranged) ∙ sym after

    -- a new one is used
    used_again : (k i : ℕ) → k < n → IsSource uses numbers k i → IsUsed news k
    used_again k i inside source =
        let uses_are : get_or news k 0 ≡ get_or uses i 0 = same k i inside source in
        let some : 0 < get_or uses i 0 = source.used.some in
        record { inside = omega arith; some = omega arith }

    -- other numbers of the new ones, as numbers of the old ones
    abbrev IsCarried : List ℕ → ℕ → ℕ → Type 0
    IsCarried other i x = (IsUsed uses i → x ≡ get_or other (get_or numbers i 0 - 1) 0) × (get_or uses i 0 ≡ 0 → x ≡ 0)

    carried : (other : List ℕ) → AreChosen (IsCarried other) (length uses)
    carried other = chosen (IsCarried other) (length uses) (λ i inside. elim (cases_lt 0 (get_or uses i 0)) [
      | inl some ↦ (get_or other (get_or numbers i 0 - 1) 0, (λ used. refl, λ none. absurd (omega arith)))
      | inr none ↦ (0, (λ used. absurd (let some = used.some in omega arith), λ unused. refl))
    ])

    carried_numbering : (other : List ℕ) → IsNumbering news other → IsNumbering uses (carried other).numbers
    carried_numbering other member = record {
      same_length = made.size;
      unused = λ i inside none. (made.each i inside).1 none;
      positive = λ i used. (let (k, there, is, again) = at i used in let some : 1 ≤ get_or other k 0 = member.positive k again in omega arith);
      narrow = λ i used. (let (k, there, is, again) = at i used in subst (λ (z : ℕ). z < 2 ^ 64) (sym is) (member.narrow k again));
      one_to_one = λ i j used also alike.
          let (k, there, is, again) = at i used in
          let (l, here, has, also_again) = at j also in
          let places : k ≡ l = member.one_to_one k l again also_again (sym is ∙ alike ∙ has) in
          one_source k i j there (subst (λ (z : ℕ). IsSource uses numbers z j) (sym places) here);
    }
      where
        made : AreChosen (IsCarried other) (length uses)
        made = carried other

        at : (i : ℕ) → IsUsed uses i → (k : ℕ) × IsSource uses numbers k i × (get_or made.numbers i 0 ≡ get_or other k 0) × IsUsed news k
        at i used =
            let (k, inside, source) = is_source i used in
            let number : get_or numbers i 0 ≡ k + 1 = source.number in
            let place : get_or numbers i 0 - 1 ≡ k = omega arith in
            (k, source, (made.each i used.inside).0 used ∙ ap (λ (z : ℕ). get_or other z 0) place, used_again k i inside source)

    -- where the old numbers take the fewest bytes, the numbers from 1 on do for the new ones
    pub still_least : (codes : List ℕ) → length codes ≡ n → ((k : ℕ) → k < n → slice_index codes k ≡ k + 1) → ((other : List ℕ) → IsNumbering uses other → numbering_size uses numbers ≤ numbering_size uses other) → IsLeastNumbering news codes
    still_least codes wide code least = record {
      member = record {
        same_length = wide ∙ sym size;
        unused = λ k inside none.
            let (i, source) = are.source k (omega arith) in
            let again = used_again k i (omega arith) source in
            absurd (let some : 0 < get_or news k 0 = again.some in omega arith);
        positive = λ k used. (let is = code k (let inside = used.inside in omega arith) in omega arith);
        narrow = λ k used.
            let inside : k < n = (let there = used.inside in omega arith) in
            let (i, source) = are.source k inside in
            subst (λ (z : ℕ). z < 2 ^ 64) (source.number ∙ sym (code k inside)) (are.numbered.narrow i source.used);
        one_to_one = λ k l used also alike.
            let one = code k (let there = used.inside in omega arith) in
            let other = code l (let there = also.inside in omega arith) in
            omega arith;
      };
      least = λ other member.
          let first : numbering_size uses numbers ≡ numbering_size news codes =
          same_size numbers codes are.numbered.same_length wide (λ k i inside source. code k inside ∙ sym source.number) in
          let second : numbering_size uses (carried other).numbers ≡ numbering_size news other =
          same_size (carried other).numbers other (carried other).size (member.same_length ∙ size) (λ k i inside source.
          let number : get_or numbers i 0 ≡ k + 1 = source.number in
          let place : get_or numbers i 0 - 1 ≡ k = omega arith in
          sym (((carried other).each i source.used.inside).0 source.used ∙ ap (λ (z : ℕ). get_or other z 0) place)) in
          let fewer : numbering_size uses numbers ≤ numbering_size uses (carried other).numbers = least (carried other).numbers (carried_numbering other member) in
          omega arith;
    }
