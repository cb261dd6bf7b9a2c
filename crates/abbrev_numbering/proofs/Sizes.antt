-- The size of a numbering, over the used declarations in any order.
use Rattle.std.proofs.Common.{◌≡◌, ◌≢◌, ◌≤◌, ◌<◌, ◌+◌, ◌*◌, inl, inr, ℕ, zero, suc, ltb, List, [], ◌∷◌, ◌++◌, length, get_or, take, map, sym, ◌∙◌, refl, arith}
use Rattle.std.specs.List.{sum_by}
use Rattle.std.specs.List.Sorted.{IsPermutation}
use Rattle.std.proofs.lemmas.Bool.{cond_both, ltb-true, ltb-false}
use Rattle.std.proofs.lemmas.List.{take_more, take_all, length-take-le, length-map, get_or-map}
use Rattle.std.proofs.lemmas.List.Sums.{sum_by_push, sum_by-cons}
use Rattle.std.proofs.lemmas.List.Sorted.{sum_by-IsPermutation}
use Rattle.leb_codec.specs.Leb.{least_unsigned_len}
use Rattle.leb_codec.specs.Numbering.{IsNumbering, number_bytes, numbering_size}
use Rattle.abbrev_numbering.specs.inside.Order.{Used, used_at, used_among, place_at}
use Rattle.abbrev_numbering.proofs.Climbs.{cost, climb_cost, climb_is_least, cost_climb, Falls, falls_from}
use Rattle.abbrev_numbering.proofs.Orders.{no_use, Leads, places, used_place}

-- the bytes of a used declaration's number
abbrev used_bytes : List ℕ → Used → ℕ
used_bytes numbers e = (e.0.0 + 1) * least_unsigned_len (get_or numbers e.1 0)

size_push : (uses numbers : List ℕ) (u x : ℕ) → length uses ≡ length numbers → numbering_size (uses ++ u ∷ []) (numbers ++ x ∷ []) ≡ numbering_size uses numbers + number_bytes u x
size_push [] [] u x same = omega arith
size_push [] (y ∷ numbers) u x same = absurd (omega arith)
size_push (v ∷ uses) [] u x same = absurd (omega arith)
size_push (v ∷ uses) (y ∷ numbers) u x same = omega (arith, size_push uses numbers u x (omega arith))

bytes_used : (u x : ℕ) → 0 < u → number_bytes u x ≡ (u + 1) * least_unsigned_len x
bytes_used zero x some = absurd (omega arith)
bytes_used (suc u) x some = refl

bytes_unused : (u x : ℕ) → u ≤ 0 → number_bytes u x ≡ 0
bytes_unused zero x none = refl
bytes_unused (suc u) x none = absurd (omega arith)

size_front : (uses numbers : List ℕ) (n : ℕ) → length uses ≡ length numbers → n ≤ length uses → numbering_size (take n uses) (take n numbers) ≡ sum_by (used_bytes numbers) (used_among uses n)
size_front uses numbers zero same within = refl
size_front uses numbers (suc n) same within =
    let before = size_front uses numbers n same (omega arith) in
    let next : n + 1 ≡ suc n = omega arith in
    let u : ℕ = get_or uses n 0 in
    let x : ℕ = get_or numbers n 0 in
    let left : take (suc n) uses ≡ take n uses ++ u ∷ [] = rw next at (take_more uses n 0 (omega arith)) in
    let right : take (suc n) numbers ≡ take n numbers ++ x ∷ [] = rw next at (take_more numbers n 0 (omega arith)) in
    let long : length (take n uses) ≡ length (take n numbers) = omega (arith, length-take-le n uses (omega arith), length-take-le n numbers (omega arith)) in
    let push = size_push (take n uses) (take n numbers) u x long in
    rw (left, right)
    (cond_both (ltb 0 u) (used_among uses n ++ used_at uses n ∷ []) (used_among uses n) (λ zs. numbering_size (take n uses ++ u ∷ []) (take n numbers ++ x ∷ []) ≡ sum_by (used_bytes numbers) zs)
    (λ test. omega (arith, push, before, bytes_used u x (ltb-true 0 u test), sum_by_push (used_bytes numbers) (used_among uses n) (used_at uses n)))
    (λ test. omega (arith, push, before, bytes_unused u x (ltb-false 0 u test))))

-- weights and numbers in an order
abbrev weight : Used → ℕ
weight e = e.0.0 + 1

abbrev number_of : List ℕ → Used → ℕ
number_of numbers e = get_or numbers e.1 0

cost_sum : (numbers : List ℕ) (order : List Used) → cost least_unsigned_len (map weight order) (map (number_of numbers) order) ≡ sum_by (used_bytes numbers) order
cost_sum numbers [] = refl
cost_sum numbers (e ∷ order) = omega (arith, cost_sum numbers order, sum_by-cons (used_bytes numbers) e order)

module _ (uses : List ℕ) (order : List Used) (moved : IsPermutation (used_among uses (length uses)) order) where
  -- a numbering's size is what it costs in this order
  pub size_cost : (numbers : List ℕ) → length numbers ≡ length uses → numbering_size uses numbers ≡ cost least_unsigned_len (map weight order) (map (number_of numbers) order)
  size_cost numbers long =
      let whole = size_front uses numbers (length uses) (sym long) (omega arith) in
      let whole' = rw (take_all (length uses) uses (omega arith), take_all (length uses) numbers (omega arith)) at whole in
      whole' ∙ sym (sum_by-IsPermutation (used_bytes numbers) (used_among uses (length uses)) order moved) ∙ sym (cost_sum numbers order)

  module _ (rises : (v w : ℕ) → v ≤ w → least_unsigned_len v ≤ least_unsigned_len w) (up : (k l : ℕ) → k ≤ l → l < length order → Leads order k l) where
    falling : Falls (get_or (map weight order) 0 0) (map weight order)
    falling =
        falls_from (get_or (map weight order) 0 0) (map weight order) (λ _. omega arith)
        (λ k l.
        let inside : suc k < length order = omega (arith, length-map order weight) in
        rw (get_or-map weight order (suc k) no_use 0 inside, get_or-map weight order k no_use 0 (omega arith))
        (elim (up k (suc k) (omega arith) inside) [ inl more ↦ omega arith | inr tie ↦ omega (arith, tie.0) ]))

    -- numbers that rise in this order from 1 on make the least numbering
    pub size_least : (numbers other : List ℕ) → length numbers ≡ length uses → ((k : ℕ) → k < length order → get_or numbers (place_at order k) 0 ≡ k + 1) → IsNumbering uses other → numbering_size uses numbers ≤ numbering_size uses other
    size_least numbers other long each member =
        let ws : List ℕ = map weight order in
        let mine : List ℕ = map (number_of numbers) order in
        let theirs : List ℕ = map (number_of other) order in
        let at_mine : (k : ℕ) → k < length order → get_or mine k 0 ≡ get_or numbers (place_at order k) 0 = λ k l. get_or-map (number_of numbers) order k no_use 0 l in
        let at_theirs : (k : ℕ) → k < length order → get_or theirs k 0 ≡ get_or other (place_at order k) 0 = λ k l. get_or-map (number_of other) order k no_use 0 l in
        let long_mine : length mine ≡ length order = length-map order (number_of numbers) in
        let long_theirs : length theirs ≡ length order = length-map order (number_of other) in
        let long_ws : length ws ≡ length order = length-map order weight in
        let climb : cost least_unsigned_len ws mine ≡ climb_cost least_unsigned_len 0 ws = cost_climb least_unsigned_len rises 0 ws mine (long_mine ∙ sym long_ws) (λ k l. omega (arith, at_mine k (omega arith), each k (omega arith))) in
        let positive : (k : ℕ) → k < length theirs → 0 < get_or theirs k 0 = λ k l. omega (arith, at_theirs k (omega arith), member.positive (place_at order k) (used_place uses order moved k (omega arith))) in
        let differ : (k l : ℕ) → k < l → l < length theirs → get_or theirs k 0 ≢ get_or theirs l 0 = λ k l m o same.
        (places uses order moved).apart k l m (omega arith)
        (member.one_to_one (place_at order k) (place_at order l) (used_place uses order moved k (omega arith)) (used_place uses order moved l (omega arith))
        (omega (arith, at_theirs k (omega arith), at_theirs l (omega arith), same))) in
        let least = climb_is_least least_unsigned_len rises ws theirs (long_theirs ∙ sym long_ws) falling positive differ in
        omega (arith, size_cost numbers long, size_cost other member.same_length, climb, least)
