-- Places are sums of sizes.
use Rattle.std.proofs.Common.{◌≡◌, ◌≤◌, ◌<◌, ◌+◌, ℕ, zero, suc, List, [], ◌∷◌, length, get_or, take, drop, ap, refl, arith, ◌∙◌}
use Rattle.spelled.proofs.Parts.{take_sum}
use Rattle.expr_ops.specs.Drafts.{total, starts_from}
use Rattle.expr_ops.proofs.NestLaws.{total_append, total_take}

pub starts_next : (place : ℕ) (sizes : List ℕ) (k : ℕ) → k < length sizes → get_or (starts_from place sizes) (suc k) 0 ≡ get_or (starts_from place sizes) k 0 + get_or sizes k 0
starts_next place [] k lt = absurd (omega (arith, lt))
starts_next place (size ∷ []) zero lt = refl
starts_next place (size ∷ other ∷ sizes) zero lt = refl
starts_next place (size ∷ sizes) (suc k) lt = starts_next (place + size) sizes k (omega (arith, lt))

pub starts_sum : (place : ℕ) (sizes : List ℕ) (k : ℕ) → k ≤ length sizes → get_or (starts_from place sizes) k 0 ≡ place + total (take k sizes)
starts_sum place [] zero h = omega arith
starts_sum place [] (suc k) h = absurd (omega (arith, h))
starts_sum place (size ∷ sizes) zero h = omega arith
starts_sum place (size ∷ sizes) (suc k) h = let e = starts_sum (place + size) sizes k (omega (arith, h)) in omega (arith, e)

-- from one place to another are the sizes between them
pub range_sum : (sizes : List ℕ) (first count : ℕ) → first + count ≤ length sizes → get_or (starts_from 0 sizes) (first + count) 0 ≡ get_or (starts_from 0 sizes) first 0 + total (take count (drop first sizes))
range_sum sizes first count h =
    let from = starts_sum 0 sizes first (omega (arith, h)) in
    let to = starts_sum 0 sizes (first + count) h in
    let split : total (take (first + count) sizes) ≡ total (take first sizes) + total (take count (drop first sizes)) = ap total (take_sum first count sizes) ∙ total_append (take first sizes) (take count (drop first sizes)) in
    omega (arith, from, to, split)

-- some of them are no more than all
pub some_total : (sizes : List ℕ) (first count : ℕ) → total (take count (drop first sizes)) ≤ total sizes
some_total sizes zero count = total_take count sizes
some_total [] (suc first) count = total_take count []
some_total (size ∷ sizes) (suc first) count = let h = some_total sizes first count in omega (arith, h)
