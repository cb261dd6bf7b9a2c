-- The steps of slots.
use Rattle.std.proofs.Common.{◌≡◌, ◌≢◌, ◌≤◌, ◌<◌, ◌+◌, ◌-◌, ℕ, zero, suc, Bool, true, false, cond, eqb, ltb, List, [], ◌∷◌, ◌++◌, length, get_or, take, append_assoc, append-nil, sym, ap, ◌∙◌, refl, subst, arith}
use Rattle.std.specs.Prelude.{count_by, slice_range}
use Rattle.std.specs.List.{All, Contains}
use Rattle.std.proofs.lemmas.Bool.{eq-eqb, ne_eqb}
use Rattle.std.proofs.lemmas.List.{length-take-le, take_more}
use Rattle.std.proofs.lemmas.List.Sums.{sum_by-cons, sum_by-append}
use Rattle.std.proofs.lemmas.List.Elements.{All-append, All-cons, Contains-append_left, Contains-append_right}
use Rattle.check_units.specs.declared.steps.Step.{Step}
use Rattle.check_units.specs.inside.Dealing.{steps_from, steps_of, pieces}
use Rattle.check_units.proofs.DealLaws.{piece_at, piece_count}

-- ---- made slot by slot

pub steps_push : (i k : ℕ) (ranks : List ℕ) (rank : ℕ) → steps_from i k (ranks ++ rank ∷ []) ≡ steps_from i k ranks ++ record { rank = rank; slot = i; number = k + length ranks } ∷ []
steps_push i k [] rank = let e : k ≡ k + 0 = omega arith in ap (λ (n : ℕ). record { rank = rank; slot = i; number = n } ∷ []) e
steps_push i k (r ∷ ranks) rank =
    let e : suc k + length ranks ≡ k + suc (length ranks) = omega arith in
    let first : Step = record { rank = r; slot = i; number = k } in
    ap (λ (steps : List Step). first ∷ steps) (steps_push i (suc k) ranks rank ∙ ap (λ (n : ℕ). steps_from i (suc k) ranks ++ record { rank = rank; slot = i; number = n } ∷ []) e)

pub steps_of_push : (j : ℕ) (lists : List (List ℕ)) (ranks : List ℕ) → steps_of j (lists ++ ranks ∷ []) ≡ steps_of j lists ++ steps_from (j + length lists) 0 ranks
steps_of_push j [] ranks = let e : j ≡ j + 0 = omega arith in append-nil (steps_from j 0 ranks) ∙ ap (λ (n : ℕ). steps_from n 0 ranks) e
steps_of_push j (l ∷ lists) ranks =
    let e : suc j + length lists ≡ j + suc (length lists) = omega arith in
    ap (λ (steps : List Step). steps_from j 0 l ++ steps) (steps_of_push (suc j) lists ranks ∙ ap (λ (n : ℕ). steps_of (suc j) lists ++ steps_from n 0 ranks) e) ∙ sym (append_assoc (steps_from j 0 l) (steps_of (suc j) lists) (steps_from (j + length (l ∷ lists)) 0 ranks))

pub push_next : (slot n : ℕ) (own : List ℕ) (first old new : List Step) → n < length own → old ≡ first ++ steps_from slot 0 (take n own) → new ≡ old ++ record { rank = get_or own n 0; slot = slot; number = n } ∷ [] → new ≡ first ++ steps_from slot 0 (take (n + 1) own)
push_next slot n own first old new inside is next =
    let size : 0 + length (take n own) ≡ n = omega (arith, length-take-le n own (omega arith)) in
    let more : steps_from slot 0 (take (n + 1) own) ≡ steps_from slot 0 (take n own) ++ record { rank = get_or own n 0; slot = slot; number = n } ∷ [] = rw (take_more own n 0 inside) (steps_push slot 0 (take n own) (get_or own n 0) ∙ ap (λ (m : ℕ). steps_from slot 0 (take n own) ++ record { rank = get_or own n 0; slot = slot; number = m } ∷ []) size) in
    rw more (next ∙ ap (λ (steps : List Step). steps ++ record { rank = get_or own n 0; slot = slot; number = n } ∷ []) is ∙ append_assoc first (steps_from slot 0 (take n own)) (record { rank = get_or own n 0; slot = slot; number = n } ∷ []))

pub pieces_next : (ranks starts : List ℕ) (i : ℕ) (old new : List Step) → i + 1 < length starts → old ≡ steps_of 0 (take i (pieces ranks starts)) → new ≡ old ++ steps_from i 0 (slice_range ranks (get_or starts i 0) (get_or starts (i + 1) 0)) → new ≡ steps_of 0 (take (i + 1) (pieces ranks starts))
pieces_next ranks starts i old new inside is next =
    let own : List ℕ = slice_range ranks (get_or starts i 0) (get_or starts (i + 1) 0) in
    let front : List (List ℕ) = take i (pieces ranks starts) in
    let within : i < length (pieces ranks starts) = omega (arith, piece_count ranks starts) in
    let size : 0 + length front ≡ i = omega (arith, length-take-le i (pieces ranks starts) (omega arith)) in
    let more : take (i + 1) (pieces ranks starts) ≡ front ++ own ∷ [] = take_more (pieces ranks starts) i [] within ∙ ap (λ (l : List ℕ). front ++ l ∷ []) (piece_at ranks starts i inside) in
    let all : steps_of 0 (take (i + 1) (pieces ranks starts)) ≡ steps_of 0 front ++ steps_from i 0 own = ap (steps_of 0) more ∙ steps_of_push 0 front own ∙ ap (λ (m : ℕ). steps_of 0 front ++ steps_from m 0 own) size in
    next ∙ ap (λ (steps : List Step). steps ++ steps_from i 0 own) is ∙ sym all

-- ---- what each of them is

-- a step is that with its number among the ranks of its slot, of which the first is j
pub record IsStepOf (j : ℕ) (lists : List (List ℕ)) (step : Step) : Type 0 where
  pub from : j ≤ step.slot
  pub there : step.slot < j + length lists
  pub inside : step.number < length (get_or lists (step.slot - j) [])
  pub rank_is : step.rank ≡ get_or (get_or lists (step.slot - j) []) step.number 0

-- a step of one slot
record IsOwnStep (i k : ℕ) (ranks : List ℕ) (step : Step) : Type 0 where
  slot_is : step.slot ≡ i
  from : k ≤ step.number
  inside : step.number < k + length ranks
  rank_is : step.rank ≡ get_or ranks (step.number - k) 0

own_step : (i k : ℕ) (ranks : List ℕ) → All (IsOwnStep i k ranks) (steps_from i k ranks)
own_step i k [] = λ p d lt. absurd (omega arith)
own_step i k (rank ∷ ranks) =
    let rest : All (IsOwnStep i (suc k) ranks) (steps_from i (suc k) ranks) = own_step i (suc k) ranks in
    let wider : All (IsOwnStep i k (rank ∷ ranks)) (steps_from i (suc k) ranks) = λ p d lt.
    let is = rest p d lt in
    let step : Step = get_or (steps_from i (suc k) ranks) p d in
    let e : step.number - k ≡ suc (step.number - suc k) = omega (arith, is.from) in
    record {
      slot_is = is.slot_is;
      from = omega (arith, is.from);
      inside = omega (arith, is.inside);
      rank_is = rw e is.rank_is;
    } in
    let here : k - k ≡ 0 = omega arith in
    All-cons (IsOwnStep i k (rank ∷ ranks)) (record { rank = rank; slot = i; number = k }) (steps_from i (suc k) ranks)
    (record { slot_is = refl; from = omega arith; inside = omega arith; rank_is = rw here refl }) wider

pub step_of : (j : ℕ) (lists : List (List ℕ)) → All (IsStepOf j lists) (steps_of j lists)
step_of j [] = λ p d lt. absurd (omega arith)
step_of j (ranks ∷ lists) =
    let own : All (IsStepOf j (ranks ∷ lists)) (steps_from j 0 ranks) = λ p d lt.
    let is = own_step j 0 ranks p d lt in
    let step : Step = get_or (steps_from j 0 ranks) p d in
    let e : step.slot - j ≡ 0 = omega (arith, is.slot_is) in
    let n : step.number - 0 ≡ step.number = omega arith in
    record {
      from = omega (arith, is.slot_is);
      there = omega (arith, is.slot_is);
      inside = rw e (omega (arith, is.inside));
      rank_is = rw e (let h = rw n at is.rank_is in h);
    } in
    let rest : All (IsStepOf j (ranks ∷ lists)) (steps_of (suc j) lists) = λ p d lt.
    let is = step_of (suc j) lists p d lt in
    let step : Step = get_or (steps_of (suc j) lists) p d in
    let e : step.slot - j ≡ suc (step.slot - suc j) = omega (arith, is.from) in
    record {
      from = omega (arith, is.from);
      there = omega (arith, is.there);
      inside = rw e is.inside;
      rank_is = rw e is.rank_is;
    } in
    All-append (IsStepOf j (ranks ∷ lists)) (steps_from j 0 ranks) (steps_of (suc j) lists) own rest

own_has : (i k n : ℕ) (ranks : List ℕ) → n < length ranks → Contains (steps_from i k ranks) (record { rank = get_or ranks n 0; slot = i; number = k + n })
own_has i k n [] lt = absurd (omega arith)
own_has i k zero (rank ∷ ranks) lt = let e : k ≡ k + 0 = omega arith in (0, omega arith, ap (λ (m : ℕ). record { rank = rank; slot = i; number = m }) e)
own_has i k (suc n) (rank ∷ ranks) lt =
    let found = own_has i (suc k) n ranks (omega arith) in
    let e : suc k + n ≡ k + suc n = omega arith in
    subst (λ (m : ℕ). Contains (steps_from i k (rank ∷ ranks)) (record { rank = get_or ranks n 0; slot = i; number = m })) e (suc found.0, omega (arith, found.1), found.2)

pub has_step : (j i n : ℕ) (lists : List (List ℕ)) → i < length lists → n < length (get_or lists i []) → Contains (steps_of j lists) (record { rank = get_or (get_or lists i []) n 0; slot = j + i; number = n })
has_step j i n [] inside lt = absurd (omega arith)
has_step j zero n (ranks ∷ lists) inside lt =
    let e : j ≡ j + 0 = omega arith in
    let m : 0 + n ≡ n = omega arith in
    let found = rw m at (own_has j 0 n ranks lt) in
    let first = Contains-append_left (steps_from j 0 ranks) (steps_of (suc j) lists) (record { rank = get_or ranks n 0; slot = j; number = n }) found in
    subst (λ (s : ℕ). Contains (steps_of j (ranks ∷ lists)) (record { rank = get_or ranks n 0; slot = s; number = n })) e first
has_step j (suc i) n (ranks ∷ lists) inside lt =
    let e : suc j + i ≡ j + suc i = omega arith in
    let found = has_step (suc j) i n lists (omega arith) lt in
    let later = Contains-append_right (steps_from j 0 ranks) (steps_of (suc j) lists) (record { rank = get_or (get_or lists i []) n 0; slot = suc j + i; number = n }) found in
    subst (λ (s : ℕ). Contains (steps_of j (ranks ∷ lists)) (record { rank = get_or (get_or lists i []) n 0; slot = s; number = n })) e later

-- ---- how many are of a slot and of lower rank

-- whether a step is one of a slot, of lower rank than this
abbrev pub is_low : ℕ → ℕ → Step → Bool
is_low i t step = cond (ltb step.rank t) (eqb step.slot i) false

abbrev one : ℕ → ℕ → Step → ℕ
one i t step = cond (is_low i t step) 1 0

both : (b : Bool) → cond b false false ≡ false
both true = refl
both false = refl

own_low : (i k t : ℕ) (ranks : List ℕ) → count_by (is_low i t) (steps_from i k ranks) ≡ count_by (λ rank. ltb rank t) ranks
own_low i k t [] = refl
own_low i k t (rank ∷ ranks) =
    let step : Step = record { rank = rank; slot = i; number = k } in
    let same : eqb i i ≡ true = eq-eqb i i refl in
    let rest = own_low i (suc k) t ranks in
    let first : one i t step ≡ cond {A = ℕ} (ltb rank t) 1 0 = rw same (simple (ltb rank t)) in
    omega (arith, sum_by-cons (one i t) step (steps_from i (suc k) ranks), sum_by-cons (λ r. cond {A = ℕ} (ltb r t) 1 0) rank ranks, first, rest)
  where
    simple : (b : Bool) → cond {A = ℕ} (cond b true false) 1 0 ≡ cond {A = ℕ} b 1 0
    simple true = refl
    simple false = refl

other_low : (i j k t : ℕ) (ranks : List ℕ) → j ≢ i → count_by (is_low i t) (steps_from j k ranks) ≡ 0
other_low i j k t [] ne = refl
other_low i j k t (rank ∷ ranks) ne =
    let step : Step = record { rank = rank; slot = j; number = k } in
    let rest = other_low i j (suc k) t ranks ne in
    let first : one i t step ≡ 0 = rw (ne_eqb j i ne, both (ltb rank t)) refl in
    omega (arith, sum_by-cons (one i t) step (steps_from j (suc k) ranks), first, rest)

none_low : (i j t : ℕ) (lists : List (List ℕ)) → i < j → count_by (is_low i t) (steps_of j lists) ≡ 0
none_low i j t [] less = refl
none_low i j t (ranks ∷ lists) less =
    omega (arith, sum_by-append (one i t) (steps_from j 0 ranks) (steps_of (suc j) lists), other_low i j 0 t ranks (omega arith), none_low i (suc j) t lists (omega arith))

pub count_low : (j i t : ℕ) (lists : List (List ℕ)) → i < length lists → count_by (is_low (j + i) t) (steps_of j lists) ≡ count_by (λ rank. ltb rank t) (get_or lists i [])
count_low j i t [] inside = absurd (omega arith)
count_low j zero t (ranks ∷ lists) inside =
    let e : j + 0 ≡ j = omega arith in
    rw e (omega (arith, sum_by-append (one j t) (steps_from j 0 ranks) (steps_of (suc j) lists), own_low j 0 t ranks, none_low j (suc j) t lists (omega arith)))
count_low j (suc i) t (ranks ∷ lists) inside =
    let e : j + suc i ≡ suc j + i = omega arith in
    rw e (omega (arith, sum_by-append (one (suc j + i) t) (steps_from j 0 ranks) (steps_of (suc j) lists), other_low (suc j + i) j 0 t ranks (omega arith), count_low (suc j) i t lists (omega arith)))
