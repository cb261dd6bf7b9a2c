-- Runs of operations, and what one more operation makes of them.
use Rattle.std.proofs.Common.{◌≡◌, ◌≢◌, ◌≤◌, ◌<◌, ◌+◌, ◌-◌, ◌^◌, ℕ, zero, suc, true, false, eqb, List, [], ◌∷◌, ◌++◌, length, get_or, take, drop, refl, sym, ap, ◌∙◌, arith, inl, inr}
use Rattle.std.proofs.lemmas.Bool.{cond-true, cond-false, eq-eqb, ne_eqb, eqb-true, eqb-false, cases_Bool, cases_eq, cases_lt, true≢false}
use Rattle.std.proofs.lemmas.List.{get_or_read, length_push, length-drop, take_all, take-append-le, drop-append-le}
use Rattle.std.proofs.Math.Seq.{drop-append_seam}
use Rattle.expr_ops.specs.declared.op.Op.{Op}
use Rattle.entry_arena.specs.declared.operations.Run.{Run}
use Rattle.entry_arena.specs.declared.operations.OpRange.{OpRange}
use Rattle.entry_arena.specs.Operations.{HeldOps, run_at, ends_with, with_op, next_first, range_among, range_of, ops_of, AreRuns, ComesLast, no_operations}
use Rattle.entry_arena.proofs.Held.{at_more, pair_more}

abbrev no_run : Run
no_run = record { value = 0; first = 0 }

abbrev no_range : OpRange
no_range = record { first = 0; count = 0 }

-- THE LAST RUN

pub last_is : (runs : List Run) (value i : ℕ) → i + 1 ≡ length runs → ends_with runs value ≡ eqb (run_at runs i).value value
last_is [] value i e = absurd (omega arith)
last_is (r ∷ []) value zero e = refl
last_is (r ∷ []) value (suc i) e = absurd (omega arith)
last_is (r ∷ (s ∷ rs)) value zero e = absurd (omega arith)
last_is (r ∷ (s ∷ rs)) value (suc i) e = last_is (s ∷ rs) value i (omega arith)

pub none_last : (runs : List Run) (value : ℕ) → length runs ≡ 0 → ends_with runs value ≡ false
none_last [] value e = refl
none_last (r ∷ rs) value e = absurd (omega arith)

-- there is a last run
has_last : (runs : List Run) (value : ℕ) → ends_with runs value ≡ true → (i : ℕ) × (i + 1 ≡ length runs) × ((run_at runs i).value ≡ value)
has_last [] value e = absurd (true≢false (sym e))
has_last (r ∷ []) value e = (0, refl, eqb-true r.value value e)
has_last (r ∷ (s ∷ rs)) value e = let (i, last, is) = has_last (s ∷ rs) value e in (suc i, omega arith, is)

-- WHERE OPERATIONS END

pub next_is : (runs : List Run) (i count : ℕ) → i < length runs → next_first (drop i runs) count ≡ (run_at runs i).first
next_is [] i count inside = absurd (omega arith)
next_is (r ∷ rs) zero count inside = refl
next_is (r ∷ rs) (suc i) count inside = next_is rs i count (omega arith)

pub next_past : (runs : List Run) (i count : ℕ) → length runs ≤ i → next_first (drop i runs) count ≡ count
next_past [] zero count past = refl
next_past [] (suc i) count past = refl
next_past (r ∷ rs) zero count past = absurd (omega arith)
next_past (r ∷ rs) (suc i) count past = next_past rs i count (omega arith)

-- the next run begins behind the operation with which one begins, or all operations end there
next_behind : (runs : List Run) (first count : ℕ) → first < count → (0 < length runs → (first < (run_at runs 0).first) × ((run_at runs 0).first < count)) → (first < next_first runs count) × (next_first runs count ≤ count)
next_behind [] first count some rises = (some, omega arith)
next_behind (r ∷ rs) first count some rises = let (behind, within) = rises (omega arith) in (behind, omega arith)

-- THE RANGE OF A VALUE

module _ (count value : ℕ) where
  past_first : (r : Run) (rs : List Run) → r.value ≢ value → range_among (r ∷ rs) count value ≡ range_among rs count value
  past_first r rs other = cond-false {A = OpRange} (eqb r.value value) (record { first = r.first; count = next_first rs count - r.first }) (range_among rs count value) (ne_eqb r.value value other)

  at_first : (r : Run) (rs : List Run) → r.value ≡ value → range_among (r ∷ rs) count value ≡ record { first = r.first; count = next_first rs count - r.first }
  at_first r rs same = cond-true {A = OpRange} (eqb r.value value) (record { first = r.first; count = next_first rs count - r.first }) (range_among rs count value) (eq-eqb r.value value same)

  pub range_found : (runs : List Run) (i : ℕ) → ((j k : ℕ) → j < k → k < length runs → (run_at runs j).value < (run_at runs k).value) → i < length runs → (run_at runs i).value ≡ value → range_among runs count value ≡ record { first = (run_at runs i).first; count = next_first (drop (suc i) runs) count - (run_at runs i).first }
  range_found [] i rising inside is = absurd (omega arith)
  range_found (r ∷ rs) zero rising inside is = at_first r rs is
  range_found (r ∷ rs) (suc i) rising inside is =
      let less : r.value < (run_at rs i).value = rising 0 (suc i) (omega arith) inside in
      past_first r rs (λ e. absurd (omega arith)) ∙ range_found rs i (λ j k before behind. rising (suc j) (suc k) (omega arith) (omega arith)) (omega arith) is

  pub range_none : (runs : List Run) → ((i : ℕ) → i < length runs → (run_at runs i).value ≢ value) → range_among runs count value ≡ no_range
  range_none [] none = refl
  range_none (r ∷ rs) none = past_first r rs (none 0 (omega arith)) ∙ range_none rs (λ i inside. none (suc i) (omega arith))

  -- where the first operation of each run is one of so many, and these rise, a range lies in them
  pub range_inside : (runs : List Run) → ((i j : ℕ) → i < j → j < length runs → (run_at runs i).first < (run_at runs j).first) → ((i : ℕ) → i < length runs → (run_at runs i).first < count) → (range_among runs count value).first + (range_among runs count value).count ≤ count
  range_inside [] rising some = omega arith
  range_inside (r ∷ rs) rising some =
      elim (cases_eq r.value value) [
        | inl same ↦
            let first : r.first < count = some 0 (omega arith) in
            let next : (r.first < next_first rs count) × (next_first rs count ≤ count) = next_behind rs r.first count first (λ more. (rising 0 1 (omega arith) (omega arith), some 1 (omega arith))) in
            rw (at_first r rs same) (omega (arith, next.0, next.1))
        | inr other ↦
            rw (past_first r rs other) (range_inside rs (λ i j before behind. rising (suc i) (suc j) (omega arith) (omega arith)) (λ i inside. some (suc i) (omega arith)))
      ]

pub inside_all : (h : HeldOps) → AreRuns h → (value : ℕ) → (range_of h value).first + (range_of h value).count ≤ length h.ops
inside_all h are value = range_inside (length h.ops) value h.runs (λ i j before behind. (are.rising i j before behind).1) are.some

-- the operations of a run begin before those of the next
pub run_ends : (h : HeldOps) → AreRuns h → (i : ℕ) → i < length h.runs → ((run_at h.runs i).first < next_first (drop (suc i) h.runs) (length h.ops)) × (next_first (drop (suc i) h.runs) (length h.ops) ≤ length h.ops)
run_ends h are i inside =
    elim (cases_lt (suc i) (length h.runs)) [
      | inl more ↦
          let next = next_is h.runs (suc i) (length h.ops) more in
          let behind : (run_at h.runs i).first < (run_at h.runs (suc i)).first = (are.rising i (suc i) (omega arith) more).1 in
          let within : (run_at h.runs (suc i)).first < length h.ops = are.some (suc i) more in
          (omega (arith, next, behind), omega (arith, next, within))
      | inr past ↦
          let next = next_past h.runs (suc i) (length h.ops) past in
          let some : (run_at h.runs i).first < length h.ops = are.some i inside in
          (omega (arith, next, some), omega (arith, next))
    ]

abbrev ops_in : OpRange → List Op → List Op
ops_in range ops = take range.count (drop range.first ops)

-- a value behind those of all runs has none
pub none_yet : (h : HeldOps) (value : ℕ) → ((i : ℕ) → i < length h.runs → (run_at h.runs i).value < value) → ops_of h value ≡ []
none_yet h value before = ap (λ (r : OpRange). ops_in r h.ops) (range_none (length h.ops) value h.runs (λ i inside same. let less : (run_at h.runs i).value < value = before i inside in omega arith))

pub no_runs : AreRuns no_operations
no_runs = record {
  rising = λ i j before behind. absurd (omega arith);
  first = λ some. absurd (omega arith);
  some = λ i inside. absurd (omega arith);
  all = λ _. refl;
  few = omega arith;
}

-- ONE MORE OPERATION

-- the last run is of another value, so all runs are of values before
runs_before : (runs : List Run) (value : ℕ) → ((i j : ℕ) → i < j → j < length runs → (run_at runs i).value < (run_at runs j).value) → ComesLast runs value → ends_with runs value ≡ false → (i : ℕ) → i < length runs → (run_at runs i).value < value
runs_before runs value rising last none i inside =
    elim (cases_lt (suc i) (length runs)) [
      | inl more ↦
          let less : (run_at runs i).value < (run_at runs (suc i)).value = rising i (suc i) (omega arith) more in
          let most : (run_at runs (suc i)).value ≤ value = last (suc i) more in
          omega arith
      | inr past ↦
          let most : (run_at runs i).value ≤ value = last i inside in
          let other : (run_at runs i).value ≢ value = eqb-false (run_at runs i).value value (sym (last_is runs value i (omega arith)) ∙ none) in
          elim (cases_lt (run_at runs i).value value) [
            | inl less ↦ less
            | inr more ↦ absurd (other (omega arith))
          ]
    ]

-- the value comes last then too
pub op_last : (h : HeldOps) (value : ℕ) (op : Op) → ComesLast h.runs value → ComesLast (with_op h value op).runs value
op_last h value op last = elim (cases_Bool (ends_with h.runs value)) [
  | inl some ↦ rw some last
  | inr other ↦ rw other (λ i inside. at_more (λ (z : Run). z.value ≤ value) h.runs (record { value = value; first = length h.ops }) no_run i (last i) (λ _. omega arith) inside)
]

module _ (h : HeldOps) (value : ℕ) (op : Op) (are : AreRuns h) (last : ComesLast h.runs value) where
  abbrev new_run : Run
  new_run = record { value = value; first = length h.ops }

  values_rise : (i j : ℕ) → i < j → j < length h.runs → (run_at h.runs i).value < (run_at h.runs j).value
  values_rise i j before behind = (are.rising i j before behind).0

  -- ORDER IS KEPT

  count : length (h.ops ++ op ∷ []) ≡ length h.ops + 1
  count = length_push h.ops op

  first_of_none : h.runs ≡ [] → length h.ops ≡ 0
  first_of_none none = ap (λ (z : List Op). length z) (are.all none)

  same_runs : length h.ops + 1 < 2 ^ 32 → ends_with h.runs value ≡ true → AreRuns (record { ops = h.ops ++ op ∷ []; runs = h.runs })
  same_runs few some = record {
    rising = are.rising;
    first = are.first;
    some = λ i inside. omega (arith, are.some i inside, count);
    all = λ none. absurd (true≢false (sym some ∙ ap (λ (z : List Run). ends_with z value) none));
    few = omega (arith, count);
  }

  first_run : (runs : List Run) → (runs ≡ [] → length h.ops ≡ 0) → (0 < length runs → (run_at runs 0).first ≡ 0) → (run_at (runs ++ new_run ∷ []) 0).first ≡ 0
  first_run [] none first = none refl
  first_run (r ∷ rs) none first = first (omega arith)

  some_runs : (runs : List Run) → runs ++ new_run ∷ [] ≢ []
  some_runs runs none = omega (arith, ap (λ (z : List Run). length z) none, length_push runs new_run)

  more_runs : length h.ops + 1 < 2 ^ 32 → ends_with h.runs value ≡ false → AreRuns (record { ops = h.ops ++ op ∷ []; runs = h.runs ++ new_run ∷ [] })
  more_runs few other = record {
    rising = pair_more (λ (y z : Run). (y.value < z.value) × (y.first < z.first)) h.runs new_run no_run are.rising (λ i inside. (runs_before h.runs value values_rise last other i inside, are.some i inside));
    first = λ _. first_run h.runs first_of_none are.first;
    some = λ i inside. at_more (λ (z : Run). z.first < length (h.ops ++ op ∷ [])) h.runs new_run no_run i (λ l. omega (arith, are.some i l, count)) (λ _. omega (arith, count)) inside;
    all = λ none. absurd (some_runs h.runs none);
    few = omega (arith, count);
  }

  pub op_held : length h.ops + 1 < 2 ^ 32 → AreRuns (with_op h value op)
  op_held few = elim (cases_Bool (ends_with h.runs value)) [
    | inl some ↦ rw some (same_runs few some)
    | inr other ↦ rw other (more_runs few other)
  ]

  -- WHAT VALUES HAVE

  -- the last run gets one operation more
  longer : ends_with h.runs value ≡ true → (f : ℕ) × (f ≤ length h.ops) × (range_among h.runs (length h.ops) value ≡ record { first = f; count = length h.ops - f }) × (range_among h.runs (length (h.ops ++ op ∷ [])) value ≡ record { first = f; count = length h.ops + 1 - f })
  longer some =
      let (i, at_end, is) = has_last h.runs value some in
      let inside : i < length h.runs = omega arith in
      let old = range_found (length h.ops) value h.runs i values_rise inside is in
      let new = range_found (length (h.ops ++ op ∷ [])) value h.runs i values_rise inside is in
      let first : (run_at h.runs i).first < length h.ops = are.some i inside in
      let f : ℕ = (run_at h.runs i).first in (
        f,
        omega arith,
        old ∙ ap (λ (z : ℕ). record { first = f; count = z - f }) (next_past h.runs (suc i) (length h.ops) (omega arith)),
        new ∙ ap (λ (z : ℕ). record { first = f; count = z - f }) (next_past h.runs (suc i) (length (h.ops ++ op ∷ [])) (omega arith) ∙ count),
      )

  own_longer : (f : ℕ) → f ≤ length h.ops → take (length h.ops + 1 - f) (drop f (h.ops ++ op ∷ [])) ≡ take (length h.ops - f) (drop f h.ops) ++ op ∷ []
  own_longer f within =
      let dropped : drop f (h.ops ++ op ∷ []) ≡ drop f h.ops ++ op ∷ [] = drop-append-le f h.ops (op ∷ []) within in
      let left : length (drop f h.ops) ≡ length h.ops - f = length-drop f h.ops in
      rw dropped (
      take_all (length h.ops + 1 - f) (drop f h.ops ++ op ∷ []) (omega (arith, left, length_push (drop f h.ops) op))
      ∙ ap (λ (z : List Op). z ++ op ∷ []) (sym (take_all (length h.ops - f) (drop f h.ops) (omega (arith, left))))
      )

  own_same : ends_with h.runs value ≡ true → ops_of (record { ops = h.ops ++ op ∷ []; runs = h.runs }) value ≡ ops_of h value ++ op ∷ []
  own_same some =
      let (f, within, old, new) = longer some in
      ap (λ (r : OpRange). ops_in r (h.ops ++ op ∷ [])) new ∙ own_longer f within ∙ ap (λ (r : OpRange). ops_in r h.ops ++ op ∷ []) (sym old)

  -- a new run has the one operation
  range_last : (runs : List Run) (n : ℕ) → ((i : ℕ) → i < length runs → (run_at runs i).value ≢ value) → range_among (runs ++ new_run ∷ []) n value ≡ record { first = length h.ops; count = n - length h.ops }
  range_last [] n none = at_first n value new_run [] refl
  range_last (r ∷ rs) n none = past_first n value r (rs ++ new_run ∷ []) (none 0 (omega arith)) ∙ range_last rs n (λ i inside. none (suc i) (omega arith))

  one_more : take (length (h.ops ++ op ∷ []) - length h.ops) (drop (length h.ops) (h.ops ++ op ∷ [])) ≡ op ∷ []
  one_more =
      ap (λ (z : List Op). take (length (h.ops ++ op ∷ []) - length h.ops) z) (drop-append_seam h.ops (op ∷ []))
      ∙ take_all (length (h.ops ++ op ∷ []) - length h.ops) (op ∷ []) (omega (arith, count))

  own_first : ends_with h.runs value ≡ false → ops_of (record { ops = h.ops ++ op ∷ []; runs = h.runs ++ new_run ∷ [] }) value ≡ ops_of h value ++ op ∷ []
  own_first other =
      let before = runs_before h.runs value values_rise last other in
      ap (λ (r : OpRange). ops_in r (h.ops ++ op ∷ [])) (range_last h.runs (length (h.ops ++ op ∷ [])) (λ i inside same. let less : (run_at h.runs i).value < value = before i inside in omega arith))
      ∙ one_more
      ∙ ap (λ (z : List Op). z ++ op ∷ []) (sym (none_yet h value before))

  -- the value has one operation more
  pub op_own : ops_of (with_op h value op) value ≡ ops_of h value ++ op ∷ []
  op_own = elim (cases_Bool (ends_with h.runs value)) [
    | inl some ↦ rw some (own_same some)
    | inr other ↦ rw other (own_first other)
  ]

  range_still : (runs : List Run) (n m other : ℕ) → ends_with runs value ≡ true → other ≢ value → range_among runs n other ≡ range_among runs m other
  range_still [] n m other some differs = refl
  range_still (r ∷ []) n m other some differs =
      let apart : r.value ≢ other = λ e. differs (sym e ∙ eqb-true r.value value some) in
      past_first n other r [] apart ∙ sym (past_first m other r [] apart)
  range_still (r ∷ (s ∷ rs)) n m other some differs = elim (cases_eq r.value other) [
    | inl same ↦ at_first n other r (s ∷ rs) same ∙ sym (at_first m other r (s ∷ rs) same)
    | inr apart ↦ past_first n other r (s ∷ rs) apart ∙ range_still (s ∷ rs) n m other some differs ∙ sym (past_first m other r (s ∷ rs) apart)
  ]

  next_still : (runs : List Run) (n : ℕ) → next_first (runs ++ new_run ∷ []) n ≡ next_first runs (length h.ops)
  next_still [] n = refl
  next_still (r ∷ rs) n = refl

  range_more : (runs : List Run) (n other : ℕ) → other ≢ value → range_among (runs ++ new_run ∷ []) n other ≡ range_among runs (length h.ops) other
  range_more [] n other differs = past_first n other new_run [] (λ e. differs (sym e))
  range_more (r ∷ rs) n other differs = elim (cases_eq r.value other) [
    | inl same ↦
        at_first n other r (rs ++ new_run ∷ []) same
        ∙ ap (λ (z : ℕ). record { first = r.first; count = z - r.first }) (next_still rs n)
        ∙ sym (at_first (length h.ops) other r rs same)
    | inr apart ↦ past_first n other r (rs ++ new_run ∷ []) apart ∙ range_more rs n other differs ∙ sym (past_first (length h.ops) other r rs apart)
  ]

  other_range : (other : ℕ) → other ≢ value → range_of (with_op h value op) other ≡ range_of h other
  other_range other differs = elim (cases_Bool (ends_with h.runs value)) [
    | inl some ↦ rw some (range_still h.runs (length (h.ops ++ op ∷ [])) (length h.ops) other some differs)
    | inr none ↦ rw none (range_more h.runs (length (h.ops ++ op ∷ [])) other differs)
  ]

  still_there : (range : OpRange) → range.first + range.count ≤ length h.ops → ops_in range (h.ops ++ op ∷ []) ≡ ops_in range h.ops
  still_there range inside =
      ap (λ (z : List Op). take range.count z) (drop-append-le range.first h.ops (op ∷ []) (omega arith))
      ∙ take-append-le range.count (drop range.first h.ops) (op ∷ []) (omega (arith, length-drop range.first h.ops))

  -- and other values have what they had
  pub op_others : (other : ℕ) → other ≢ value → ops_of (with_op h value op) other ≡ ops_of h other
  op_others other differs =
      ap (λ (r : OpRange). ops_in r (h.ops ++ op ∷ [])) (other_range other differs) ∙ still_there (range_of h other) (inside_all h are other)

-- THE RANGE THAT IS SEARCHED FOR

module _ (h : HeldOps) (are : AreRuns h) (value i first end : ℕ) (inside : i < length h.runs) (is : (run_at h.runs i).value ≡ value) (begins : first ≡ (run_at h.runs i).first) (ends : end ≡ next_first (drop (i + 1) h.runs) (length h.ops)) where
  next : end ≡ next_first (drop (suc i) h.runs) (length h.ops)
  next = let same : i + 1 ≡ suc i = omega arith in ends ∙ ap (λ (z : ℕ). next_first (drop z h.runs) (length h.ops)) same

  pub begins_before : first ≤ end
  begins_before = omega (arith, begins, next, (run_ends h are i inside).0)

  pub found_range : record { first = first; count = end - first } ≡ range_of h value
  found_range = rw (begins, next) (sym (range_found (length h.ops) value h.runs i (λ j k before behind. (are.rising j k before behind).0) inside is))

  pub found_inside : first + (end - first) ≤ length h.ops
  found_inside = omega (arith, begins, next, run_ends h are i inside)

-- a run that was read of a list
pub run_read : (runs items : List Run) (i : ℕ) (r : Run) → items ≡ runs → i < length runs → r ≡ get_or items i r → r.first ≡ (run_at runs i).first
run_read runs items i r same inside read = ap (λ (z : Run). z.first) (get_or_read runs i r inside (read ∙ ap (λ (z : List Run). get_or z i r) same) no_run)
