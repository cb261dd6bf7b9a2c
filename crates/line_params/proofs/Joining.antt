-- Laws of runs of equal numbers.
use Rattle.std.proofs.Common.{◌≡◌, ◌≢◌, ◌≤◌, ◌<◌, ◌+◌, ◌++◌, ◌∙◌, ◌^◌, ℕ, zero, suc, List, [], ◌∷◌, get_or, set, take, length, refl, sym, ap, arith, inl, inr}
use Rattle.std.specs.Prelude.{All, replicate}
use Rattle.std.proofs.lemmas.Bool.{cases_eq, eq-eqb, ne_eqb}
use Rattle.std.proofs.lemmas.List.{append_assoc, append-nil, length-append, length-replicate, length-take, replicate-append-replicate, take_more}
use Rattle.std.proofs.lemmas.List.Elements.{All-cons}
use Rattle.dw_base.specs.declared.record.Run.{Run}
use Rattle.leb_codec.specs.Records.{IsRun, NeighboursDiffer, pairs_of}
use Rattle.line_sums.specs.Accepted.{numbers_of}
use Rattle.line_params.specs.inside.Joined.{with_number, IsSome, AreJoined}

-- a new run is behind the others, where there is none
pub with_first : (runs : List Run) (n : ℕ) → length runs ≡ 0 → runs ++ record { len = 1; number = n } ∷ [] ≡ with_number runs n
with_first [] n none = refl
with_first (run ∷ runs) n none = absurd (omega (arith, none))

-- or where the last has another number
pub with_new : (runs : List Run) (n i : ℕ) (last : Run) → i + 1 ≡ length runs → last ≡ get_or runs i last → last.number ≢ n → runs ++ record { len = 1; number = n } ∷ [] ≡ with_number runs n
with_new [] n i last end at other = absurd (omega (arith, end))
with_new (run ∷ []) n zero last end at other = rw (ne_eqb run.number n (λ e. other (ap (λ (z : Run). z.number) at ∙ e))) refl
with_new (run ∷ []) n (suc i) last end at other = absurd (omega (arith, end))
with_new (run ∷ next ∷ runs) n zero last end at other = absurd (omega (arith, end))
with_new (run ∷ next ∷ runs) n (suc i) last end at other = ap (λ (z : List Run). run ∷ z) (with_new (next ∷ runs) n i last (omega (arith, end)) at other)

-- the last run has one more, where it has the number
pub with_same : (runs : List Run) (n i : ℕ) (last : Run) → i + 1 ≡ length runs → last ≡ get_or runs i last → last.number ≡ n → set runs i (record { len = last.len + 1; number = last.number }) ≡ with_number runs n
with_same [] n i last end at same = absurd (omega (arith, end))
with_same (run ∷ []) n zero last end at same =
    let equal : run.number ≡ n = ap (λ (z : Run). z.number) (sym at) ∙ same in
    rw (at, eq-eqb run.number n equal) refl
with_same (run ∷ []) n (suc i) last end at same = absurd (omega (arith, end))
with_same (run ∷ next ∷ runs) n zero last end at same = absurd (omega (arith, end))
with_same (run ∷ next ∷ runs) n (suc i) last end at same = ap (λ (z : List Run). run ∷ z) (with_same (next ∷ runs) n i last (omega (arith, end)) at same)

one_more : (k a : ℕ) → replicate (k + 1) a ≡ replicate k a ++ a ∷ []
one_more k a = sym (replicate-append-replicate k 1 a)

-- the numbers have one more
pub spread_with : (runs : List Run) (n : ℕ) → numbers_of (with_number runs n) ≡ numbers_of runs ++ n ∷ []
spread_with [] n = refl
spread_with (run ∷ []) n =
    elim (cases_eq run.number n) [
      | inl same ↦ rw (eq-eqb run.number n same, append-nil (replicate (run.len + 1) run.number), append-nil (replicate run.len run.number)) (one_more run.len run.number ∙ ap (λ (z : ℕ). replicate run.len run.number ++ z ∷ []) same)
      | inr other ↦ rw (ne_eqb run.number n other, append-nil (replicate run.len run.number)) refl
    ]
spread_with (run ∷ next ∷ runs) n =
    ap (λ (z : List ℕ). replicate run.len run.number ++ z) (spread_with (next ∷ runs) n) ∙ sym (append_assoc (replicate run.len run.number) (numbers_of (next ∷ runs)) (n ∷ []))

-- how many pairs the runs have
pub spread_size : (runs : List Run) → length (numbers_of runs) ≡ pairs_of runs
spread_size [] = refl
spread_size (run ∷ runs) =
    omega (arith, spread_size runs, length-append (replicate run.len run.number) (numbers_of runs), length-replicate run.len run.number)

tail_all : (P : Run → Type 0) (run : Run) (runs : List Run) → All P (run ∷ runs) → All P runs
tail_all P run runs all i d h = all (suc i) d (omega arith)

each_with : (runs : List Run) (n : ℕ) → n < 2 ^ 32 → All IsSome runs → All IsSome (with_number runs n)
each_with [] n small all = All-cons IsSome (record { len = 1; number = n }) [] (record { some = omega arith; narrow = small }) all
each_with (run ∷ []) n small all =
    let own : IsSome run = all 0 run (omega arith) in
    let none = tail_all IsSome run [] all in
    elim (cases_eq run.number n) [
      | inl same ↦ rw (eq-eqb run.number n same) (All-cons IsSome (record { len = run.len + 1; number = run.number }) [] (record { some = omega arith; narrow = own.narrow }) none)
      | inr other ↦ rw (ne_eqb run.number n other) (All-cons IsSome run (record { len = 1; number = n } ∷ []) own (All-cons IsSome (record { len = 1; number = n }) [] (record { some = omega arith; narrow = small }) none))
    ]
each_with (run ∷ next ∷ runs) n small all =
    All-cons IsSome run (with_number (next ∷ runs) n) (all 0 run (omega arith)) (each_with (next ∷ runs) n small (tail_all IsSome run (next ∷ runs) all))

-- a run before others differs from the first of them, whatever number they get more
differ_before : (run next : Run) (runs : List Run) (n : ℕ) → run.number ≢ next.number → NeighboursDiffer (with_number (next ∷ runs) n) → NeighboursDiffer (run ∷ with_number (next ∷ runs) n)
differ_before run next [] n differ rest =
    elim (cases_eq next.number n) [
      | inl same ↦ rw (eq-eqb next.number n same) (differ, tt)
      | inr other ↦ rw (ne_eqb next.number n other) (differ, (other, tt))
    ]
differ_before run next (last ∷ runs) n differ rest = (differ, rest)

differ_with : (runs : List Run) (n : ℕ) → NeighboursDiffer runs → NeighboursDiffer (with_number runs n)
differ_with [] n all = tt
differ_with (run ∷ []) n all =
    elim (cases_eq run.number n) [
      | inl same ↦ rw (eq-eqb run.number n same) tt
      | inr other ↦ rw (ne_eqb run.number n other) (other, tt)
    ]
differ_with (run ∷ next ∷ runs) n all = differ_before run next runs n all.0 (differ_with (next ∷ runs) n all.1)

pub joined_with : (runs : List Run) (n : ℕ) → n < 2 ^ 32 → AreJoined runs → AreJoined (with_number runs n)
joined_with runs n small joined = record { each = each_with runs n small joined.each; differ = differ_with runs n joined.differ }

-- the numbers up to the next
pub spread_more : (start runs numbers : List ℕ) (i : ℕ) (d : ℕ) (new : List ℕ) → i < length numbers → runs ≡ start ++ take i numbers → new ≡ runs ++ get_or numbers i d ∷ [] → new ≡ start ++ take (i + 1) numbers
spread_more start runs numbers i d new lt is more =
    more ∙ ap (λ (z : List ℕ). z ++ get_or numbers i d ∷ []) is ∙ append_assoc start (take i numbers) (get_or numbers i d ∷ []) ∙ ap (λ (z : List ℕ). start ++ z) (sym (take_more numbers i d lt))

run_few : (runs : List Run) (i : ℕ) (d : Run) → i < length runs → (get_or runs i d).len ≤ pairs_of runs
run_few [] i d h = absurd (omega arith)
run_few (run ∷ runs) zero d h = omega arith
run_few (run ∷ runs) (suc i) d h = omega (arith, run_few runs i d (omega arith))

-- each run of all pairs fits
pub all_fit : (runs : List Run) → pairs_of runs ≤ 65280 → AreJoined runs → All IsRun runs
all_fit runs few joined i d h =
    let own = joined.each i d h in
    record { some = own.some; few = omega (arith, run_few runs i d h); narrow = own.narrow }

-- a run has no more pairs than all
pub run_room : (runs : List Run) (i : ℕ) (run : Run) → i < length runs → run ≡ get_or runs i run → run.len ≤ pairs_of runs
run_room runs i run h at = omega (arith, run_few runs i run h, ap (λ (z : Run). z.len) at)

-- a pair more has room
pub spread_room : (start runs : List Run) (numbers : List ℕ) (i : ℕ) → i < length numbers → numbers_of runs ≡ numbers_of start ++ take i numbers → pairs_of start + length numbers ≤ 65280 → pairs_of runs < 65280
spread_room start runs numbers i lt is room =
    omega (arith, spread_size start, spread_size runs, ap length is, length-append (numbers_of start) (take i numbers), length-take i numbers)

-- what is read twice at a place is the same
pub same_run : (runs : List Run) (i : ℕ) (x y : Run) → i < length runs → x ≡ get_or runs i x → y ≡ get_or runs i y → x ≡ y
same_run [] i x y h at also = absurd (omega arith)
same_run (run ∷ runs) zero x y h at also = at ∙ sym also
same_run (run ∷ runs) (suc i) x y h at also = same_run runs i x y (omega arith) at also
