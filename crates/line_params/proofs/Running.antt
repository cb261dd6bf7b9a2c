-- Laws of the runs of a program's pairs.
use Rattle.std.proofs.Common.{◌≡◌, ◌≤◌, ◌<◌, ◌+◌, ◌-◌, ◌*◌, ◌/◌, ◌%◌, ◌++◌, ◌∙◌, ℕ, List, get_or, length, sym, ap, subst, arith, inl, inr}
use Rattle.std.specs.Prelude.{ℤ, pos, ◌-ℤ◌}
use Rattle.std.proofs.lemmas.Bool.{cases_lt}
use Rattle.std.proofs.lemmas.List.{length-append, get_or_append_left, get_or-append-add}
use Rattle.dw_base.specs.declared.record.Run.{Run}
use Rattle.leb_codec.specs.Records.{pairs_of}
use Rattle.line_machine.specs.declared.head.Head.{Head}
use Rattle.line_machine.specs.declared.registers.Row.{Row}
use Rattle.line_sums.specs.declared.count.CountedStep.{CountedStep}
use Rattle.line_sums.specs.Accepted.{IsAccepted, IsLeastNumber, AreLeastRuns, numbers_of, pair_base, pair_range}
use Rattle.line_sums.specs.Ordered.{AreOrdered}
use Rattle.line_sums.specs.Steps.{fixed_bytes, steps_of}
use Rattle.line_sums.specs.Sums.{base_at}
use Rattle.line_params.specs.inside.Joined.{AreJoined, AreLeastRunsOf}
use Rattle.line_params.proofs.Joining.{spread_size, all_fit}

-- the number of a pair is that of its line_base
pair_least : (scale bytes below place n : ℕ) (counted : List CountedStep) → place < 256 → IsLeastNumber (base_at place) (below + 1) scale 0 bytes counted n → IsLeastNumber (pair_base (256 * below + place)) (pair_range (256 * below + place)) scale 0 bytes counted n
pair_least scale bytes below place n counted lt l =
    let base : pair_base (256 * below + place) ≡ base_at place = ap (λ (z : ℕ). pos z -ℤ pos 128) (let e : (256 * below + place) % 256 ≡ place = omega arith in e) in
    let range : pair_range (256 * below + place) ≡ below + 1 = (let e : (256 * below + place) / 256 + 1 ≡ below + 1 = omega arith in e) in
    subst (λ (z : ℤ). IsLeastNumber z (pair_range (256 * below + place)) scale 0 bytes counted n) (sym base) (
    subst (λ (z : ℕ). IsLeastNumber (base_at place) z scale 0 bytes counted n) (sym range) l)

-- the pairs of a line_range more
pub runs_more : (scale bytes below : ℕ) (counted : List CountedStep) (old numbers new : List ℕ) → length old ≡ 256 * below → new ≡ old ++ numbers → ((pair : ℕ) → pair < 256 * below → IsLeastNumber (pair_base pair) (pair_range pair) scale 0 bytes counted (get_or old pair 0)) → ((place : ℕ) → place < 256 → IsLeastNumber (base_at place) (below + 1) scale 0 bytes counted (get_or numbers place 0)) → (pair : ℕ) → pair < 256 * (below + 1) → IsLeastNumber (pair_base pair) (pair_range pair) scale 0 bytes counted (get_or new pair 0)
runs_more scale bytes below counted old numbers new many more before here pair lt =
    elim (cases_lt pair (256 * below)) [
      | inl less ↦
          let at : get_or new pair 0 ≡ get_or old pair 0 = ap (λ (z : List ℕ). get_or z pair 0) more ∙ get_or_append_left old numbers 0 pair (omega (arith, many)) in
          subst (λ (z : ℕ). IsLeastNumber (pair_base pair) (pair_range pair) scale 0 bytes counted z) (sym at) (before pair less)
      | inr high ↦
          let whole : 256 * below + (pair - 256 * below) ≡ pair = omega arith in
          let split : pair ≡ length old + (pair - 256 * below) = omega (arith, many) in
          let at : get_or new pair 0 ≡ get_or numbers (pair - 256 * below) 0 = ap (λ (z : List ℕ). get_or z pair 0) more ∙ ap (λ (i : ℕ). get_or (old ++ numbers) i 0) split ∙ get_or-append-add old numbers (pair - 256 * below) 0 in
          let own = pair_least scale bytes below (pair - 256 * below) (get_or numbers (pair - 256 * below) 0) counted (omega arith) (here (pair - 256 * below) (omega arith)) in
          subst (λ (z : ℕ). IsLeastNumber (pair_base pair) (pair_range pair) scale 0 bytes counted z) (sym at) (subst (λ (p : ℕ). IsLeastNumber (pair_base p) (pair_range p) scale 0 bytes counted (get_or numbers (pair - 256 * below) 0)) whole own)
    ]

pub runs_size : (below : ℕ) (old numbers new : List ℕ) → length old ≡ 256 * below → length numbers ≡ 256 → new ≡ old ++ numbers → length new ≡ 256 * (below + 1)
runs_size below old numbers new many own more = omega (arith, many, own, ap length more, length-append old numbers)

-- all pairs are done
pub runs_all : (scale bytes below : ℕ) (counted : List CountedStep) (runs : List Run) → 255 ≤ below → below ≤ 255 → AreJoined runs → length (numbers_of runs) ≡ 256 * below → ((pair : ℕ) → pair < 256 * below → IsLeastNumber (pair_base pair) (pair_range pair) scale 0 bytes counted (get_or (numbers_of runs) pair 0)) → AreLeastRunsOf scale bytes counted runs
runs_all scale bytes below counted runs low high joined many each =
    let all : pairs_of runs ≡ 65280 = omega (arith, many, spread_size runs) in
    record {
      whole = record { all = all; differ = joined.differ };
      fit = all_fit runs (omega (arith, all)) joined;
      least = λ pair lt. each pair (omega arith);
    }

module _ (base : ℤ) (range scale fixed bytes : ℕ) (counted : List CountedStep) where
  -- the bytes that no pair changes are counted on either side
  add_fixed : (n : ℕ) → IsAccepted base range scale 0 bytes counted n → IsAccepted base range scale fixed (fixed + bytes) counted n
  add_fixed n a = record { within = a.within; enough = λ k h. omega (arith, a.enough k h) }

  take_fixed : (n : ℕ) → IsAccepted base range scale fixed (fixed + bytes) counted n → IsAccepted base range scale 0 bytes counted n
  take_fixed n a = record { within = a.within; enough = λ k h. omega (arith, a.enough k h) }

  with_fixed : (n : ℕ) → IsLeastNumber base range scale 0 bytes counted n → IsLeastNumber base range scale fixed (fixed + bytes) counted n
  with_fixed n l = record { candidate = l.candidate; accepted = add_fixed n l.accepted; least = λ m may a. l.least m may (take_fixed m a) }

pub runs_fixed : (head : Head) (rows : List Row) (bytes : ℕ) (counted : List CountedStep) (runs : List Run) → AreOrdered (steps_of rows) counted → AreLeastRunsOf head.min bytes counted runs → AreLeastRuns head rows (fixed_bytes head.stmt rows + bytes) runs
runs_fixed head rows bytes counted runs ordered is = record {
  counted = counted;
  ordered = ordered;
  whole = is.whole;
  fit = is.fit;
  least = λ pair lt. with_fixed (pair_base pair) (pair_range pair) head.min (fixed_bytes head.stmt rows) bytes counted (get_or (numbers_of runs) pair 0) (is.least pair lt);
}
