-- The runs of a program's pairs depend on few things of its head.
use Rattle.std.proofs.Common.{◌≡◌, ℕ, List, subst}
use Rattle.std.specs.Prelude.{Bool, slice_index}
use Rattle.dw_base.specs.declared.record.Run.{Run}
use Rattle.line_machine.specs.declared.head.Head.{Head}
use Rattle.line_machine.specs.declared.registers.Row.{Row}
use Rattle.line_sums.specs.Accepted.{AreLeastRuns, IsLeastNumber, numbers_of, pair_base, pair_range}
use Rattle.line_sums.specs.Steps.{fixed_bytes}

-- the runs are those of another head with its minimum_instruction_length and its default_is_stmt
pub runs_by : (head other : Head) (rows : List Row) (size count : ℕ) (runs : List Run) → head.min ≡ other.min → head.stmt ≡ other.stmt → size ≡ count → AreLeastRuns head rows size runs → AreLeastRuns other rows count runs
runs_by head other rows size count runs min stmt same r = record {
  counted = r.counted;
  ordered = r.ordered;
  whole = r.whole;
  fit = r.fit;
  least = λ pair lt.
      subst (λ (z : ℕ). IsLeastNumber (pair_base pair) (pair_range pair) z (fixed_bytes other.stmt rows) count r.counted (slice_index (numbers_of runs) pair)) min (
      subst (λ (z : Bool). IsLeastNumber (pair_base pair) (pair_range pair) head.min (fixed_bytes z rows) count r.counted (slice_index (numbers_of runs) pair)) stmt (
      subst (λ (z : ℕ). IsLeastNumber (pair_base pair) (pair_range pair) head.min (fixed_bytes head.stmt rows) z r.counted (slice_index (numbers_of runs) pair)) same (
      r.least pair lt)));
}
