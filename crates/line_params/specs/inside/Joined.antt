-- Runs of equal numbers, one number after the other. Private functions alone cite this.
use Rattle.std.specs.Prelude.{◌+◌, ◌<◌, ◌^◌, ◌==◌, if◌then◌else◌, ℕ, List, [], ◌∷◌, All, slice_index}
use Rattle.dw_base.specs.declared.record.Run.{Run}
use Rattle.leb_codec.specs.Records.{NeighboursDiffer, AreRuns, IsRun, pair_count}
use Rattle.line_sums.specs.declared.count.CountedStep.{CountedStep}
use Rattle.line_sums.specs.Accepted.{IsLeastNumber, pair_base, pair_range, numbers_of}

-- a number more: the last run has one more, where it has that number, or a new one is behind it
abbrev pub with_number : List Run → ℕ → List Run
with_number [] n = record { len = 1; number = n } ∷ []
with_number (run ∷ []) n = if run.number == n then record { len = run.len + 1; number = run.number } ∷ [] else run ∷ record { len = 1; number = n } ∷ []
with_number (run ∷ next ∷ runs) n = run ∷ with_number (next ∷ runs) n

-- the run isn't empty, and its number fits 32 bits
pub record IsSome (run : Run) : Type 0 where
  pub some : 0 < run.len
  pub narrow : run.number < 2 ^ 32

-- runs of equal numbers, no longer to be joined
pub record AreJoined (runs : List Run) : Type 0 where
  pub each : All IsSome runs
  pub differ : NeighboursDiffer runs

-- the runs give to each pair the least number that is accepted of counted steps against so many bytes
pub record AreLeastRunsOf (scale bytes : ℕ) (counted : List CountedStep) (runs : List Run) : Type 0 where
  pub whole : AreRuns runs
  pub fit : All IsRun runs
  pub least : (pair : ℕ) → pair < pair_count → IsLeastNumber (pair_base pair) (pair_range pair) scale 0 bytes counted (slice_index (numbers_of runs) pair)
