-- When some of a program's different steps show that no program under a pair of line_base and line_range is shorter than a
-- given one, and the least such number of steps that a record has.
-- `base` is line_base, `range` is line_range, and `scale` is minimum_instruction_length.
use Rattle.std.specs.Prelude.{◌≡◌, ◌≤◌, ◌<◌, ◌+◌, ◌/◌, ◌%◌, ◌⊎◌, ℕ, ℤ, pos, ◌-ℤ◌, List, [], ◌∷◌, ◌++◌, length, take, drop, replicate, slice_index, All, IsTrue}
use Rattle.std.specs.Int.{is_power_of_two}
use Rattle.dw_base.specs.declared.record.Run.{Run}
use Rattle.leb_codec.specs.Records.{AreRuns, IsRun, pair_count}
use Rattle.line_machine.specs.declared.head.Head.{Head}
use Rattle.line_machine.specs.declared.registers.Row.{Row}
use Rattle.line_machine.specs.Class.{IsPair}
use Rattle.line_sums.specs.declared.count.CountedStep.{CountedStep}
use Rattle.line_sums.specs.Counting.{CountedWithin, counted_price, row_bytes}
use Rattle.line_sums.specs.Ordered.{AreOrdered}
use Rattle.line_sums.specs.Steps.{StepsWithin, fixed_bytes, steps_of}

-- A number of steps is accepted for a pair: there are so many, and what the first of them cost under the pair, the bytes
-- of the opcodes that append the rows of the others, and the bytes that no pair changes are together at least the size.
pub record IsAccepted (base : ℤ) (range scale fixed size : ℕ) (counted : List CountedStep) (number : ℕ) : Type 0 where
  pub within : number ≤ length counted
  pub enough : (n : ℕ) → CountedWithin base range scale (take number counted) n → size ≤ fixed + n + counted_price row_bytes (drop number counted)

-- the numbers that a record has of so many different steps: 0, the powers of two below, and all
abbrev pub IsCandidate : ℕ → ℕ → Type 0
IsCandidate count n = (n ≡ 0) ⊎ ((IsTrue (is_power_of_two n) × (n < count)) ⊎ (n ≡ count))

-- of the numbers that a record has, the least that is accepted for a pair
pub record IsLeastNumber (base : ℤ) (range scale fixed size : ℕ) (counted : List CountedStep) (n : ℕ) : Type 0 where
  pub candidate : IsCandidate (length counted) n
  pub accepted : IsAccepted base range scale fixed size counted n
  pub least : (m : ℕ) → IsCandidate (length counted) m → IsAccepted base range scale fixed size counted m → n ≤ m

-- pairs are numbered by line_range, from 1 on, and then by line_base, from -128 on
abbrev pub pair_base : ℕ → ℤ
pair_base pair = pos (pair % 256) -ℤ pos 128

abbrev pub pair_range : ℕ → ℕ
pair_range pair = pair / 256 + 1

-- a number of steps is accepted for a pair, against a program of rows with so many bytes of opcodes
abbrev pub IsPairAccepted : Head → List Row → ℕ → List CountedStep → ℕ → ℕ → Type 0
IsPairAccepted head rows size counted pair number =
    IsAccepted (pair_base pair) (pair_range pair) head.min (fixed_bytes head.stmt rows) size counted number

-- the least number that a record has for the pair is this one
abbrev pub IsLeastPairNumber : Head → List Row → ℕ → List CountedStep → ℕ → ℕ → Type 0
IsLeastPairNumber head rows size counted pair number =
    IsLeastNumber (pair_base pair) (pair_range pair) head.min (fixed_bytes head.stmt rows) size counted number

-- the numbers of the pairs, one by one
abbrev pub numbers_of : List Run → List ℕ
numbers_of [] = []
numbers_of (run ∷ runs) = replicate run.len run.number ++ numbers_of runs

-- the runs give to each pair the least number that is accepted, by the different steps in their order
pub record AreLeastRuns (head : Head) (rows : List Row) (size : ℕ) (runs : List Run) : Type 0 where
  pub counted : List CountedStep
  pub ordered : AreOrdered (steps_of rows) counted
  pub whole : AreRuns runs
  pub fit : All IsRun runs
  pub least : (pair : ℕ) → pair < pair_count → IsLeastPairNumber head rows size counted pair (slice_index (numbers_of runs) pair)

-- the number that the runs give to each pair is accepted, by the different steps in their order
pub record AreAcceptedRuns (head : Head) (rows : List Row) (size : ℕ) (runs : List Run) : Type 0 where
  pub counted : List CountedStep
  pub ordered : AreOrdered (steps_of rows) counted
  pub whole : AreRuns runs
  pub accepted : (pair : ℕ) → pair < pair_count → IsPairAccepted head rows size counted pair (slice_index (numbers_of runs) pair)

-- under no pair do the rows take fewer bytes than these
abbrev pub NoneTakesFewer : Head → List Row → ℕ → Type 0
NoneTakesFewer head rows size =
    (base : ℤ) (range n : ℕ) → IsPair base range → StepsWithin base range head.min (steps_of rows) n → size ≤ fixed_bytes head.stmt rows + n
