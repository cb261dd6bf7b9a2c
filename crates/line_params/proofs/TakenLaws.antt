-- The least pair and the shortest program under it are together the member of the class that is taken.
use Rattle.std.proofs.Common.{◌≡◌, ◌≤◌, ◌+◌, ℕ, List, length, sym, subst, arith}
use Rattle.std.specs.Prelude.{ℤ}
use Rattle.leb_codec.specs.LineCosts.{IsLeastCost}
use Rattle.line_machine.specs.declared.head.Head.{Head}
use Rattle.line_machine.specs.declared.registers.Row.{Row}
use Rattle.line_machine.specs.Class.{Encoding, IsEncoding, IsTaken}
use Rattle.line_params.specs.declared.pair.Pair.{Pair}
use Rattle.line_sums.specs.Steps.{StepsWithin, steps_of, fixed_bytes}
use Rattle.line_params.specs.Pairs.{IsLeastPair}
use Rattle.line_sums.proofs.Bound.{no_shorter}

abbrev pub under : Pair → List ℕ → Encoding
under pair program = record { base = pair.base; range = pair.range; bytes = program }

pub choice_taken : (head : Head) (rows : List Row) (pair : Pair) (program : List ℕ) → head.min ≤ 255 → IsLeastPair head (steps_of rows) pair → IsEncoding head rows (under pair program) → ((k : ℕ) → StepsWithin pair.base pair.range head.min (steps_of rows) k → length program ≤ fixed_bytes head.stmt rows + k) → IsTaken head rows (under pair program)
choice_taken head rows pair program h chosen member short =
    let size = short chosen.bytes chosen.enough in
    record {
      least = record {
        member = member;
        least = λ other is.
            let cost = no_shorter head rows other h is in
            omega (arith, size, cost.2, chosen.least other.base other.range cost.0 is.pair cost.1);
      };
      first = λ other is same.
          let cost = no_shorter head rows other h is in
          let e : cost.0 ≡ chosen.bytes = omega (arith, same, size, cost.2, chosen.least other.base other.range cost.0 is.pair cost.1) in
          chosen.first other.base other.range is.pair (subst (λ (k : ℕ). StepsWithin other.base other.range head.min (steps_of rows) k) e cost.1);
    }

-- the program has the bytes that no pair changes and those of the steps
pub written_bytes : (head : Head) (rows : List Row) (base : ℤ) (pair : Pair) (bytes : ℕ) (program : List ℕ) → head.min ≤ 255 → base ≡ pair.base → IsLeastCost (StepsWithin pair.base pair.range head.min (steps_of rows)) bytes → IsEncoding head rows (record { base = base; range = pair.range; bytes = program }) → ((k : ℕ) → StepsWithin base pair.range head.min (steps_of rows) k → length program ≤ fixed_bytes head.stmt rows + k) → fixed_bytes head.stmt rows + bytes ≡ length program
written_bytes head rows base pair bytes program h same least member short =
    let cost = no_shorter head rows (record { base = base; range = pair.range; bytes = program }) h member in
    let low = least.least cost.0 (subst (λ (z : ℤ). StepsWithin z pair.range head.min (steps_of rows) cost.0) same cost.1) in
    let high = short bytes (subst (λ (z : ℤ). StepsWithin z pair.range head.min (steps_of rows) bytes) (sym same) least.enough) in
    omega (arith, low, high, cost.2)

-- the same, where the numbers of the pair and the rows are named otherwise
pub written_taken : (head : Head) (rows others : List Row) (base : ℤ) (pair : Pair) (program : List ℕ) → head.min ≤ 255 → base ≡ pair.base → others ≡ rows → IsLeastPair head (steps_of others) pair → IsEncoding head others (record { base = base; range = pair.range; bytes = program }) → ((k : ℕ) → StepsWithin base pair.range head.min (steps_of others) k → length program ≤ fixed_bytes head.stmt others + k) → IsTaken head rows (record { base = base; range = pair.range; bytes = program })
written_taken head rows others base pair program h same_base same chosen member short =
    subst (λ (z : List Row). IsTaken head z (record { base = base; range = pair.range; bytes = program })) same (
    subst (λ (z : ℤ). IsTaken head others (record { base = z; range = pair.range; bytes = program })) (sym same_base) (
    choice_taken head others pair program h chosen (subst (λ (z : ℤ). IsEncoding head others (record { base = z; range = pair.range; bytes = program })) same_base member) (
    subst (λ (z : ℤ). (k : ℕ) → StepsWithin z pair.range head.min (steps_of others) k → length program ≤ fixed_bytes head.stmt others + k) same_base short
    )
    )
    )
