-- The special opcodes of a row and its line distance, for runs of line_base. Private functions alone cite this. `scale` is
-- minimum_instruction_length.
use Rattle.std.specs.Prelude.{◌≡◌, ◌≤◌, ◌+◌, ◌*◌, ◌%◌, ◌⊎◌, ℕ, ℤ, pos, ◌-ℤ◌, ◌≤ℤ◌, ◌<ℤ◌, IsTrue}
use Rattle.leb_codec.specs.Leb.{least_signed_len}
use Rattle.leb_codec.specs.LineCosts.{IsLeastCost, AdvanceWithin, RowWithin, StepWithin, last_special, special_advance, address_distance, advance_line_bytes}
use Rattle.line_sums.specs.declared.line_run.LineRun.{LineRun}
use Rattle.line_sums.specs.declared.sums.StepRun.{StepRun}
use Rattle.line_sums.specs.declared.window.Windows.{Windows}
use Rattle.line_sums.specs.Sums.{base_at}

-- n bytes are enough to advance the address before special opcode s
abbrev pub BeforeSpecial : ℕ → ℕ → ℕ → ℕ → ℕ → Type 0
BeforeSpecial range scale distance s n = AdvanceWithin range scale (address_distance (special_advance range scale s) distance) n

-- for each number up to `most` there is a special opcode that adds it to line_base, before which the address takes so few bytes
pub record IsReached (range scale distance most bytes : ℕ) : Type 0 where
  pub opcode : (r : ℕ) → r ≤ most → (s : ℕ) × (s ≤ last_special) × (s % range ≡ r) × BeforeSpecial range scale distance s bytes

-- the special opcodes of a row fall into these two kinds, or one of that kind is as good
pub record AreWindows (range scale distance : ℕ) (w : Windows) : Type 0 where
  pub wide : IsReached range scale distance w.wide.most w.wide.address
  pub last : IsReached range scale distance w.last.most w.last.address
  pub covers : (s n : ℕ) → s ≤ last_special → BeforeSpecial range scale distance s n →
      ((s % range ≤ w.wide.most) × (w.wide.address ≤ n)) ⊎ ((s % range ≤ w.last.most) × (w.last.address ≤ n))
  pub one : IsTrue w.is_one → w.last ≡ w.wide

-- the fewest bytes of a line distance that is lessened by a number up to `most`
pub record IsLineCost (line : ℤ) (most bytes : ℕ) : Type 0 where
  pub fewest : (r : ℕ) → r ≤ most → bytes ≤ advance_line_bytes (line -ℤ pos r)
  pub taken : (r : ℕ) × (r ≤ most) × (bytes ≡ advance_line_bytes (line -ℤ pos r))

-- line distances from the lowest of the run up to this one take as many bytes
pub record IsLineRun (line : ℤ) (most : ℕ) (run : LineRun) : Type 0 where
  pub each : (lower : ℤ) → run.low ≤ℤ lower → lower ≤ℤ line → IsLineCost lower most run.bytes

-- the step takes these bytes wherever its line distance less line_base is between the two
pub record IsStepRun (left : ℤ) (copy : ℕ) (w : Windows) (run : StepRun) : Type 0 where
  pub least : (base : ℤ) (range scale : ℕ) (line : ℤ) (distance : ℕ) → AreWindows range scale distance w →
      IsLeastCost (RowWithin range scale line distance) copy → run.low ≤ℤ (line -ℤ base) → (line -ℤ base) ≤ℤ left →
      IsLeastCost (StepWithin base range scale line distance) run.bytes

-- the least number above 0 that has at least so many bytes as a signed LEB128
pub record IsLeastOfLen (len : ℕ) (value : ℤ) : Type 0 where
  pub some : pos 0 <ℤ value
  pub from : (z : ℤ) → pos 0 <ℤ z → value ≤ℤ z → len ≤ least_signed_len z
  pub to : (z : ℤ) → pos 0 <ℤ z → len ≤ least_signed_len z → value ≤ℤ z

-- the second number is the first and what a counted step costs under the line_base of a place
pub record AddsRun (line : ℤ) (copy : ℕ) (w : Windows) (count place old new : ℕ) : Type 0 where
  pub run : StepRun
  pub right : IsStepRun (line -ℤ base_at place) copy w run
  pub reached : run.low ≤ℤ (line -ℤ base_at place)
  pub few : run.bytes ≤ copy
  pub added : new ≡ old + count * run.bytes
