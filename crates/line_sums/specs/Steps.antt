-- What the rows of a line number program cost (DWARF 5 section 6.2.5) under a pair of line_base and line_range, in two
-- parts: the steps of line and address, which depend on the pair, and the other registers, which don't.
-- `base` is line_base, `range` is line_range, and `scale` is minimum_instruction_length.
use Rattle.std.specs.Prelude.{◌≤◌, ◌+◌, ℕ, ℤ, pos, ◌-ℤ◌, List, [], ◌∷◌, Bool, false, if◌then◌else◌, ⊤}
use Rattle.leb_codec.specs.LineCosts.{address_distance, StepWithin, EndWithin, register_bytes, stmt_bytes, flag_bytes, discriminator_bytes}
use Rattle.line_machine.specs.declared.registers.Registers.{Registers}
use Rattle.line_machine.specs.declared.registers.Row.{Row}
use Rattle.line_machine.specs.Rows.{start}
use Rattle.line_sums.specs.declared.step.Step.{Step}
use Rattle.line_sums.specs.declared.step.Step.TheVariants.{Row as RowStep, End as EndStep}

-- the step to a row, from a line and an address
abbrev pub step_to : ℤ → ℕ → Row → Step
step_to line address row =
    if row.end then EndStep (address_distance address row.address) else RowStep (pos row.line -ℤ line) (address_distance address row.address)

-- the line and the address that a row leaves: its own, and after the end of a sequence those at the start of one
abbrev pub line_left_by : Row → ℤ
line_left_by row = if row.end then pos 1 else pos row.line

abbrev pub address_left_by : Row → ℕ
address_left_by row = if row.end then 0 else row.address

-- the steps of rows, from a line and an address on
abbrev pub steps_from : ℤ → ℕ → List Row → List Step
steps_from line address [] = []
steps_from line address (row ∷ rows) = step_to line address row ∷ steps_from (line_left_by row) (address_left_by row) rows

-- the steps of a program's rows
abbrev pub steps_of : List Row → List Step
steps_of rows = steps_from (pos 1) 0 rows

-- n bytes are enough for a step
abbrev pub StepCosts : ℤ → ℕ → ℕ → Step → ℕ → Type 0
StepCosts base range scale (RowStep line distance) n = StepWithin base range scale line distance n
StepCosts base range scale (EndStep distance) n = EndWithin range scale distance n

-- n bytes are enough for steps, one after the other
abbrev pub StepsWithin : ℤ → ℕ → ℕ → List Step → ℕ → Type 0
StepsWithin base range scale [] n = ⊤
StepsWithin base range scale (s ∷ ss) n = (a : ℕ) × (b : ℕ) × StepCosts base range scale s a × StepsWithin base range scale ss b × (a + b ≤ n)

-- the registers that a row leaves: its own but for those that a row clears, and after the end of a sequence those at the
-- start of one, where `stmt` is default_is_stmt
abbrev pub left_by : Bool → Row → Registers
left_by stmt row =
    if row.end then start stmt
    else record {
      address = row.address;
      line = pos row.line;
      file = row.file;
      column = row.column;
      isa = row.isa;
      discriminator = 0;
      stmt = row.stmt;
      block = false;
      prologue = false;
      epilogue = false;
    }

-- the bytes that set a row's registers but for its line and its address, after registers that a row or a start leaves;
-- before the end of a sequence none is set
abbrev pub set_bytes : Registers → Row → ℕ
set_bytes r row =
    if row.end then 0
    else register_bytes r.file row.file + register_bytes r.column row.column + register_bytes r.isa row.isa + stmt_bytes r.stmt row.stmt + flag_bytes row.block + flag_bytes row.prologue + flag_bytes row.epilogue + discriminator_bytes row.discriminator

-- the same bytes of rows, from registers on
abbrev pub set_bytes_from : Bool → Registers → List Row → ℕ
set_bytes_from stmt r [] = 0
set_bytes_from stmt r (row ∷ rows) = set_bytes r row + set_bytes_from stmt (left_by stmt row) rows

-- the bytes of a program's rows that are the same under every pair
abbrev pub fixed_bytes : Bool → List Row → ℕ
fixed_bytes stmt rows = set_bytes_from stmt (start stmt) rows
