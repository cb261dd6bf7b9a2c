-- Laws of line number programs.
use Rattle.std.specs.Prelude.{◌≡◌, ℕ, List}
use Rattle.dw_base.specs.Refusals.{IsFaulty}
use Rattle.line_machine.specs.declared.head.Head.{Head}
use Rattle.line_write.specs.Faults.{LinesFault}
use Rattle.line_write.specs.Meaning.{ProgramMeaning, MeansLines}
use Rattle.line_write.specs.Readings.{AreRead}

-- A section has one list of meanings.
abbrev pub OneMeaning : Type 0
OneMeaning = (section : List ℕ) (some others : List ProgramMeaning) → MeansLines section some → MeansLines section others → some ≡ others

-- A section whose programs are read has none of their faults.
abbrev pub LinesRead : Type 0
LinesRead = (section : List ℕ) (heads : List Head) → AreRead section heads → ¬ IsFaulty (LinesFault section)
