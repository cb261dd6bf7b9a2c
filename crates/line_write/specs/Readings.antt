-- What is read of the line number programs of a section, and where they begin once they are written anew.
use Rattle.std.specs.Prelude.{◌≡◌, ◌≤◌, ℕ, List, length, map, All}
use Rattle.std.specs.List.{AllZip, sum_by}
use Rattle.line_machine.specs.declared.head.Head.{Head}
use Rattle.line_machine.specs.declared.registers.Row.{Row}
use Rattle.line_machine.specs.Rows.{GivesRows}
use Rattle.line_machine.specs.Heads.{program_of}
use Rattle.line_machine.specs.Faults.{row_limit}
use Rattle.line_write.specs.Programs.{Tile}
use Rattle.line_write.specs.Meaning.{ProgramMeaning, HaveMeanings}
use Rattle.line_write.specs.Faults.{total_limit}

-- The heads are those of all programs of the section; each program gives rows, which keep the limits of one and of all.
pub record AreRead (section : List ℕ) (heads : List Head) : Type 0 where
  pub tiled : Tile section heads
  pub rows : List (List Row)
  pub given : AllZip (λ (head : Head) (rows : List Row). GivesRows head (program_of section head) rows) heads rows
  pub each : All (λ (rows : List Row). length rows ≤ row_limit) rows
  pub all : sum_by (λ (rows : List Row). length rows) rows ≤ total_limit

-- The programs of a section, written anew, begin at these places, are read, and mean the same one by one.
pub record StandAnew (section : List ℕ) (heads : List Head) (bytes starts : List ℕ) : Type 0 where
  pub written : List Head
  pub read : AreRead bytes written
  pub places : starts ≡ map (λ (head : Head). head.at) written
  pub count : length written ≡ length heads
  pub means : (meanings : List ProgramMeaning) → HaveMeanings section heads meanings → HaveMeanings bytes written meanings
