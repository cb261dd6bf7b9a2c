-- The lists that keep their entries, and the line number programs that keep their bytes, when a file is written anew: because the classes say so,
-- or because the list is frozen. All others are the least.
use Rattle.std.specs.Prelude.{◌≡◌, ◌⊎◌, ℕ, List, [], true, false}
use Rattle.dw_base.specs.declared.classes.Classes.{Classes}
use Rattle.dw_base.specs.declared.record.Run.{Run}
use Rattle.line_machine.specs.declared.head.Head.{Head}
use Rattle.line_machine.specs.declared.registers.Row.{Row}
use Rattle.line_write.specs.Least.{LeastLines, OrderedLines}
use Rattle.line_write.specs.Records.{HaveRuns}
use Rattle.list_model.specs.declared.entry.ListKind.{ListKind}
use Rattle.value_links.specs.Lists.{IsFrozen}
use Rattle.value_links.specs.Reading.{ListRead, Linkable}
use Rattle.value_links.specs.Sections.{debug_line}

-- A list is kept by its entries where it is frozen, and where the classes have no other entries.
abbrev pub IsKept : Classes → Linkable → ListKind → ListRead → Type 0
IsKept classes r kind list = (classes.lists ≡ false) ⊎ IsFrozen r kind list

-- Each line number program is the least that gives its rows, or, where the classes have no other opcodes, .debug_line is as it was.
pub record HaveLeastLines (classes : Classes) (file written : List ℕ) : Type 0 where
  pub least : classes.lines ≡ true → LeastLines (debug_line file) (debug_line written)
  pub kept : classes.lines ≡ false → debug_line written ≡ debug_line file

-- Which of the least line number programs is written: its pair comes first, and its opcodes stand in the order that is stated for them. Of a
-- .debug_line that is kept nothing is said.
abbrev pub HaveOrderedLines : Classes → List ℕ → List ℕ → Type 0
HaveOrderedLines classes file written = classes.lines ≡ true → OrderedLines (debug_line file) (debug_line written)

-- There are runs for each line number program of a section, or, where the classes have no other opcodes, none.
pub record HaveRunsIn (classes : Classes) (Judge : Head → List Row → ℕ → List Run → Type 0) (lines : List ℕ) (runs : List (List Run)) : Type 0 where
  pub searched : classes.lines ≡ true → HaveRuns Judge lines runs
  pub kept : classes.lines ≡ false → runs ≡ []
