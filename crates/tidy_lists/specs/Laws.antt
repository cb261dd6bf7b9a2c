-- A law: the lists and view pairs of a file that is written anew are where they are due, and contributions hold nothing else.
use Rattle.std.specs.Prelude.{ℕ, List}
use Rattle.dw_base.specs.declared.classes.Classes.{Classes}
use Rattle.written_files.specs.Written.{IsWrittenAnew}
use Rattle.tidy_lists.specs.Due.{Row}
use Rattle.tidy_lists.specs.Rows.{IsMisplaced}

abbrev pub WrittenListsAreInPlace : Type 0
WrittenListsAreInPlace = (classes : Classes) (file written : List ℕ) → IsWrittenAnew classes file written → (row : Row) (p : ℕ) → IsMisplaced file written row p → ⊥
