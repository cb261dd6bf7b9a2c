-- A law: no LEB128 number of a file that is written anew has a byte too many, but for slots, operands of lists that aren't kept, and what
-- .debug_line holds, which are judged otherwise.
use Rattle.std.specs.Prelude.{ℕ, List}
use Rattle.dw_base.specs.declared.classes.Classes.{Classes}
use Rattle.written_files.specs.Written.{IsWrittenAnew}
use Rattle.tidy_numbers.specs.LongNumbers.{IsLongNumber}

abbrev pub WrittenNumbersAreShort : Type 0
WrittenNumbersAreShort = (classes : Classes) (file written : List ℕ) → IsWrittenAnew classes file written → (p : ℕ) → IsLongNumber classes written p → ⊥
