-- Expressions and the operands of lists that are kept of a file that is written anew have no number with a byte too many.
use Rattle.std.specs.Prelude.{◌<◌, ℕ, List, length}
use Rattle.list_model.specs.declared.entry.ListKind.{ListKind}
use Rattle.value_links.specs.Reading.{Reading, lists_of, list_at}
use Rattle.written_files.specs.inside.Counterparts.{AreAnew}
use Rattle.tidy_numbers.specs.LongLists.{IsLongInKept, IsLongInList}
use Rattle.tidy_numbers.specs.LongNumbers.{IsLongInExpressions}

-- the expressions of its entries and of its location lists
abbrev pub ExpressionsAreShort : Type 0
ExpressionsAreShort = (file written : List ℕ) (r s : Reading) → AreAnew file written r s → ((p : ℕ) → IsLongInExpressions s p → ⊥) × ((k p : ℕ) → k < length s.location_lists → IsLongInList s.links (list_at s.location_lists k) p → ⊥)

-- the operands of its lists that are kept
abbrev pub OperandsAreShort : Type 0
OperandsAreShort = (file written : List ℕ) (r s : Reading) → (anew : AreAnew file written r s) → (kind : ListKind) (k p : ℕ) → k < length (lists_of s kind) → IsLongInKept anew.classes s.links kind (list_at (lists_of s kind) k) p → ⊥
