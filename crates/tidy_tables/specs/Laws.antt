-- A law: of a file that is written anew none of the rows of tables, declarations and entries holds at any place.
use Rattle.std.specs.Prelude.{ℕ, List}
use Rattle.dw_base.specs.declared.classes.Classes.{Classes}
use Rattle.written_files.specs.Written.{IsWrittenAnew}
use Rattle.tidy_tables.specs.Rows.{Row, IsUntidy}

abbrev pub WrittenTablesAreTidy : Type 0
WrittenTablesAreTidy = (classes : Classes) (file written : List ℕ) → IsWrittenAnew classes file written → (row : Row) (p : ℕ) → IsUntidy classes file written row p → ⊥
