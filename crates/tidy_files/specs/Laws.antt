-- Laws: a file that is written anew is tidy, and what a tidy one holds.
use Rattle.std.specs.Prelude.{◌<◌, ℕ, List, length}
use Rattle.dw_base.specs.declared.classes.Classes.{Classes}
use Rattle.list_model.specs.declared.entry.ListKind.{ListKind}
use Rattle.value_links.specs.Reading.{Reading, of_kind}
use Rattle.value_links.specs.Same.{Same}
use Rattle.value_links.specs.Sections.{debug_abbrev}
use Rattle.value_links.specs.Whole.{IsReading}
use Rattle.written_files.specs.Written.{IsWrittenAnew}
use Rattle.tidy_files.specs.Tidy.{IsTidy}
use Rattle.tidy_files.specs.Whole.{HasTiledTables, HasRenewedEntries, IsFilledByLists}

abbrev pub WrittenFilesAreTidy : Type 0
WrittenFilesAreTidy = (classes : Classes) (file written : List ℕ) → IsWrittenAnew classes file written → IsTidy classes file written

-- What a tidy file holds of tables, entries and contributions: tables tile in the order of the old ones, entries have the declarations that
-- correspond to their own, and contributions are filled. The rows of sections, codes, columns, units, programs and numbers are what they say.
pub record IsWholeFor (written : List ℕ) (r s : Reading) : Type 0 where
  pub tables : HasTiledTables r.links s.links (debug_abbrev written)
  pub entries : HasRenewedEntries r.links s.links
  pub filled : (kind : ListKind) (p : ℕ) → p < length (of_kind s.links kind).parts → IsFilledByLists kind s p

abbrev pub TidyFilesAreWhole : Type 0
TidyFilesAreWhole = (classes : Classes) (file written : List ℕ) (r s : Reading) → IsReading file r → IsReading written s → Same file written → IsTidy classes file written → IsWholeFor written r s
