-- The rows of what may be untidy with tables and declarations, in the order in which they are looked at. Places are offsets in the written
-- file.
use Rattle.std.specs.Prelude.{◌≡◌, ◌+◌, ℕ, List, length}
use Rattle.dw_base.specs.declared.classes.Classes.{Classes}
use Rattle.value_links.specs.Reading.{Linkable, Reading}
use Rattle.value_links.specs.Sections.{offset_named, debug_abbrev, info_name, abbrev_name}
use Rattle.value_links.specs.Whole.{IsReading}
use Rattle.tidy_tables.specs.Untidy.{IsUntidyTable, IsLoose, IsMissing, IsUntidyDeclaration, IsUntidyEntry}

pub data Row : Type 0 where
  OfTable : Row
  OfLooseByte : Row
  OfMissingTable : Row
  OfDeclaration : Row
  OfEntry : Row

abbrev pub order_of : Row → ℕ
order_of OfTable = 0
order_of OfLooseByte = 1
order_of OfMissingTable = 2
order_of OfDeclaration = 3
order_of OfEntry = 4

-- the name of the section in which the places of a row are
abbrev pub section_of : Row → List ℕ
section_of OfEntry = info_name
section_of row = abbrev_name

-- A row holds at a place of its section. That a table is missing is said of the end of .debug_abbrev.
abbrev pub HoldsAt : Classes → List ℕ → Linkable → Linkable → Row → ℕ → Type 0
HoldsAt classes section r s OfTable p = IsUntidyTable r s p
HoldsAt classes section r s OfLooseByte p = IsLoose section s p
HoldsAt classes section r s OfMissingTable p = IsMissing r s × (p ≡ length section)
HoldsAt classes section r s OfDeclaration p = IsUntidyDeclaration classes s p
HoldsAt classes section r s OfEntry p = IsUntidyEntry r s p

-- It holds at an offset in the written file, by what is read of both files.
pub record IsUntidy (classes : Classes) (file written : List ℕ) (row : Row) (p : ℕ) : Type 0 where
  pub r : Reading
  pub s : Reading
  pub read : IsReading file r
  pub again : IsReading written s
  pub inner : ℕ
  pub holds : HoldsAt classes (debug_abbrev written) r.links s.links row inner
  pub place : p ≡ offset_named written (section_of row) + inner
