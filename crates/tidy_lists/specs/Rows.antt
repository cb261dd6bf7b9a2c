-- What may be amiss with the places of lists and view pairs, by offsets in the written file.
use Rattle.std.specs.Prelude.{◌≡◌, ◌+◌, ℕ, List}
use Rattle.list_model.specs.declared.entry.ListKind.{ListKind}
use Rattle.value_links.specs.Reading.{Reading}
use Rattle.value_links.specs.Sections.{offset_named, lists_name}
use Rattle.value_links.specs.Whole.{IsReading}
use Rattle.tidy_lists.specs.Due.{Row, HoldsAt}

-- a row holds at an offset in the written file, by what is read of both files
pub record IsMisplaced (file written : List ℕ) (row : Row) (p : ℕ) : Type 0 where
  pub r : Reading
  pub s : Reading
  pub read : IsReading file r
  pub again : IsReading written s
  pub kind : ListKind
  pub inner : ℕ
  pub holds : HoldsAt row kind r s inner
  pub place : p ≡ offset_named written (lists_name kind) + inner
