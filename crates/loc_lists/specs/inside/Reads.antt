-- Entries of location lists and expressions that are read at a place of bytes.
use Rattle.std.specs.Prelude.{◌≤◌, ◌<◌, ◌-◌, ◌+◌, ℕ, List, length, take, drop}
use Rattle.dw_base.specs.declared.fault.Span.{Span}
use Rattle.list_model.specs.Entries.{Entry}
use Rattle.loc_lists.specs.declared.read.ReadLocation.{ReadLocation}
use Rattle.loc_lists.specs.Locations.{SpellsExpression, bytes_in, IsRead}

-- where an expression lies whose length stands at a place
pub record IsReadExpression (bytes : List ℕ) (at : ℕ) (expr : Span) : Type 0 where
  pub after : at ≤ expr.at
  pub inside : expr.at + expr.len ≤ length bytes
  pub spelled : SpellsExpression (bytes_in bytes expr) (take (expr.at + expr.len - at) (drop at bytes))

-- what is read of an entry with its expression at a place
pub record IsReadLocation (bytes : List ℕ) (at : ℕ) (read : ReadLocation) : Type 0 where
  pub location : Entry × List ℕ
  pub after : at < read.end
  pub inside : read.end ≤ length bytes
  pub is : IsRead at read.raw location (take (read.end - at) (drop at bytes))
