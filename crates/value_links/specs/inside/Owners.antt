-- Which attribute of which entry has a value, by the value's number among the values of all entries of a unit.
use Rattle.std.specs.Prelude.{◌≤◌, ◌<◌, ◌+◌, ◌-◌, ℕ, List, length}
use Rattle.abbrev_tables.specs.Tables.{Declared}
use Rattle.abbrev_tables.specs.Listings.{spec_at}
use Rattle.entry_arena.specs.declared.entry.Entry.{Entry}
use Rattle.entry_arena.specs.Arena.{entry_at}
use Rattle.entry_arena.specs.Trees.{declared_at}

-- The entry with a number has the value with a number.
pub record IsOwner (entries : List Entry) (id value : ℕ) : Type 0 where
  pub known : id < length entries
  pub from : (entry_at entries id).first ≤ value
  pub to : value < (entry_at entries id).first + (entry_at entries id).count

-- the name of the attribute of an entry that has it, by the declaration of the entry
abbrev pub name_with : List Declared → Entry → ℕ → ℕ
name_with ds entry value = (spec_at (declared_at ds entry.decl).columns (value - entry.first)).name
