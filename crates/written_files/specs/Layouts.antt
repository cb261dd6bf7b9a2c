-- The layout of a unit that is written: how many bytes each of its slots has (DWARF 5 sections 2.5.1.1 to 2.5.1.7, 2.6.2, 7.5.5 and 7.6). A
-- slot is a number that counts bytes of the unit of which some may be those of other slots, so that their sizes depend on each other: a
-- reference within the unit, the length of an expression, and in an expression a call or a reference to a base type. The expressions are
-- those of its entries and those of the location lists that it owns. The latter stand in no unit, so no number counts their bytes but the
-- lengths of the expressions themselves.
use Rattle.std.specs.Prelude.{◌≡◌, ◌<◌, ◌+◌, ◌++◌, ℕ, List, length, map, flat_map, slice_index, Some}
use Rattle.std.specs.List.{All, AllZip, Contains}
use Rattle.dw_base.specs.declared.fault.Span.{Span}
use Rattle.dw_base.specs.declared.fault.Reach.TheVariants.{Wide}
use Rattle.leb_codec.specs.Layout.{SlotRow, row_at, slot_number, need, IsLeastLayout}
use Rattle.expr_ops.specs.Expressions.{Operation, IsExpression}
use Rattle.expr_ops.specs.Slots.{Aim, expression_aims}
use Rattle.expr_ops.specs.Slots.Aim.{Place, Length}
use Rattle.form_codec.specs.Values.{bytes_in}
use Rattle.entry_arena.specs.declared.entry.Entry.{Entry}
use Rattle.entry_arena.specs.Arena.{Arena}
use Rattle.entry_read.specs.Expressions.{IsExprAt}
use Rattle.entry_read.specs.Slots.{aims_of, aim_at, IsRowOf}
use Rattle.list_model.specs.declared.entry.ListKind.TheVariants.{Locations}
use Rattle.value_links.specs.Reading.{Reading, unit_at, list_at}
use Rattle.value_links.specs.Lists.{IsOwner, expressions_at}
use Rattle.written_files.specs.Classes.{OfReadings}

-- LISTS THAT A UNIT OWNS

-- the numbers below a count of which this holds, rising
pub record AreNumbersOf (Holds : ℕ → Type 0) (count : ℕ) (numbers : List ℕ) : Type 0 where
  pub rising : (i j : ℕ) → i < j → j < length numbers → slice_index numbers i < slice_index numbers j
  pub those : All (λ (k : ℕ). (k < count) × Holds k) numbers
  pub all : (k : ℕ) → k < count → Holds k → Contains numbers k

-- those of the location lists that a unit owns, which stand in the order of their places
abbrev pub AreOwnedLists : Reading → ℕ → List ℕ → Type 0
AreOwnedLists s u numbers = AreNumbersOf (λ (k : ℕ). IsOwner s.links Locations (list_at s.location_lists k).at (Some u)) (length s.location_lists) numbers

-- the expressions of lists with these numbers
abbrev pub list_expressions : Reading → List ℕ → List (List ℕ)
list_expressions s numbers = flat_map (λ (k : ℕ). expressions_at s.links Locations (list_at s.location_lists k)) numbers

-- THE SLOTS OF A UNIT

-- the place that a slot tells, of a unit that begins at another; a length tells none
abbrev pub place_told : ℕ → Aim → ℕ
place_told at (Place form n) = at + n
place_told at (Length fixed count) = at

-- what the slots of a unit tell: its own, in the order of their places, and then those of the expressions of lists
abbrev pub all_aims : Arena → (ℕ → List Operation) → List (List Operation) → List Aim
all_aims f ops lists = aims_of f ops ++ flat_map expression_aims lists

-- The unit with a number has these operations in its expressions, and so have the location lists that it owns. There is a row for each of
-- its slots, and a size. Under these sizes the number of a slot that tells a place is that of the place in the file; that of a length counts the
-- other numbers of its expression in their fewest bytes, and is the length where none of them has a byte too many.
pub record HasSlots (s : Reading) (u : ℕ) (rows : List SlotRow) (sizes : List ℕ) : Type 0 where
  pub ops : ℕ → List Operation
  pub spelled : (k : ℕ) (span : Span) → IsExprAt (unit_at s.links u).forest k span → IsExpression Wide (ops k) (bytes_in (unit_at s.links u).forest.section span)
  pub owned : List ℕ
  pub owns : AreOwnedLists s u owned
  pub lists : List (List Operation)
  pub lists_spelled : AllZip (IsExpression Wide) lists (list_expressions s owned)
  pub count : length rows ≡ length (all_aims (unit_at s.links u).forest ops lists)
  pub each : length sizes ≡ length rows
  pub slots : (i : ℕ) → i < length rows → IsRowOf (unit_at s.links u).forest ops (map (λ (e : Entry). e.at) (unit_at s.links u).forest.entries) sizes (unit_at s.links u).head.at (place_told (unit_at s.links u).head.at (aim_at (all_aims (unit_at s.links u).forest ops lists) i)) i (aim_at (all_aims (unit_at s.links u).forest ops lists) i) (row_at rows i)

-- The sizes are those of the numbers that stand in the slots, each in its fewest bytes. That the slots stand in so many bytes is
-- what is said of the forms of columns and of tidy units and expressions.
pub record HasLayout (s : Reading) (u : ℕ) (rows : List SlotRow) (sizes : List ℕ) : Type 0 where
  pub made : HasSlots s u rows sizes
  pub sized : (i : ℕ) → i < length rows → slice_index sizes i ≡ need (row_at rows i).form (slot_number sizes (row_at rows i))

-- among all sizes under which each slot holds its own number theirs is the least sum
pub record HasLeastLayout (s : Reading) (u : ℕ) : Type 0 where
  pub rows : List SlotRow
  pub sizes : List ℕ
  pub layout : HasLayout s u rows sizes
  pub least : IsLeastLayout rows sizes

-- all units of the written file have
abbrev pub HaveLeastLayouts : List ℕ → List ℕ → Type 0
HaveLeastLayouts = OfReadings (λ r s. (u : ℕ) → u < length s.links.units → HasLeastLayout s u)
