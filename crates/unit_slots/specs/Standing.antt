-- The slots of a unit as they stand in a file: how many bytes each has (DWARF 5 sections 2.5.1.1 to 2.5.1.7, 2.6.2, 7.5.5 and 7.6). A number
-- in LEB128 may have more bytes than it needs.
use Rattle.std.specs.Prelude.{◌≡◌, ◌≢◌, ◌<◌, ◌+◌, ◌-◌, ◌⊎◌, ◌++◌, ◌∷◌, ℕ, List, [], length, drop, flat_map, slice_index, slice_index_or, Some, filter}
use Rattle.std.specs.List.{AllZip}
use Rattle.dw_base.specs.declared.fault.Reach.TheVariants.{Wide}
use Rattle.leb_codec.specs.Leb.{Uleb}
use Rattle.leb_codec.specs.Layout.{SlotRow, IsLeastLayout}
use Rattle.expr_ops.specs.declared.op.Op.{Op}
use Rattle.expr_ops.specs.declared.table.Operands.{Operands}
use Rattle.expr_ops.specs.declared.table.Operands.TheVariants as operands
use Rattle.expr_ops.specs.Drafts.{is_slot}
use Rattle.expr_ops.specs.Expressions.{IsExpression}
use Rattle.expr_ops.specs.Heads.{Part, SpellsPart}
use Rattle.expr_ops.specs.Ops.{all_meant, Chain}
use Rattle.expr_ops.specs.Table.{operands_of}
use Rattle.form_codec.specs.Forms.{Meaning, SpellsValue}
use Rattle.form_codec.specs.Forms.Meaning.{Expression, InUnit}
use Rattle.entry_arena.specs.Trees.{SpellsBetween}
use Rattle.list_model.specs.declared.entry.EntryKind.{EntryKind}
use Rattle.list_model.specs.declared.entry.ListKind.{ListKind}
use Rattle.list_model.specs.declared.entry.ListKind.TheVariants.{Locations}
use Rattle.list_model.specs.declared.entry.RawEntry.{RawEntry}
use Rattle.list_model.specs.Entries.{code_of, SpellsOperands}
use Rattle.loc_lists.specs.Locations.{items_among, bytes_in}
use Rattle.slot_layout.specs.Rows.{CanBeSizes}
use Rattle.written_files.specs.Layouts.{AreOwnedLists, HasSlots}
use Rattle.value_links.specs.Reading.{UnitRead, ListRead, Reading, unit_at, list_at}
use Rattle.value_links.specs.Values.{HasValueAt}
use Rattle.value_links.specs.Whole.{IsReading}

-- the bytes begin with a number in ULEB128 that has so many bytes
pub record BeginsWith (size : ℕ) (bytes : List ℕ) : Type 0 where
  pub number : ℕ
  pub first : List ℕ
  pub rest : List ℕ
  pub spelled : Uleb number first
  pub whole : bytes ≡ first ++ rest
  pub sized : size ≡ length first

-- OPERATIONS

-- The slot among the operands of an operation, which begin the bytes: the only one, the first of two, or the number of a base type, which
-- stands last.
abbrev pub IsSlotAmong : Operands → ℕ → List ℕ → Type 0
IsSlotAmong operands.Nothing size bytes = ⊥
IsSlotAmong (operands.One s) size bytes = BeginsWith size bytes
IsSlotAmong (operands.Two s t) size bytes = BeginsWith size bytes
IsSlotAmong (operands.Typed s) size bytes = (part : Part) × (first : List ℕ) × (rest : List ℕ) × SpellsPart s part first × (bytes ≡ first ++ rest) × BeginsWith size rest

-- the operand of DW_OP_call2 has two bytes and that of DW_OP_call4 four
abbrev pub IsCallSize : ℕ → ℕ → Type 0
IsCallSize opcode size = ((opcode ≡ 152) × (size ≡ 2)) ⊎ ((opcode ≡ 153) × (size ≡ 4))

-- the slot of an operation, whose expression has these bytes, has so many
pub record IsSizeOf (bytes : List ℕ) (op : Op) (size : ℕ) : Type 0 where
  pub call : op.code ≡ 153 → IsCallSize (slice_index bytes op.at) size
  pub other : op.code ≢ 153 → (operands : Operands) × (operands_of op.code ≡ Some operands) × IsSlotAmong operands size (drop (op.at + 1) bytes)

-- the operations with a slot
abbrev pub slotted : List Op → List Op
slotted ops = filter (λ (op : Op). is_slot op.code op.a) ops

-- The slots of the operations of an expression have these sizes, in their order.
pub record AreSizesIn (bytes sizes : List ℕ) : Type 0 where
  pub ops : List Op
  pub spelled : IsExpression Wide (all_meant bytes ops) bytes
  pub places : Chain bytes 0 ops (length bytes)
  pub each : AllZip (IsSizeOf bytes) (slotted ops) sizes

-- The length of an expression has the first size, and the slots of its operations the others. The length stands at the front of some bytes.
abbrev pub AreExpressionSizes : List ℕ → List ℕ → List ℕ → Type 0
AreExpressionSizes front bytes [] = ⊥
AreExpressionSizes front bytes (size ∷ sizes) = BeginsWith size front × AreSizesIn bytes sizes

-- VALUES

-- The slots of a value that means this and stands from a place of the section up to another have these sizes: a reference within the unit is one
-- slot with all its bytes.
abbrev pub AreMeaningSizes : List ℕ → ℕ → ℕ → Meaning → List ℕ → Type 0
AreMeaningSizes section from to (InUnit n) sizes = sizes ≡ (to - from) ∷ []
AreMeaningSizes section from to (Expression bytes) sizes = AreExpressionSizes (drop from section) bytes sizes
AreMeaningSizes section from to meaning sizes = sizes ≡ []

-- the slots of the value of a unit with a number have these sizes
pub record AreValueSizes (unit : UnitRead) (number : ℕ) (sizes : List ℕ) : Type 0 where
  pub id : ℕ
  pub name : ℕ
  pub meaning : Meaning
  pub from : ℕ
  pub stands : HasValueAt unit id number name meaning from
  pub to : ℕ
  pub ends : SpellsBetween (SpellsValue stands.column.name stands.column.form stands.column.constant meaning) unit.forest.section from to
  pub are : AreMeaningSizes unit.forest.section from to meaning sizes

-- the sizes of some things, one after the other
abbrev pub all_sizes : List (List ℕ) → List ℕ
all_sizes each = flat_map (λ (sizes : List ℕ). sizes) each

-- the slots of the values of a unit have these sizes
pub record AreUnitSizes (unit : UnitRead) (sizes : List ℕ) : Type 0 where
  pub each : List (List ℕ)
  pub count : length each ≡ length unit.forest.values
  pub are : (number : ℕ) → number < length unit.forest.values → AreValueSizes unit number (slice_index_or each number [])
  pub whole : sizes ≡ all_sizes each

-- LISTS

-- the operands of an entry of a list stand behind its code, up to a place
pub record OperandsEnd (list : ListKind) (section : List ℕ) (raw : RawEntry) (end : ℕ) : Type 0 where
  pub kind : EntryKind
  pub known : code_of list kind ≡ Some raw.code
  pub operands : ℕ × ℕ
  pub spelled : SpellsBetween (SpellsOperands kind operands) section (raw.at + 1) end

-- The slots of the expression of an item of a location list have these sizes. Its length stands behind the operands of the entry.
pub record AreItemSizes (section : List ℕ) (raw : RawEntry) (sizes : List ℕ) : Type 0 where
  pub end : ℕ
  pub behind : OperandsEnd Locations section raw end
  pub are : AreExpressionSizes (drop end section) (bytes_in section raw.expr) sizes

-- the slots of the expressions of the items of a list
abbrev pub AreListSizes : List ℕ → ListRead → List ℕ → Type 0
AreListSizes section list sizes = (each : List (List ℕ)) × AllZip (AreItemSizes section) (items_among list.raws) each × (sizes ≡ all_sizes each)

-- those of the location lists with these numbers
abbrev pub AreListedSizes : Reading → List ℕ → List ℕ → Type 0
AreListedSizes s numbers sizes =
    (each : List (List ℕ)) × AllZip (λ (k : ℕ). AreListSizes s.links.locations.section (list_at s.location_lists k)) numbers each × (sizes ≡ all_sizes each)

-- THE UNIT

-- There is a row for each slot of the unit with a number, under the sizes that the slots have in the file: those of its values, and then
-- those of the location lists that it owns, in the order of their places. Each size is one that a slot can have.
pub record HasStandingSlots (s : Reading) (u : ℕ) (rows : List SlotRow) (sizes : List ℕ) : Type 0 where
  pub slots : HasSlots s u rows sizes
  pub own : List ℕ
  pub of_unit : AreUnitSizes (unit_at s.links u) own
  pub owned : List ℕ
  pub owns : AreOwnedLists s u owned
  pub listed : List ℕ
  pub of_lists : AreListedSizes s owned listed
  pub stand : sizes ≡ own ++ listed
  pub can : CanBeSizes rows sizes

-- the sizes that the slots of the unit with a number have in the file are the least of its layout: among all sizes under which each slot holds
-- its own number none have a smaller sum
pub record HasLeastStandingLayout (s : Reading) (u : ℕ) : Type 0 where
  pub rows : List SlotRow
  pub sizes : List ℕ
  pub stand : HasStandingSlots s u rows sizes
  pub least : IsLeastLayout rows sizes

-- all units of the file have
abbrev pub HaveLeastStandingLayouts : List ℕ → Type 0
HaveLeastStandingLayouts written = (s : Reading) × IsReading written s × ((u : ℕ) → u < length s.links.units → HasLeastStandingLayout s u)
