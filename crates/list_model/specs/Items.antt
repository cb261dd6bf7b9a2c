-- What the entries of a range list or a location list say (DWARF 5 sections 2.6.2 and 2.17.3): one walks over them, and all that
-- is carried from entry to entry is the base, from which the operands of DW_RLE_offset_pair and DW_LLE_offset_pair count.
use Rattle.std.specs.Prelude.{◌≡◌, ◌<◌, ◌≤◌, ◌+◌, ◌⊎◌, ◌^◌, ℕ, List, [], ◌∷◌, ◌++◌, Option, Some, None, Bool, true, false}
use Rattle.std.specs.List.{All, Contains}
use Rattle.dw_base.specs.declared.fault.Span.{Span}
use Rattle.dw_base.specs.declared.fault.Kind.{Kind}
use Rattle.dw_base.specs.declared.fault.Kind.TheVariants.{Pointer, NoBase}
use Rattle.list_model.specs.declared.context.Context.{Context}
use Rattle.list_model.specs.declared.tables.AddrTable.{AddrTable}
use Rattle.list_model.specs.declared.entry.ListKind.{ListKind}
use Rattle.list_model.specs.declared.entry.EntryKind.{EntryKind}
use Rattle.list_model.specs.declared.entry.EntryKind.TheVariants.{BaseAddressx, StartxEndx, StartxLength, OffsetPair, DefaultLocation, BaseAddress, StartEnd, StartLength}
use Rattle.list_model.specs.declared.entry.RawEntry.{RawEntry}
use Rattle.list_model.specs.declared.item.Item.{Item}
use Rattle.list_model.specs.Addresses.{IsAddrTable, address_of}
use Rattle.list_model.specs.Entries.{Entry, Says}

-- the table of a context, where it has one, stands in the section of addresses
abbrev pub HasTable : List ℕ → Option AddrTable → Type 0
HasTable addr (Some table) = IsAddrTable addr table
HasTable addr None = Unit {0}

-- an index is that of this address in the table of the context
abbrev pub IsIndexed : List ℕ → Context → ℕ → ℕ → Type 0
IsIndexed addr context index address = (table : AddrTable) × (context.table ≡ Some table) × (index < table.count) × (address ≡ address_of addr table index)

-- What an item covers: the addresses from the first number up to the second, where the first may be above the second, or every
-- address that no other item of the list covers.
pub data Bounds : Type 0 where
  between : ℕ → ℕ → Bounds
  elsewhere : Bounds

-- an entry of a kind, with these operands, sets the base to this address
abbrev pub SetsBase : List ℕ → Context → EntryKind → ℕ → ℕ → Type 0
SetsBase addr context BaseAddressx a base = IsIndexed addr context a base
SetsBase addr context BaseAddress a base = base ≡ a
SetsBase addr context _ a base = ⊥

-- An entry of a kind, with these operands, is an item with these bounds under a base. A sum may pass 2^64 - 1.
abbrev pub HasBounds : List ℕ → Context → ℕ → EntryKind → ℕ → ℕ → Bounds → Type 0
HasBounds addr context base StartxEndx a b bounds = (start : ℕ) × (end : ℕ) × IsIndexed addr context a start × IsIndexed addr context b end × (bounds ≡ between start end)
HasBounds addr context base StartxLength a b bounds = (start : ℕ) × IsIndexed addr context a start × (bounds ≡ between start (start + b))
HasBounds addr context base OffsetPair a b bounds = bounds ≡ between (base + a) (base + b)
HasBounds addr context base DefaultLocation a b bounds = bounds ≡ elsewhere
HasBounds addr context base StartEnd a b bounds = bounds ≡ between a b
HasBounds addr context base StartLength a b bounds = bounds ≡ between a (a + b)
HasBounds addr context base _ a b bounds = ⊥

-- The entries give items with these bounds, from a base on: an entry sets the base for those after it, or it is the next item.
abbrev pub GiveFrom : List ℕ → Context → ℕ → List Entry → List Bounds → Type 0
GiveFrom addr context base [] bounds = bounds ≡ []
GiveFrom addr context base (entry ∷ entries) bounds =
    ((next : ℕ) × SetsBase addr context entry.kind entry.a next × GiveFrom addr context next entries bounds)
    ⊎ ((item : Bounds) × (rest : List Bounds) × HasBounds addr context base entry.kind entry.a entry.b item × (bounds ≡ item ∷ rest) × GiveFrom addr context base entries rest)

-- the entries of a list give items with these bounds in a context, whose base is the first one
abbrev pub Give : List ℕ → Context → List Entry → List Bounds → Type 0
Give addr context entries bounds = GiveFrom addr context context.base entries bounds

-- whether entries of a kind set the base
abbrev pub sets_base : EntryKind → Bool
sets_base BaseAddressx = true
sets_base BaseAddress = true
sets_base _ = false

-- none of the entries sets the base
abbrev pub SetNoBase : List Entry → Type 0
SetNoBase entries = All (λ (entry : Entry). sets_base entry.kind ≡ false) entries

-- the base behind some entries: that of the closest of them that sets one, or the first base where none does
abbrev pub IsBaseBehind : List ℕ → Context → ℕ → List Entry → ℕ → Type 0
IsBaseBehind addr context first before base =
    (SetNoBase before × (base ≡ first))
    ⊎ ((front : List Entry) × (setter : Entry) × (back : List Entry) × (before ≡ front ++ setter ∷ back) × SetsBase addr context setter.kind setter.a base × SetNoBase back)

-- An entry behind some others is an item of the list with these bounds: it has its bounds under the base behind those before it,
-- and its item stands behind theirs.
pub record IsItemBehind (addr : List ℕ) (context : Context) (first : ℕ) (before : List Entry) (entry : Entry) (bounds : List Bounds) : Type 0 where
  pub base : ℕ
  pub front : List Bounds
  pub item : Bounds
  pub back : List Bounds
  pub behind : IsBaseBehind addr context first before base
  pub gives : GiveFrom addr context first before front
  pub has : HasBounds addr context base entry.kind entry.a entry.b item
  pub whole : bounds ≡ front ++ item ∷ back

-- no sum has passed 2^64 - 1
abbrev pub Fits : Bounds → Type 0
Fits (between start end) = (start < 2 ^ 64) × (end < 2 ^ 64)
Fits elsewhere = Unit {0}

-- A list is dead where a sum has passed 2^64 - 1.
abbrev pub IsDead : List Bounds → Type 0
IsDead bounds = ¬ All Fits bounds

-- the item with these bounds, and with the expression at a place
abbrev pub item_of : Span → Bounds → Item
item_of expr (between start end) = record { start = start; end = end; whole = false; expr = expr }
item_of expr elsewhere = record { start = 0; end = 0; whole = true; expr = expr }

-- ---- indexes that can't be looked up

-- the operands of an entry of a kind that are indexes of addresses
abbrev pub indexes_in : EntryKind → ℕ → ℕ → List ℕ
indexes_in BaseAddressx a b = a ∷ []
indexes_in StartxEndx a b = a ∷ b ∷ []
indexes_in StartxLength a b = a ∷ []
indexes_in _ a b = []

-- an index that a list asks for can't be looked up in a context: there is no table, or the table has no such address
abbrev pub FaultIndex : Context → Kind → ℕ → Type 0
FaultIndex context NoBase index = context.table ≡ None
FaultIndex context Pointer index = (table : AddrTable) × (context.table ≡ Some table) × (table.count ≤ index)
FaultIndex context _ index = ⊥

-- An entry of the list has an index that can't be looked up in the context. The place is the entry's.
pub record FaultIndexes (list : ListKind) (context : Context) (raws : List RawEntry) (kind : Kind) (place : ℕ) : Type 0 where
  pub raw : RawEntry
  pub entry : Entry
  pub index : ℕ
  pub one : Contains raws raw
  pub says : Says list raw entry
  pub asked : Contains (indexes_in entry.kind entry.a entry.b) index
  pub fault : FaultIndex context kind index
  pub at : place ≡ raw.at
