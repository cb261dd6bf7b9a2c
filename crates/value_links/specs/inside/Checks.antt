-- What the parts of the check of all values give.
use Rattle.std.specs.Prelude.{◌≡◌, ◌≢◌, ◌<◌, ◌+◌, ℕ, List, [], ◌∷◌, length, take, drop, filter, slice_index, slice_index_or, Option, Some, None, Bool, true, false}
use Rattle.dw_base.specs.declared.fault.Kind.{Kind}
use Rattle.dw_base.specs.declared.fault.Kind.TheVariants.{Target as NoTarget, Pointer, NoBase}
use Rattle.dw_base.specs.declared.fault.Fault.{Fault}
use Rattle.dw_base.specs.declared.fault.Reach.{Reach}
use Rattle.form_codec.specs.declared.value.Value.{Value}
use Rattle.form_codec.specs.declared.value.Value.TheVariants as value
use Rattle.form_codec.specs.Forms.{Meaning}
use Rattle.form_codec.specs.Forms.Meaning.{SectionPlace}
use Rattle.form_codec.specs.Values.{meant_in, bytes_in}
use Rattle.dw_base.specs.declared.fault.Span.{Span}
use Rattle.expr_ops.specs.declared.op.Op.{Op}
use Rattle.entry_read.specs.Expressions.{IsExprAt, FaultExpressions}
use Rattle.value_links.specs.Operations.{OpTarget, Names, LinkedOperation, LinksExpression}
use Rattle.abbrev_tables.specs.Tables.{Declared}
use Rattle.abbrev_tables.specs.Listings.{Listing, spec_at}
use Rattle.entry_arena.specs.declared.entry.Entry.{Entry}
use Rattle.entry_arena.specs.Arena.{Arena, entry_at, value_at, IsEntryAt}
use Rattle.entry_arena.specs.Forests.{described_by}
use Rattle.entry_arena.specs.Trees.{declared_at}
use Rattle.entry_read.specs.Heads.{type_unit, IsHead}
use Rattle.entry_read.specs.Units.{HeadAndForest, declarations_of, IsTable, IsUnitHeld}
use Rattle.value_links.specs.declared.units.Units.{Units}
use Rattle.value_links.specs.declared.parts.Parts.{Parts}
use Rattle.value_links.specs.Attributes.{rnglists_base, loclists_base, addr_base}
use Rattle.list_model.specs.declared.context.Context.{Context}
use Rattle.value_links.specs.Reading.{Linkable, unit_at, no_context}
use Rattle.value_links.specs.Contexts.{is_low_pc, IsContext}
use Rattle.value_links.specs.Values.{entry_of, declaration_of, IsFirstBase}
use Rattle.value_links.specs.World.{table_at}
use Rattle.value_links.specs.Links.{held_at}
use Rattle.value_links.specs.Linked.{Linked, Links, IsTypeEntry, IsFirstLow, HasAddress}
use Rattle.value_links.specs.LinkFaults.{FaultValue, FaultInUnit}
use Rattle.value_links.specs.Parts.{AreUnitsHeld, HoldsParts}

-- WHAT IS HELD

-- the units of some section are held, by the tables of some other
abbrev pub AreSomeUnits : Units → Type 0
AreSomeUnits held = (info : List ℕ) × (abbrevs : List ℕ) × AreUnitsHeld info abbrevs held

-- the table of the unit with a number
abbrev pub table_held : Units → ℕ → Listing
table_held held u = (table_at held.tables.items (slice_index held.table_of.items u)).table

-- the name of the attribute of an entry that has this number
abbrev pub name_at : List Declared → Entry → ℕ → ℕ
name_at ds entry column = (spec_at (declared_at ds entry.decl).columns column).name

-- a unit of its section, with the table by which it was read
pub record IsUnitWithTable (unit : HeadAndForest) (t : Listing) : Type 0 where
  pub table : IsTable t
  pub head : IsHead unit.forest.section unit.head
  pub held : IsUnitHeld unit.forest.section unit.head (declarations_of t) unit.forest

-- the attributes of an entry, and those of the first one
abbrev pub attributes_at : Arena → List Declared → ℕ → List (ℕ × Meaning)
attributes_at forest ds id = (described_by forest.section ds forest.values (entry_at forest.entries id)).attributes

abbrev pub root_attributes : Arena → List Declared → List (ℕ × Meaning)
root_attributes forest ds = attributes_at forest ds 0

-- of each unit that is held the context that its root gives
pub record AreContextsHeld (addresses : List ℕ) (held : Units) (contexts : List Context) : Type 0 where
  pub count : length contexts ≡ length held.units.items
  pub each : (u : ℕ) → u < length held.units.items → IsContext addresses (root_attributes (held_at held.units.items u).forest (declarations_of (table_held held u))) (slice_index_or contexts u no_context)

-- the attribute with a number is this
abbrev pub IsAttributeAt : List (ℕ × Meaning) → ℕ → ℕ × Meaning → Type 0
IsAttributeAt attributes i attribute = drop i attributes ≡ attribute ∷ drop (i + 1) attributes

-- the attribute with a number is the first that is an address, or the number of one, of a DW_AT_low_pc
pub record IsFirstLowIn (attributes : List (ℕ × Meaning)) (i : ℕ) : Type 0 where
  pub attribute : ℕ × Meaning
  pub is : is_low_pc attribute ≡ true
  pub stands : IsAttributeAt attributes i attribute
  pub first : filter is_low_pc (take i attributes) ≡ []

-- an attribute with a name and a value is a DW_AT_addr_base that is a section offset
abbrev pub IsAddrBase : ℕ → Value → Type 0
IsAddrBase name (value.Offset n) = name ≡ addr_base
IsAddrBase name v = ⊥

-- an entry of a unit has one
abbrev pub HasAddrBaseIn : HeadAndForest → Listing → ℕ → Type 0
HasAddrBaseIn unit t id =
    (column : ℕ) × (column < (entry_at unit.forest.entries id).count) × IsAddrBase (name_at (declarations_of t) (entry_at unit.forest.entries id) column) (value_at unit.forest.values ((entry_at unit.forest.entries id).first + column))

-- some entry has one
abbrev pub HasSomeAddrBase : HeadAndForest → Listing → Type 0
HasSomeAddrBase unit t = (id : ℕ) × (id < length unit.forest.entries) × HasAddrBaseIn unit t id

-- VALUES THAT AREN'T LINKED

-- what an attribute gives as a base of a name: a section offset, where it has the name
abbrev pub IsBaseIn : ℕ × Meaning → ℕ → Option ℕ → Type 0
IsBaseIn attribute name (Some n) = attribute ≡ (name, SectionPlace n)
IsBaseIn attribute name None = (n : ℕ) → attribute ≢ (name, SectionPlace n)

-- attributes have a base of a name, or none
abbrev pub HasBase : List (ℕ × Meaning) → ℕ → Type 0
HasBase attributes name = (n : ℕ) × IsFirstBase attributes name n

-- the first base of a name, or none
abbrev pub IsBaseFound : List (ℕ × Meaning) → ℕ → Option ℕ → Type 0
IsBaseFound attributes name (Some n) = IsFirstBase attributes name n
IsBaseFound attributes name None = ¬ HasBase attributes name

-- why an index that counts from a base names nothing
abbrev pub IsBaseCause : List (ℕ × Meaning) → ℕ → Kind → Type 0
IsBaseCause root name Pointer = HasBase root name
IsBaseCause root name NoBase = ¬ HasBase root name
IsBaseCause root name kind = ⊥

-- why a value names nothing, where it does
abbrev pub IsCause : List (ℕ × Meaning) → Value → Kind → Type 0
IsCause root (value.LocalRef n) kind = kind ≡ NoTarget
IsCause root (value.SectionRef n) kind = kind ≡ NoTarget
IsCause root (value.LocIndex i) kind = IsBaseCause root loclists_base kind
IsCause root (value.RangeIndex i) kind = IsBaseCause root rnglists_base kind
IsCause root v kind = kind ≡ Pointer

-- the type_offset of a unit names an entry
abbrev pub NamesType : HeadAndForest → Type 0
NamesType unit = (id : ℕ) × IsEntryAt unit.forest id (unit.head.at + unit.head.type_at)

-- whether a unit that is a type unit has the entry of its type
abbrev pub IsTyped : HeadAndForest → Bool → Type 0
IsTyped unit true = unit.head.kind ≡ type_unit → NamesType unit
IsTyped unit false = (unit.head.kind ≡ type_unit) × (¬ NamesType unit)

-- WHAT IS CHECKED

-- a value is linked, or has a fault, which isn't that of an expression
abbrev pub IsChecked : Linkable → ℕ → ℕ → ℕ → Meaning → Option Kind → Type 0
IsChecked r u id name meaning None = (linked : Linked) × Links r u id name meaning linked
IsChecked r u id name meaning (Some kind) = FaultValue r u id name meaning kind

-- an expression has no link of its own: its operations have
abbrev pub IsNoExpr : Value → Type 0
IsNoExpr (value.Expr span) = ⊥
IsNoExpr v = Unit {0}

-- an operation names nothing that it may, or something
abbrev pub IsAstray : Linkable → ℕ → Op → Bool → Type 0
IsAstray r u op true = (target : OpTarget) → Names r u op.code op.a target → ⊥
IsAstray r u op false = (target : OpTarget) × Names r u op.code op.a target

-- the operations of an expression that is the value with a number name what they may
abbrev pub IsExprLinked : Linkable → ℕ → ℕ → Type 0
IsExprLinked r u number = (span : Span) → IsExprAt (unit_at r u).forest number span → (linked : List LinkedOperation) × LinksExpression r u (bytes_in (unit_at r u).forest.section span) linked

-- the value of a column of an entry is linked
abbrev pub IsColumnLinked : Linkable → ℕ → ℕ → ℕ → Type 0
IsColumnLinked r u id column = IsChecked r u id (spec_at (declaration_of (unit_at r u) id).columns column).name (meant_in (unit_at r u).forest.section (value_at (unit_at r u).forest.values ((entry_of (unit_at r u) id).first + column))) None

-- the values of so many columns of an entry do
abbrev pub AreColumnsLinked : Linkable → ℕ → ℕ → ℕ → Type 0
AreColumnsLinked r u id n = (column : ℕ) → column < n → IsColumnLinked r u id column

-- all values of so many entries of a unit do
abbrev pub AreEntriesLinked : Linkable → ℕ → ℕ → Type 0
AreEntriesLinked r u n = (id : ℕ) → id < n → AreColumnsLinked r u id (entry_of (unit_at r u) id).count

-- all values of a unit do, a type unit has the entry of its type, and the number of a first base is looked up
pub record IsUnitLinked (r : Linkable) (u : ℕ) : Type 0 where
  pub entries : AreEntriesLinked r u (length (unit_at r u).forest.entries)
  pub typed : (unit_at r u).head.kind ≡ type_unit → (id : ℕ) × IsTypeEntry r u id
  pub based : (i place : ℕ) → IsFirstLow r u i place → HasAddress r u i

-- this holds of all that is read of which these are the parts
abbrev pub InEach : Parts → (Linkable → Type 0) → Type 0
InEach parts P = (file : List ℕ) (r : Linkable) → HoldsParts file r parts → P r

-- the fault is one of a unit, whatever the limits
abbrev pub IsUnitFault : ℕ → Fault → Linkable → Type 0
IsUnitFault u fault r = (reach : Reach) → FaultInUnit r reach u fault.kind fault.place

-- an expression of one of the units has a fault
abbrev pub IsSomeExpressionFault : List HeadAndForest → Reach → Kind → ℕ → Type 0
IsSomeExpressionFault units reach kind place = (u : ℕ) × (u < length units) × FaultExpressions (held_at units u).forest reach kind place
