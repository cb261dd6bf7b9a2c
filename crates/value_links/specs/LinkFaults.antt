-- The faults that the fifth pass looks for: what values refer to, up to the places of lists, and the first bases of lists (DWARF 5
-- sections 2.5, 3.1.1, 7.5.4 and 7.5.5).
use Rattle.std.specs.Prelude.{◌≡◌, ◌<◌, ◌+◌, ◌⊎◌, ℕ, List, length}
use Rattle.dw_base.specs.declared.fault.Kind.{Kind}
use Rattle.dw_base.specs.declared.fault.Kind.TheVariants.{Target as NoTarget, Pointer, NoBase}
use Rattle.dw_base.specs.declared.fault.Reach.{Reach}
use Rattle.dw_base.specs.declared.fault.Reach.TheVariants.{Wide}
use Rattle.dw_base.specs.declared.fault.Span.{Span}
use Rattle.expr_ops.specs.declared.op.Op.{Op}
use Rattle.expr_ops.specs.Expressions.{IsExpression}
use Rattle.expr_ops.specs.ExpressionFaults.{FaultExpression}
use Rattle.expr_ops.specs.Ops.{all_meant, Chain}
use Rattle.expr_ops.specs.Drafts.{op_at}
use Rattle.expr_ops.specs.Names.{IsReferencePlace}
use Rattle.form_codec.specs.Forms.{Meaning}
use Rattle.form_codec.specs.Values.{bytes_in}
use Rattle.form_codec.specs.Forms.Meaning.{InUnit, InSection, SectionPlace, LocationList, RangeList}
use Rattle.entry_arena.specs.declared.entry.Target.{Target}
use Rattle.entry_read.specs.Heads.{type_offset_at, type_unit}
use Rattle.entry_read.specs.Expressions.{IsExprAt}
use Rattle.list_model.specs.declared.entry.ListKind.{ListKind}
use Rattle.list_model.specs.declared.entry.ListKind.TheVariants.{Ranges, Locations}
use Rattle.value_links.specs.Attributes.{OffsetClass, offset_class, addr_base}
use Rattle.value_links.specs.Attributes.OffsetClass.{LinePtr, RngList, LocList, RngListsPtr, LocListsPtr, AddrPtr, StrOffsetsPtr, MacPtr, Views, NoOffset}
use Rattle.value_links.specs.Reading.{Linkable, unit_at, of_kind}
use Rattle.value_links.specs.Operations.{OpTarget, Names}
use Rattle.value_links.specs.ListPlaces.{IsOffsetsAt, base_of}
use Rattle.value_links.specs.Linked.{Linked, IsLocalTarget, IsSectionTarget, IsTypeEntry, IsProgramAt, IsListAt, IndexLinks, IsAddressesAt, ViewLinks, IsFirstLow, HasAddress}
use Rattle.value_links.specs.Values.{HasValueAt, GivesBase}

-- a reference that no entry and no end of a chain is the target of
abbrev pub IsTargetless : Linkable → ℕ → Meaning → Type 0
IsTargetless r u (InUnit n) = ¬ ((target : Target) × IsLocalTarget r u n target)
IsTargetless r u (InSection n) = ¬ ((unit : ℕ) × (target : Target) × IsSectionTarget r n unit target)
IsTargetless r u meaning = ⊥

-- A section offset names nothing that its class allows: no line number program, no place of a list, no contribution to a section of
-- lists, no address table, no place of view pairs in the contribution of the entry's first location list, or the entry has no such list; or
-- its attribute has no class.
abbrev pub NamesNothing : Linkable → ℕ → ℕ → OffsetClass → ℕ → Type 0
NamesNothing r u id LinePtr n = ¬ ((p : ℕ) × IsProgramAt r n p)
NamesNothing r u id RngList n = ¬ IsListAt r Ranges n
NamesNothing r u id LocList n = ¬ IsListAt r Locations n
NamesNothing r u id RngListsPtr n = ¬ ((p : ℕ) × IsOffsetsAt (of_kind r Ranges) n p)
NamesNothing r u id LocListsPtr n = ¬ ((p : ℕ) × IsOffsetsAt (of_kind r Locations) n p)
NamesNothing r u id AddrPtr n = ¬ IsAddressesAt r n
NamesNothing r u id StrOffsetsPtr n = ⊥
NamesNothing r u id MacPtr n = ⊥
NamesNothing r u id Views n = ¬ ((linked : Linked) × ViewLinks r u id n linked)
NamesNothing r u id NoOffset n = Unit {0}

-- the root gives a base for an index, and the index is none of its slots, or the base names nothing
abbrev pub IsIndexAstray : Linkable → ℕ → ListKind → ℕ → Type 0
IsIndexAstray r u kind i = GivesBase (unit_at r u) (base_of kind) × (¬ ((linked : Linked) × IndexLinks r u kind i linked))

-- A section offset names nothing, or an index does.
abbrev pub IsDangling : Linkable → ℕ → ℕ → ℕ → Meaning → Type 0
IsDangling r u id name (SectionPlace n) = NamesNothing r u id (offset_class name) n
IsDangling r u id name (LocationList i) = IsIndexAstray r u Locations i
IsDangling r u id name (RangeList i) = IsIndexAstray r u Ranges i
IsDangling r u id name meaning = ⊥

-- an index needs a base that the root doesn't give
abbrev pub IsBaseless : Linkable → ℕ → Meaning → Type 0
IsBaseless r u (LocationList i) = ¬ GivesBase (unit_at r u) (base_of Locations)
IsBaseless r u (RangeList i) = ¬ GivesBase (unit_at r u) (base_of Ranges)
IsBaseless r u meaning = ⊥

-- The fault of the value of an attribute with a name, other than an expression, in an entry `id` of the unit `u`, both by their numbers
abbrev pub FaultValue : Linkable → ℕ → ℕ → ℕ → Meaning → Kind → Type 0
FaultValue r u id name meaning NoTarget = IsTargetless r u meaning
FaultValue r u id name meaning Pointer = IsDangling r u id name meaning
FaultValue r u id name meaning NoBase = IsBaseless r u meaning
FaultValue r u id name meaning kind = ⊥

-- A value of the unit with a number has a fault. The place is the value's first byte.
pub record FaultAttribute (r : Linkable) (u : ℕ) (kind : Kind) (place : ℕ) : Type 0 where
  pub id : ℕ
  pub number : ℕ
  pub name : ℕ
  pub meaning : Meaning
  pub stands : HasValueAt (unit_at r u) id number name meaning place
  pub fault : FaultValue r u id name meaning kind

-- The type_offset of a type unit names no entry of the unit. The place is that of the field.
abbrev pub FaultType : Linkable → ℕ → Kind → ℕ → Type 0
FaultType r u NoTarget place = ((unit_at r u).head.kind ≡ type_unit) × (¬ ((id : ℕ) × IsTypeEntry r u id)) × (place ≡ type_offset_at (unit_at r u).head)
FaultType r u kind place = ⊥

-- why the number of an address can't be looked up in the table of a unit
abbrev pub FaultNumber : Linkable → ℕ → ℕ → Kind → Type 0
FaultNumber r u i NoBase = ¬ GivesBase (unit_at r u) addr_base
FaultNumber r u i Pointer = GivesBase (unit_at r u) addr_base × (¬ HasAddress r u i)
FaultNumber r u i kind = ⊥

-- The first base of a unit's lists is the address with a number that can't be looked up. The place is the value's first byte.
abbrev pub FaultLow : Linkable → ℕ → Kind → ℕ → Type 0
FaultLow r u kind place = (i : ℕ) × IsFirstLow r u i place × FaultNumber r u i kind

-- EXPRESSIONS

-- An operation of an expression names nothing that it may. The place is the first byte of its reference, counted from that of the
-- expression.
pub record FaultReference (r : Linkable) (u : ℕ) (bytes : List ℕ) (place : ℕ) : Type 0 where
  pub ops : List Op
  pub spelled : IsExpression Wide (all_meant bytes ops) bytes
  pub places : Chain bytes 0 ops (length bytes)
  pub k : ℕ
  pub inside : k < length ops
  pub stands : IsReferencePlace bytes (op_at ops k).code (op_at ops k).at place
  pub astray : ¬ ((target : OpTarget) × Names r u (op_at ops k).code (op_at ops k).a target)

-- what has these bytes is no expression within the limits, or one of its operations names nothing that it may
abbrev pub FaultOperations : Linkable → ℕ → Reach → List ℕ → Kind → ℕ → Type 0
FaultOperations r u reach bytes kind place = FaultExpression reach kind place bytes ⊎ ((kind ≡ NoTarget) × FaultReference r u bytes place)

-- An expression of the unit with a number has a fault.
pub record FaultExprOf (r : Linkable) (reach : Reach) (u : ℕ) (kind : Kind) (place : ℕ) : Type 0 where
  pub number : ℕ
  pub span : Span
  pub stands : IsExprAt (unit_at r u).forest number span
  pub inner : ℕ
  pub fault : FaultOperations r u reach (bytes_in (unit_at r u).forest.section span) kind inner
  pub here : place ≡ span.at + inner

-- Something in a unit refers to what isn't there, or an expression isn't one. Each fault has a place of its own: that of a value, of
-- a field, or of a part of an expression.
abbrev pub FaultInUnit : Linkable → Reach → ℕ → Kind → ℕ → Type 0
FaultInUnit r reach u kind place = FaultAttribute r u kind place ⊎ (FaultType r u kind place ⊎ (FaultLow r u kind place ⊎ FaultExprOf r reach u kind place))
