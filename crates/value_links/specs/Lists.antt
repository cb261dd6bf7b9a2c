-- The lists of a file: which are named, by which units, in which contexts, and which are frozen (DWARF 5 sections 2.6.2, 2.17.3,
-- 7.28 and 7.29).
use Rattle.std.specs.Prelude.{◌≡◌, ◌≢◌, ◌<◌, ◌^◌, ◌⊎◌, ℕ, List, [], length, filter, Option, Some, None, Bool, not, true, false}
use Rattle.std.specs.List.{All, Contains, sum_by}
use Rattle.dw_base.specs.declared.fault.Reach.{Reach}
use Rattle.dw_base.specs.declared.fault.Reach.TheVariants.{Wide}
use Rattle.expr_ops.specs.declared.names.Named.{Named}
use Rattle.expr_ops.specs.declared.names.Named.TheVariants.{BaseType, UnitEntry}
use Rattle.expr_ops.specs.Expressions.{Operation, IsExpression}
use Rattle.expr_ops.specs.Drafts.{is_generic}
use Rattle.expr_ops.specs.Names.{named_by}
use Rattle.list_model.specs.declared.contribution.Contribution.{Contribution}
use Rattle.list_model.specs.declared.entry.ListKind.{ListKind}
use Rattle.list_model.specs.declared.entry.ListKind.TheVariants.{Ranges, Locations}
use Rattle.list_model.specs.declared.entry.RawEntry.{RawEntry}
use Rattle.list_model.specs.Entries.{Entry, AreSaid}
use Rattle.list_model.specs.Items.{Bounds, Give, IsDead, sets_base}
use Rattle.range_lists.specs.Ranges.{IsRangeList}
use Rattle.loc_lists.specs.Locations.{IsLocationList, expressions_of}
use Rattle.loc_lists.specs.Views.{IsRunAt}
use Rattle.list_model.specs.declared.entry.EntryKind.{EntryKind}
use Rattle.list_model.specs.declared.entry.EntryKind.TheVariants.{BaseAddressx, BaseAddress, DefaultLocation}
use Rattle.value_links.specs.Reading.{ListRead, ViewRead, Linkable, of_kind, part_at, list_at, view_at, context_at}
use Rattle.value_links.specs.ListPlaces.{IsListPlace, SlotNames}
use Rattle.value_links.specs.Operations.{IsSomeExpression, LinkedOperation, LinksExpression}
use Rattle.value_links.specs.Linked.{Linked, IsLinked}
use Rattle.value_links.specs.Linked.Linked.{ListAt, SlotAt, ViewsAt}

-- WHAT NAMES A LIST

-- a link names the list of a kind at a place: it does so itself, or the slot does that it tells
abbrev pub LinkNames : Linkable → Linked → ListKind → ℕ → Type 0
LinkNames r (ListAt of n) kind at = (kind ≡ of) × (at ≡ n)
LinkNames r (SlotAt of p i) kind at = (kind ≡ of) × SlotNames (of_kind r kind) p i at
LinkNames r linked kind at = ⊥

-- an entry of a unit names it
pub record IsNamedIn (r : Linkable) (kind : ListKind) (at u : ℕ) : Type 0 where
  pub known : u < length r.units
  pub number : ℕ
  pub linked : Linked
  pub links : IsLinked r u number linked
  pub names : LinkNames r linked kind at

-- a slot of a contribution names it
abbrev pub IsNamedBySlot : Linkable → ListKind → ℕ → Type 0
IsNamedBySlot r kind at = (p : ℕ) × (i : ℕ) × SlotNames (of_kind r kind) p i at

-- something names it
abbrev pub IsNamed : Linkable → ListKind → ℕ → Type 0
IsNamed r kind at = ((u : ℕ) × IsNamedIn r kind at u) ⊎ IsNamedBySlot r kind at

-- THE UNIT THAT OWNS A LIST

-- no entry names it, so that only a slot does
abbrev pub IsUnowned : Linkable → ListKind → ℕ → Type 0
IsUnowned r kind at = (u : ℕ) → ¬ IsNamedIn r kind at u

-- its owner is the first unit of which an entry names it
abbrev pub IsOwner : Linkable → ListKind → ℕ → Option ℕ → Type 0
IsOwner r kind at (Some u) = IsNamedIn r kind at u × ((earlier : ℕ) → earlier < u → ¬ IsNamedIn r kind at earlier)
IsOwner r kind at None = IsUnowned r kind at

-- entries of two units name it
abbrev pub IsOfTwoUnits : Linkable → ListKind → ℕ → Type 0
IsOfTwoUnits r kind at = (u : ℕ) × (v : ℕ) × (u ≢ v) × IsNamedIn r kind at u × IsNamedIn r kind at v

-- FROZEN LISTS

-- A list is shared where entries of units with different contexts name it.
abbrev pub IsShared : Linkable → ListKind → ℕ → Type 0
IsShared r kind at = (u : ℕ) × (v : ℕ) × IsNamedIn r kind at u × IsNamedIn r kind at v × (context_at r u ≢ context_at r v)

-- how many of the entries are items: those that don't set the base
abbrev pub item_count : List Entry → ℕ
item_count entries = length (filter (λ (entry : Entry). not (sets_base entry.kind)) entries)

-- the most items that a list may have that isn't long
abbrev pub long_limit : ℕ
long_limit = 2 ^ 14

-- A list is long where it has more items than that.
abbrev pub IsLong : List Entry → Type 0
IsLong entries = long_limit < item_count entries

-- It is dead where a sum passes 2^64 - 1 in the context of a unit that names it.
pub record IsDeadIn (r : Linkable) (kind : ListKind) (at : ℕ) (entries : List Entry) : Type 0 where
  pub u : ℕ
  pub named : IsNamedIn r kind at u
  pub bounds : List Bounds
  pub gives : Give r.addresses (context_at r u) entries bounds
  pub dead : IsDead bounds

-- A list that is dead, shared, unowned or long is frozen: it is kept by its entries.
abbrev pub IsFrozen : Linkable → ListKind → ListRead → Type 0
IsFrozen r kind list = (entries : List Entry) × AreSaid kind list.raws entries × (IsDeadIn r kind list.at entries ⊎ (IsShared r kind list.at ⊎ (IsUnowned r kind list.at ⊎ IsLong entries)))

-- WHAT IS READ

-- what is read of a list of a kind at a place of a contribution
abbrev pub IsListOf : ListKind → List ℕ → Contribution → ℕ → List RawEntry → Type 0
IsListOf Ranges section part at raws = IsRangeList section part at raws
IsListOf Locations section part at raws = IsLocationList section part at raws

-- a list of a section: something names it, and it is read in the contribution in which it begins
pub record IsListIn (r : Linkable) (kind : ListKind) (list : ListRead) : Type 0 where
  pub named : IsNamed r kind list.at
  pub begins : IsListPlace (of_kind r kind) list.part list.at
  pub read : IsListOf kind (of_kind r kind).section (part_at (of_kind r kind) list.part) list.at list.raws

-- the bytes of the expressions of a list's items, in their order; ranges have none
abbrev pub expressions_in : ListKind → List ℕ → List RawEntry → List (List ℕ)
expressions_in Ranges section raws = []
expressions_in Locations section raws = expressions_of section raws

abbrev pub expressions_at : Linkable → ListKind → ListRead → List (List ℕ)
expressions_at r kind list = expressions_in kind (of_kind r kind).section list.raws

-- The unit in which the references of the expressions count: that of the owner. A list that no entry names has none, and the number past
-- the last unit stands for it.
abbrev pub owner_unit : Linkable → Option ℕ → ℕ
owner_unit r (Some u) = u
owner_unit r None = length r.units

-- what an operation names counts from the first byte of its unit; the generic type is no such thing
abbrev pub CountsInUnit : Named → ℕ → ℕ → Type 0
CountsInUnit BaseType code n = is_generic code n ≡ false
CountsInUnit UnitEntry code n = Unit {0}
CountsInUnit _ code n = ⊥

-- an expression has such an operation
pub record HasUnitOffset (bytes : List ℕ) : Type 0 where
  pub operations : List Operation
  pub spelled : IsExpression Wide operations bytes
  pub one : Operation
  pub among : Contains operations one
  pub counts : CountsInUnit (named_by one.code) one.code one.a

-- The operations of each expression of a list name what they may: what counts in a unit does so in the owner. A list that entries of two
-- units name has none that do.
pub record AreExpressionsRead (r : Linkable) (kind : ListKind) (list : ListRead) : Type 0 where
  pub owner : Option ℕ
  pub owned : IsOwner r kind list.at owner
  pub linked : All (λ (bytes : List ℕ). (linked : List LinkedOperation) × LinksExpression r (owner_unit r owner) bytes linked) (expressions_at r kind list)
  pub single : IsOfTwoUnits r kind list.at → All (λ (bytes : List ℕ). ¬ HasUnitOffset bytes) (expressions_at r kind list)

-- the expressions of lists are within the limits of a reach
abbrev pub AreWithinReach : Linkable → ListKind → Reach → List ListRead → Type 0
AreWithinReach r kind reach lists = (k : ℕ) → k < length lists → All (IsSomeExpression reach) (expressions_at r kind (list_at lists k))

-- the indexes of a list are looked up in the context of a unit
abbrev pub AreLookedUp : Linkable → ListKind → ℕ → ListRead → Type 0
AreLookedUp r kind u list = (entries : List Entry) × (bounds : List Bounds) × AreSaid kind list.raws entries × Give r.addresses (context_at r u) entries bounds

-- Each list that something names, once, by rising place. The indexes of each are looked up in the context of every unit that names
-- it, its expressions are read, and each slot names a list.
pub record AreListsOf (r : Linkable) (kind : ListKind) (lists : List ListRead) : Type 0 where
  pub rising : (j k : ℕ) → j < k → k < length lists → (list_at lists j).at < (list_at lists k).at
  pub each : (k : ℕ) → k < length lists → IsListIn r kind (list_at lists k)
  pub all : (at : ℕ) → IsNamed r kind at → (k : ℕ) × (k < length lists) × ((list_at lists k).at ≡ at)
  pub looked : (k u : ℕ) → k < length lists → IsNamedIn r kind (list_at lists k).at u → AreLookedUp r kind u (list_at lists k)
  pub expressions : (k : ℕ) → k < length lists → AreExpressionsRead r kind (list_at lists k)
  pub slots : (p i : ℕ) → p < length (of_kind r kind).parts → i < (part_at (of_kind r kind) p).slots → (at : ℕ) × SlotNames (of_kind r kind) p i at

-- VIEW PAIRS

-- a value names view pairs at a place, which go with the location list at another
abbrev pub AreViewsNamed : Linkable → ℕ → ℕ → Type 0
AreViewsNamed r list at = (u : ℕ) × (number : ℕ) × (u < length r.units) × IsLinked r u number (ViewsAt list at)

-- whether an entry of a kind is an item from a start up to an end
abbrev pub is_bounded : EntryKind → Bool
is_bounded BaseAddressx = false
is_bounded BaseAddress = false
is_bounded DefaultLocation = false
is_bounded kind = true

-- how many pairs go with entries: one with each that is such an item
abbrev pub pair_count : List Entry → ℕ
pair_count entries = length (filter (λ (entry : Entry). is_bounded entry.kind) entries)

-- view pairs: something names them for a list, and there are as many as the list has such entries, in its contribution
pub record AreViewsOf (r : Linkable) (lists : List ListRead) (view : ViewRead) : Type 0 where
  pub named : AreViewsNamed r view.list view.at
  pub k : ℕ
  pub inside : k < length lists
  pub at : (list_at lists k).at ≡ view.list
  pub entries : List Entry
  pub said : AreSaid Locations (list_at lists k).raws entries
  pub counted : length view.pairs ≡ pair_count entries
  pub read : IsRunAt r.locations.section (part_at r.locations (list_at lists k).part) view.at view.pairs

-- by rising place of the list, and for one list by rising place
abbrev pub AreViewsApart : ViewRead → ViewRead → Type 0
AreViewsApart first second = (first.list < second.list) ⊎ ((first.list ≡ second.list) × (first.at < second.at))

-- all view pairs that something names, once for each list with which they go
pub record AreViewsRead (r : Linkable) (lists : List ListRead) (views : List ViewRead) : Type 0 where
  pub rising : (j k : ℕ) → j < k → k < length views → AreViewsApart (view_at views j) (view_at views k)
  pub each : (k : ℕ) → k < length views → AreViewsOf r lists (view_at views k)
  pub all : (list at : ℕ) → AreViewsNamed r list at → (k : ℕ) × (k < length views) × ((view_at views k).list ≡ list) × ((view_at views k).at ≡ at)

-- how many pairs runs have together
abbrev pub pair_total : List ViewRead → ℕ
pair_total views = sum_by (λ (view : ViewRead). length view.pairs) views

-- WHAT CAN BE TOLD

-- What can be told of a list: the unit that owns it, and whether it is frozen.
pub record IsTold (r : Linkable) (kind : ListKind) (list : ListRead) : Type 0 where
  pub owner : Option ℕ
  pub owned : IsOwner r kind list.at owner
  pub frozen : IsFrozen r kind list ⊎ (¬ IsFrozen r kind list)

-- all this can be told of each list
abbrev pub AreTold : Linkable → ListKind → List ListRead → Type 0
AreTold r kind lists = (k : ℕ) → k < length lists → IsTold r kind (list_at lists k)
