-- The faults that the sixth pass looks for: lists, their indexes and expressions, view pairs, and the slots of contributions (DWARF 5 sections
-- 2.6.2, 2.17.3, 7.25, 7.28 and 7.29). All that values refer to up to the places of lists is in order before.
use Rattle.std.specs.Prelude.{◌≡◌, ◌<◌, ◌≤◌, ◌+◌, ◌^◌, ◌⊎◌, ◌++◌, ℕ, List, [], length, slice_index_or, Option, Some, None}
use Rattle.std.specs.List.{Contains, sum_by}
use Rattle.dw_base.specs.declared.fault.Kind.{Kind}
use Rattle.dw_base.specs.declared.fault.Kind.TheVariants.{Limit, Pointer, ListShared, Target as NoTarget}
use Rattle.dw_base.specs.declared.fault.Reach.{Reach}
use Rattle.dw_base.specs.declared.fault.Reach.TheVariants.{Narrow, Wide}
use Rattle.expr_ops.specs.declared.op.Op.{Op}
use Rattle.expr_ops.specs.declared.names.Named.TheVariants.{SectionEntry}
use Rattle.expr_ops.specs.Expressions.{IsExpression}
use Rattle.expr_ops.specs.ExpressionFaults.{FaultExpression}
use Rattle.expr_ops.specs.Names.{named_by, IsReferencePlace}
use Rattle.expr_ops.specs.Ops.{all_meant, Chain}
use Rattle.expr_ops.specs.Drafts.{op_at}
use Rattle.form_codec.specs.Values.{bytes_in}
use Rattle.form_codec.specs.Forms.{Meaning}
use Rattle.list_model.specs.declared.contribution.Contribution.{Contribution}
use Rattle.list_model.specs.declared.entry.ListKind.{ListKind}
use Rattle.list_model.specs.declared.entry.ListKind.TheVariants.{Ranges, Locations}
use Rattle.list_model.specs.declared.entry.RawEntry.{RawEntry}
use Rattle.list_model.specs.Contributions.{offset_place, bytes_from}
use Rattle.list_model.specs.Entries.{Entry, AreSaid}
use Rattle.list_model.specs.Items.{FaultIndexes}
use Rattle.list_model.specs.Reading.{AreReadFrom, list_entry_limit}
use Rattle.range_lists.specs.Ranges.{FaultRangeList}
use Rattle.range_lists.specs.Ranges.{IsRead as IsRangeRead}
use Rattle.loc_lists.specs.Locations.{FaultLocationList, items_among}
use Rattle.loc_lists.specs.Views.{FaultRun, view_limit}
use Rattle.loc_lists.specs.Locations.{IsRead as IsLocationRead}
use Rattle.value_links.specs.Reading.{ListRead, Linkable, unit_at, of_kind, part_at, list_at, context_at}
use Rattle.value_links.specs.ListPlaces.{IsListPlace, IsSlot, SlotNames}
use Rattle.value_links.specs.Linked.{Links}
use Rattle.value_links.specs.Linked.Linked.{SlotAt}
use Rattle.value_links.specs.Operations.{OpTarget, Names, NamesSectionEntry}
use Rattle.value_links.specs.Lists.{IsNamed, IsNamedIn, IsListIn, IsOwner, IsUnowned, IsOfTwoUnits, HasUnitOffset, AreViewsNamed, pair_count}
use Rattle.value_links.specs.Values.{HasValueAt}

-- SLOTS

-- a slot tells a place at which no list can begin; it is said of the slot's first byte
abbrev pub IsSlotAstray : Linkable → ListKind → ℕ → Type 0
IsSlotAstray r of place = (p : ℕ) × (i : ℕ) × (at : ℕ) × IsSlot (of_kind r of) p i at × (¬ SlotNames (of_kind r of) p i at) × (place ≡ offset_place (part_at (of_kind r of) p).at i)

-- the value of an attribute is the index of such a slot; it may be said of the value's first byte too
pub record IsUseAstray (r : Linkable) (place : ℕ) : Type 0 where
  pub u : ℕ
  pub known : u < length r.units
  pub id : ℕ
  pub number : ℕ
  pub name : ℕ
  pub meaning : Meaning
  pub stands : HasValueAt (unit_at r u) id number name meaning place
  pub of : ListKind
  pub p : ℕ
  pub i : ℕ
  pub links : Links r u id name meaning (SlotAt of p i)
  pub astray : (at : ℕ) → ¬ SlotNames (of_kind r of) p i at

-- ENTRIES

-- a list that something names, and the contribution in which it begins
pub record IsNamedAt (r : Linkable) (of : ListKind) (p at : ℕ) : Type 0 where
  pub named : IsNamed r of at
  pub begins : IsListPlace (of_kind r of) p at

-- The bytes of a list at a place of a contribution have a fault. How many entries all lists have is asked elsewhere.
abbrev pub FaultBytes : ListKind → List ℕ → Contribution → ℕ → Reach → Kind → ℕ → Type 0
FaultBytes of section part at reach Limit place = ⊥
FaultBytes Ranges section part at reach kind place = FaultRangeList section part at reach kind place
FaultBytes Locations section part at reach kind place = FaultLocationList section part at reach kind place

abbrev pub FaultEntries : Linkable → Reach → ListKind → Kind → ℕ → Type 0
FaultEntries r reach of kind place = (p : ℕ) × (at : ℕ) × IsNamedAt r of p at × FaultBytes of (of_kind r of).section (part_at (of_kind r of) p) at reach kind place

-- an index can't be looked up in the context of a unit that names the list; it is said of its entry
abbrev pub FaultLooking : Linkable → ListKind → Kind → ℕ → Type 0
FaultLooking r of kind place = (list : ListRead) × (u : ℕ) × IsListIn r of list × IsNamedIn r of list.at u × FaultIndexes of (context_at r u) list.raws kind place

-- EXPRESSIONS

-- an operation of an expression of a list names nothing that it may; where no entry names the list this is asked only of what counts from
-- the first byte of .debug_info
abbrev pub IsAstrayIn : Linkable → Option ℕ → ℕ → ℕ → Type 0
IsAstrayIn r (Some u) code n = ¬ ((target : OpTarget) × Names r u code n target)
IsAstrayIn r None code n = (named_by code ≡ SectionEntry) × (¬ ((target : OpTarget) × NamesSectionEntry r n target))

-- The place is the first byte of its reference, counted from that of the expression.
pub record FaultListReference (r : Linkable) (owner : Option ℕ) (bytes : List ℕ) (place : ℕ) : Type 0 where
  pub ops : List Op
  pub spelled : IsExpression Wide (all_meant bytes ops) bytes
  pub places : Chain bytes 0 ops (length bytes)
  pub k : ℕ
  pub inside : k < length ops
  pub stands : IsReferencePlace bytes (op_at ops k).code (op_at ops k).at place
  pub astray : IsAstrayIn r owner (op_at ops k).code (op_at ops k).a

abbrev pub FaultListOperations : Linkable → Option ℕ → Reach → List ℕ → Kind → ℕ → Type 0
FaultListOperations r owner reach bytes kind place = FaultExpression reach kind place bytes ⊎ ((kind ≡ NoTarget) × FaultListReference r owner bytes place)

-- the expression of an item of a location list has a fault
pub record FaultListExpression (r : Linkable) (reach : Reach) (kind : Kind) (place : ℕ) : Type 0 where
  pub list : ListRead
  pub read : IsListIn r Locations list
  pub owner : Option ℕ
  pub owned : IsOwner r Locations list.at owner
  pub raw : RawEntry
  pub one : Contains (items_among list.raws) raw
  pub inner : ℕ
  pub fault : FaultListOperations r owner reach (bytes_in r.locations.section raw.expr) kind inner
  pub here : place ≡ raw.expr.at + inner

-- A location list that entries of two units name, or none, has an expression with an operation that counts in a unit. It is said of the
-- list.
pub record IsTornApart (r : Linkable) (place : ℕ) : Type 0 where
  pub list : ListRead
  pub read : IsListIn r Locations list
  pub units : IsOfTwoUnits r Locations list.at ⊎ IsUnowned r Locations list.at
  pub raw : RawEntry
  pub one : Contains (items_among list.raws) raw
  pub offset : HasUnitOffset (bytes_in r.locations.section raw.expr)
  pub here : place ≡ list.at

abbrev pub FaultExpressionsOf : ListKind → Linkable → Reach → Kind → ℕ → Type 0
FaultExpressionsOf Ranges r reach kind place = ⊥
FaultExpressionsOf Locations r reach ListShared place = IsTornApart r place
FaultExpressionsOf Locations r reach kind place = FaultListExpression r reach kind place

-- THE LIMITS

-- a list of a kind begins with these entries, whatever stands behind them
abbrev pub BeginsWith : ListKind → List ℕ → Contribution → ℕ → List RawEntry → Type 0
BeginsWith Ranges section part at raws = (entries : List Entry) × (front : List ℕ) × (rest : List ℕ) × AreReadFrom IsRangeRead at raws entries front × (bytes_from section part at ≡ front ++ rest)
BeginsWith Locations section part at raws = (entries : List (Entry × List ℕ)) × (front : List ℕ) × (rest : List ℕ) × AreReadFrom IsLocationRead at raws entries front × (bytes_from section part at ≡ front ++ rest)

-- how much lists have together of what is measured of each
abbrev pub list_total : (List RawEntry → ℕ) → List ListRead → ℕ
list_total measure lists = sum_by (λ (list : ListRead). measure list.raws) lists

-- how many entries
abbrev pub entry_total : List ListRead → ℕ
entry_total lists = list_total length lists

-- the bytes of the expressions of entries
abbrev pub expression_bytes : List RawEntry → ℕ
expression_bytes raws = sum_by (λ (raw : RawEntry). raw.expr.len) raws

-- the most bytes that the expressions of all lists may have together
abbrev pub expression_limit : Reach → ℕ
expression_limit Narrow = 2 ^ 27
expression_limit Wide = 2 ^ 30

-- These are all the lists that something names and that begin before a place, each once, by rising place.
pub record AreBefore (r : Linkable) (of : ListKind) (at : ℕ) (front : List ListRead) : Type 0 where
  pub rising : (j k : ℕ) → j < k → k < length front → (list_at front j).at < (list_at front k).at
  pub each : (k : ℕ) → k < length front → IsListIn r of (list_at front k) × ((list_at front k).at < at)
  pub all : (place : ℕ) → IsNamed r of place → place < at → (k : ℕ) × (k < length front) × ((list_at front k).at ≡ place)

-- These are all the lists of a kind that something names, each once, by rising place.
pub record AreAllOf (r : Linkable) (of : ListKind) (lists : List ListRead) : Type 0 where
  pub rising : (j k : ℕ) → j < k → k < length lists → (list_at lists j).at < (list_at lists k).at
  pub each : (k : ℕ) → k < length lists → IsListIn r of (list_at lists k)
  pub all : (place : ℕ) → IsNamed r of place → (k : ℕ) × (k < length lists) × ((list_at lists k).at ≡ place)

-- the lists of the kinds that are counted before a kind: all range lists before location lists
abbrev pub AreEarlier : Linkable → ListKind → List ListRead → Type 0
AreEarlier r Ranges lists = lists ≡ []
AreEarlier r Locations lists = AreAllOf r Ranges lists

-- With the list at a place all lists that something names have more together than a file may have of what is measured. They are counted
-- in the order of their places, range lists first.
pub record PassesTotal (r : Linkable) (measure : List RawEntry → ℕ) (limit : ℕ) (of : ListKind) (at : ℕ) : Type 0 where
  pub p : ℕ
  pub named : IsNamedAt r of p at
  pub earlier : List ListRead
  pub other : AreEarlier r of earlier
  pub front : List ListRead
  pub before : AreBefore r of at front
  pub within : list_total measure earlier + list_total measure front ≤ limit
  pub raws : List RawEntry
  pub begins : BeginsWith of (of_kind r of).section (part_at (of_kind r of) p) at raws
  pub past : limit < list_total measure earlier + list_total measure front + measure raws

-- the number of entries does, or of the bytes of their expressions
abbrev pub PassesLimit : Linkable → Reach → ListKind → ℕ → Type 0
PassesLimit r reach of place = PassesTotal r length (list_entry_limit reach) of place ⊎ PassesTotal r expression_bytes (expression_limit reach) of place

-- VIEW PAIRS

-- So many view pairs at a place go with the list at another, by the entries of the list. They are to stand in its contribution, which has
-- this number.
pub record AreViewsWanted (r : Linkable) (list at p count : ℕ) : Type 0 where
  pub named : AreViewsNamed r list at
  pub read : ListRead
  pub of_list : IsListIn r Locations read
  pub same : read.at ≡ list
  pub holder : p ≡ read.part
  pub entries : List Entry
  pub said : AreSaid Locations read.raws entries
  pub counted : count ≡ pair_count entries

-- one of the pairs isn't whole in the contribution, or doesn't fit
abbrev pub FaultPairs : Linkable → Kind → ℕ → Type 0
FaultPairs r kind place = (list : ℕ) × (at : ℕ) × (p : ℕ) × (count : ℕ) × AreViewsWanted r list at p count × FaultRun r.locations.section (part_at r.locations p) at count kind place

-- view pairs that are counted: where they go, where they stand, and how many they are
pub record CountedPairs : Type 0 where
  pub list : ℕ
  pub at : ℕ
  pub count : ℕ

abbrev pub ArePairs : Linkable → CountedPairs → Type 0
ArePairs r c = (p : ℕ) × AreViewsWanted r c.list c.at p c.count

-- They are counted in the order of their places; those that go with several lists once for each, in the order of the lists.
abbrev pub PairsComeBefore : CountedPairs → CountedPairs → Type 0
PairsComeBefore a b = (a.at < b.at) ⊎ ((a.at ≡ b.at) × (a.list < b.list))

abbrev pub pairs_at : List CountedPairs → ℕ → CountedPairs
pairs_at front k = slice_index_or front k (record { list = 0; at = 0; count = 0 })

-- With some view pairs all that something names are more than a file may have.
pub record PassesPairs (r : Linkable) (place : ℕ) : Type 0 where
  pub last : CountedPairs
  pub wanted : ArePairs r last
  pub front : List CountedPairs
  pub order : (j k : ℕ) → j < k → k < length front → PairsComeBefore (pairs_at front j) (pairs_at front k)
  pub each : (k : ℕ) → k < length front → ArePairs r (pairs_at front k) × PairsComeBefore (pairs_at front k) last
  pub all : (list at : ℕ) → AreViewsNamed r list at → (at < last.at) ⊎ ((at ≡ last.at) × (list < last.list)) → (k : ℕ) × (k < length front) × ((pairs_at front k).list ≡ list) × ((pairs_at front k).at ≡ at)
  pub within : sum_by (λ (c : CountedPairs). c.count) front ≤ view_limit
  pub past : view_limit < sum_by (λ (c : CountedPairs). c.count) front + last.count
  pub here : place ≡ last.at

-- the view pairs of .debug_loclists
abbrev pub FaultOfViews : Linkable → Kind → ℕ → Type 0
FaultOfViews r Limit place = PassesPairs r place
FaultOfViews r kind place = FaultPairs r kind place

-- THE PASS

-- by the kind of the fault, the rules that have no bytes of their own
abbrev pub FaultByRule : Linkable → Reach → ListKind → Kind → ℕ → Type 0
FaultByRule r reach of Pointer place = IsSlotAstray r of place
FaultByRule r reach of Limit place = PassesLimit r reach of place
FaultByRule r reach of kind place = ⊥

-- something in a section of lists
abbrev pub FaultOfKind : Linkable → Reach → ListKind → Kind → ℕ → Type 0
FaultOfKind r reach of kind place = FaultByRule r reach of kind place ⊎ (FaultEntries r reach of kind place ⊎ (FaultLooking r of kind place ⊎ FaultExpressionsOf of r reach kind place))

-- the values in .debug_info that use a slot
abbrev pub FaultOfUses : Linkable → Kind → ℕ → Type 0
FaultOfUses r Pointer place = IsUseAstray r place
FaultOfUses r kind place = ⊥
