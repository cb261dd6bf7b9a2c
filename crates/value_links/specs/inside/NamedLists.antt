-- Lists of a kind that namings name, as they are read one by one.
-- Inner functions and proofs alone need what stands here.
use Rattle.std.specs.Prelude.{◌≡◌, ◌≢◌, ◌≤◌, ◌<◌, ◌+◌, ◌⊎◌, ◌↔◌, ℕ, List, length, map, take, drop, slice_index_or, Option, Some, None, Bool, true, false}
use Rattle.std.specs.List.{All, AllPairs, Contains}
use Rattle.dw_base.specs.declared.fault.Kind.{Kind}
use Rattle.dw_base.specs.declared.fault.Kind.TheVariants.{Limit}
use Rattle.dw_base.specs.declared.fault.Reach.{Reach}
use Rattle.list_model.specs.declared.context.Context.{Context}
use Rattle.list_model.specs.declared.entry.RawEntry.{RawEntry}
use Rattle.list_model.specs.declared.contribution.Contribution.{Contribution}
use Rattle.list_model.specs.declared.entry.ListKind.{ListKind}
use Rattle.list_model.specs.declared.entry.ListKind.TheVariants.{Ranges, Locations}
use Rattle.list_model.specs.declared.item.Item.{Item}
use Rattle.list_model.specs.declared.item.Meaning.{Meaning}
use Rattle.list_model.specs.declared.item.Meaning.TheVariants.{Live, Dead}
use Rattle.list_model.specs.Entries.{Entry, AreSaid}
use Rattle.list_model.specs.Items.{Bounds, Give, FaultIndexes}
use Rattle.list_model.specs.Reading.{list_entry_limit}
use Rattle.range_lists.specs.Ranges.{FaultRangeList}
use Rattle.loc_lists.specs.Locations.{FaultLocationList}
use Rattle.list_arena.specs.Held.{HeldList}
use Rattle.value_links.specs.declared.parts.Parts.{Parts}
use Rattle.value_links.specs.Parts.{lists_in}
use Rattle.value_links.specs.Reading.{ListSection, ListRead, part_at, no_context}
use Rattle.value_links.specs.ListPlaces.{IsListPlace}
use Rattle.value_links.specs.declared.lists.ListTotals.{ListTotals}
use Rattle.value_links.specs.Lists.{long_limit, IsListOf}
use Rattle.value_links.specs.ListFaults.{list_total, entry_total, expression_bytes, expression_limit, BeginsWith}
use Rattle.value_links.specs.World.{IsMeaningOf}
use Rattle.value_links.specs.inside.Checks.{InEach}
use Rattle.value_links.specs.inside.ListExpressions.{IsOwnerBy, IsTorn, AreExprsRead}
use Rattle.value_links.specs.inside.Namings.{slot_number, first_naming, AreInOrder}

-- NAMINGS OF ONE LIST

-- a unit is among those that namings tell
abbrev pub HasUnit : List (ℕ × ℕ) → ℕ → Type 0
HasUnit named u = (u ≢ slot_number) × ((at : ℕ) × Contains named (at, u))

-- These are the namings of one list among all, in their order.
pub record AreNamingsAt (namings : List (ℕ × ℕ)) (at : ℕ) (named : List (ℕ × ℕ)) : Type 0 where
  pub some : 0 < length named
  pub order : AreInOrder named
  pub here : (y : ℕ × ℕ) → Contains named y → y.0 ≡ at
  pub among : (y : ℕ × ℕ) → Contains named y → Contains namings y
  pub all : (y : ℕ × ℕ) → Contains namings y → y.0 ≡ at → Contains named y

-- WHAT A LIST MEANS

-- the context of the unit with a number
abbrev pub context_held : List Context → ℕ → Context
context_held contexts u = slice_index_or contexts u no_context

-- all indexes of a list are looked up in a context
abbrev pub IsLookedUpIn : ListKind → List ℕ → List RawEntry → Context → Type 0
IsLookedUpIn of addr raws context = (entries : List Entry) × (bounds : List Bounds) × AreSaid of raws entries × Give addr context entries bounds

-- they are in the context of each unit that names the list
abbrev pub AreLookedUpBy : ListKind → List ℕ → List Context → List (ℕ × ℕ) → List RawEntry → Type 0
AreLookedUpBy of addr contexts named raws = (u : ℕ) → HasUnit named u → IsLookedUpIn of addr raws (context_held contexts u)

-- whether a unit that names a list has another context than a given one
abbrev pub IsOtherContext : List Context → List (ℕ × ℕ) → Context → Bool → Type 0
IsOtherContext contexts named owned true = (u : ℕ) × HasUnit named u × (context_held contexts u ≢ owned)
IsOtherContext contexts named owned false = (u : ℕ) → HasUnit named u → context_held contexts u ≡ owned

-- the context of a unit, in which a list is looked up, where it differs from the last one; a slot has none
abbrev pub IsNextContext : ListKind → List ℕ → List Context → List RawEntry → ℕ → Context → Option Context → Type 0
IsNextContext of addr contexts raws unit last (Some next) = (unit ≢ slot_number) × (next ≡ context_held contexts unit) × (next ≢ last) × IsLookedUpIn of addr raws next
IsNextContext of addr contexts raws unit last None = (unit ≡ slot_number) ⊎ (context_held contexts unit ≡ last)

-- A list is kept by its items in the context of its first unit, where all units have this context and the items are few; or it is kept
-- as dead, since no unit names it, units with different contexts do, a sum is too large, or the items are many.
abbrev pub IsKeptBy : ListKind → List ℕ → List Context → List (ℕ × ℕ) → List RawEntry → Meaning → Type 0
IsKeptBy of addr contexts named raws (Live items) =
    ((first_naming named).1 ≢ slot_number) × IsOtherContext contexts named (context_held contexts (first_naming named).1) false × IsMeaningOf of addr (context_held contexts (first_naming named).1) raws (Live items) × (length items ≤ long_limit)
IsKeptBy of addr contexts named raws Dead =
    ((first_naming named).1 ≡ slot_number)
    ⊎ (((first_naming named).1 ≢ slot_number)
    × (IsOtherContext contexts named (context_held contexts (first_naming named).1) true
    ⊎ (IsMeaningOf of addr (context_held contexts (first_naming named).1) raws Dead
    ⊎ ((items : List Item) × IsMeaningOf of addr (context_held contexts (first_naming named).1) raws (Live items) × (long_limit < length items)))))

-- an index of the list can't be looked up in the context of a unit that names it
abbrev pub FaultLookingBy : ListKind → List Context → List (ℕ × ℕ) → List RawEntry → Kind → ℕ → Type 0
FaultLookingBy of contexts named raws kind place = (u : ℕ) × HasUnit named u × FaultIndexes of (context_held contexts u) raws kind place

-- WHAT IS READ

-- the list that these name is read, where the contributions to a section are held, the bytes of .debug_addr, and of each unit its context
pub record IsReadBy (of : ListKind) (section : ListSection) (addr : List ℕ) (contexts : List Context) (named : List (ℕ × ℕ)) (list : HeldList) : Type 0 where
  pub at : list.at ≡ (first_naming named).0
  pub begins : IsListPlace section list.part list.at
  pub owner : IsOwnerBy named list.owner
  pub read : IsListOf of section.section (part_at section list.part) list.at list.raw
  pub looked : AreLookedUpBy of addr contexts named list.raw
  pub kept : IsKeptBy of addr contexts named list.raw list.meaning

-- what is read of some entries of lists of a kind
abbrev pub AreEntriesOf : ListKind → List RawEntry → Type 0
AreEntriesOf of raws = (entries : List Entry) × AreSaid of raws entries

-- the bytes of a list of a kind have a fault
abbrev pub FaultListOf : ListKind → List ℕ → Contribution → ℕ → Reach → Kind → ℕ → Type 0
FaultListOf Ranges section part at reach kind place = FaultRangeList section part at reach kind place
FaultListOf Locations section part at reach kind place = FaultLocationList section part at reach kind place

-- a list that begins with these entries has too many of them, or too many bytes of expressions, with so many before it
abbrev pub PassesBy : Reach → ListTotals → List RawEntry → Type 0
PassesBy reach before raws = (list_entry_limit reach < before.entries + length raws) ⊎ (expression_limit reach < before.bytes + expression_bytes raws)

-- The list at a place has a fault: its bytes have, an index, or it passes a limit with what stands before it.
abbrev pub FaultBy : ListKind → ListSection → List Context → List (ℕ × ℕ) → Reach → ListTotals → ℕ → ℕ → Kind → ℕ → Type 0
FaultBy of section contexts named reach before p at kind place =
    ((kind ≢ Limit) × FaultListOf of section.section (part_at section p) at reach kind place)
    ⊎ (((raws : List RawEntry) × IsListOf of section.section (part_at section p) at raws × FaultLookingBy of contexts named raws kind place)
    ⊎ ((kind ≡ Limit) × (place ≡ at) × ((raws : List RawEntry) × BeginsWith of section.section (part_at section p) at raws × PassesBy reach before raws)))

-- so has the list that these name
abbrev pub FaultNamed : ListKind → ListSection → List Context → List (ℕ × ℕ) → Reach → ListTotals → Kind → ℕ → Type 0
FaultNamed of section contexts named reach before kind place = (p : ℕ) × IsListPlace section p (first_naming named).0 × FaultBy of section contexts named reach before p (first_naming named).0 kind place

-- ALL LISTS

-- a list as it is read
abbrev pub as_read : HeldList → ListRead
as_read list = record { at = list.at; part = list.part; raws = list.raw }

-- a list that some of all namings name is read
abbrev pub IsReadAmong : ListKind → ListSection → List ℕ → List Context → List (ℕ × ℕ) → HeldList → Type 0
IsReadAmong of section addr contexts namings list = (named : List (ℕ × ℕ)) × AreNamingsAt namings list.at named × IsReadBy of section addr contexts named list

-- so much more lists have together
pub record AreCounted (before : ListTotals) (lists : List ListRead) (now : ListTotals) : Type 0 where
  pub entries : now.entries ≡ before.entries + entry_total lists
  pub bytes : now.bytes ≡ before.bytes + list_total expression_bytes lists

abbrev pub no_totals : ListTotals
no_totals = record { entries = 0; bytes = 0 }

-- and it keeps the limits
pub record AreFew (reach : Reach) (totals : ListTotals) : Type 0 where
  pub entries : totals.entries ≤ list_entry_limit reach
  pub bytes : totals.bytes ≤ expression_limit reach

-- with a list more
pub record IsNextTotal (reach : Reach) (before : ListTotals) (raws : List RawEntry) (now : ListTotals) : Type 0 where
  pub entries : now.entries ≡ before.entries + length raws
  pub bytes : now.bytes ≡ before.bytes + expression_bytes raws
  pub few : AreFew reach now

-- The lists of the first namings are read, and keep the limits with what stands before them.
pub record AreReadUpTo (of : ListKind) (section : ListSection) (addr : List ℕ) (contexts : List Context) (namings : List (ℕ × ℕ)) (reach : Reach) (before : ListTotals) (from : ℕ) (lists : List HeldList) (now : ListTotals) : Type 0 where
  pub inside : from ≤ length namings
  pub counted : AreCounted before (map as_read lists) now
  pub few : AreFew reach now
  pub each : All (IsReadAmong of section addr contexts namings) lists
  pub rising : AllPairs (λ (x y : HeldList). x.at < y.at) lists
  pub done : (y : ℕ × ℕ) → Contains (take from namings) y → (list : HeldList) × Contains lists list × (list.at ≡ y.0)
  pub ahead : (y : ℕ × ℕ) (list : HeldList) → Contains (drop from namings) y → Contains lists list → list.at < y.0

-- the expressions of the list that these name are read, whatever is read of which these are the parts
abbrev pub AreExprsReadIn : Parts → ListKind → List (ℕ × ℕ) → Reach → List RawEntry → Type 0
AreExprsReadIn parts of named reach raws = InEach parts (λ r. (owner : Option ℕ) (torn : Bool) → IsOwnerBy named owner → (torn ≡ true) ↔ IsTorn named → AreExprsRead of (lists_in parts of).section.now r owner torn reach raws)

-- so are those of a list that some of all namings name
abbrev pub AreExprsReadAmong : Parts → ListKind → List (ℕ × ℕ) → Reach → HeldList → Type 0
AreExprsReadAmong parts of namings reach list = (named : List (ℕ × ℕ)) × AreNamingsAt namings list.at named × AreExprsReadIn parts of named reach list.raw

-- and those of all lists that are read
abbrev pub AreExprsReadUpTo : Parts → ListKind → List (ℕ × ℕ) → Reach → List HeldList → Type 0
AreExprsReadUpTo parts of namings reach lists = All (AreExprsReadAmong parts of namings reach) lists

-- so many of the first namings name one list, and the one behind them names another
pub record IsGroup (namings : List (ℕ × ℕ)) (count : ℕ) : Type 0 where
  pub some : 0 < count
  pub inside : count ≤ length namings
  pub same : All (λ (y : ℕ × ℕ). y.0 ≡ (first_naming namings).0) (take count namings)
  pub other : count < length namings → (slice_index_or namings count (0, 0)).0 ≢ (first_naming namings).0

-- these are the ones from a number on that name one list
pub record IsNext (namings : List (ℕ × ℕ)) (from : ℕ) (named : List (ℕ × ℕ)) : Type 0 where
  pub group : IsGroup (drop from namings) (length named)
  pub is : named ≡ take (length named) (drop from namings)
