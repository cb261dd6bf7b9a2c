-- What is known of the entries that are picked for a list, from its first item to its last.
-- Inner functions and proofs alone need what stands here.
use Rattle.std.specs.Prelude.{◌≡◌, ◌≤◌, ◌<◌, ◌+◌, ◌-◌, ◌*◌, ℕ, List, [], ◌∷◌, length, ◌++◌, Option, Some, slice_index, take, drop, map, min, zero, suc}
use Rattle.leb_codec.specs.LineCosts.{IsLeastCost}
use Rattle.list_model.specs.declared.context.Context.{Context}
use Rattle.list_model.specs.declared.item.Item.{Item}
use Rattle.list_model.specs.declared.entry.EntryKind.{EntryKind}
use Rattle.list_model.specs.declared.entry.EntryKind.TheVariants.{BaseAddressx, DefaultLocation, BaseAddress}
use Rattle.list_model.specs.declared.entry.ListKind.{ListKind}
use Rattle.list_model.specs.Entries.{Entry, code_of}
use Rattle.list_model.specs.Items.{Bounds, SetsBase, HasBounds, GiveFrom}
use Rattle.list_model.specs.Costs.{ItemWithin, ItemsWithin, entry_bytes}
use Rattle.list_model.specs.Potentials.{potential, OnFrom, AreGreatest}
use Rattle.list_least.specs.declared.pick.Pick.{Pick}
use Rattle.list_least.specs.declared.pick.Chosen.{Chosen}
use Rattle.list_least.specs.declared.fill.Left.{Left}
use Rattle.list_least.specs.Plans.{bounds_of, entries_bytes, ArePicks}
use Rattle.list_least.specs.Tails.{IsSet}
use Rattle.list_least.specs.inside.Search.{AreAllCosts, AreChosen}
use Rattle.list_least.specs.declared.costs.Costs.{Costs}
use Rattle.list_least.specs.declared.cheapest.Choice.{Choice}

-- no entry of a kind gives the item under the base in so many bytes
abbrev pub Fails : List ℕ → Context → ℕ → Bounds → EntryKind → ℕ → Type 0
Fails addr context base item kind bytes = (a b : ℕ) → HasBounds addr context base kind a b item → bytes < entry_bytes kind a b

-- so many bytes are left for items under a base: for some of the first n, and for the potential of what follows these
abbrev pub IsFilled : List ℕ → Context → ℕ → List Bounds → List ℕ → ℕ → ℕ → Type 0
IsFilled addr context base items potentials zero left = left ≡ potential potentials
IsFilled addr context base (item ∷ items) (p ∷ ps) (suc n) left = (cost : ℕ) × (next : ℕ) × IsLeastCost (ItemWithin addr context base item) cost × IsFilled addr context base items ps n next × (left ≡ min p (next + cost))
IsFilled addr context base items potentials (suc n) left = ⊥

-- so many bytes are left from each item on, from one of them up to another, under a base; those of the last one stand first
pub record AreFilled (addr : List ℕ) (context : Context) (base : ℕ) (items : List Item) (potentials : List ℕ) (from to : ℕ) (bytes : List ℕ) : Type 0 where
  pub size : length bytes ≡ to - from + 1
  pub each : (i : ℕ) → from ≤ i → i ≤ to → IsFilled addr context base (map bounds_of (drop i items)) (drop i potentials) (to - i) (slice_index bytes (to - i))

-- The first n items under a base and the potential behind them take at least 9 bytes more than fewer of them and the potential
-- behind these, and 9 bytes set any base.
pub record IsFar (addr : List ℕ) (context : Context) (base : ℕ) (items : List Bounds) (potentials : List ℕ) (n : ℕ) : Type 0 where
  pub taken : ℕ
  pub bytes : ℕ
  pub within : taken ≤ n
  pub enough : ItemsWithin addr context base (take taken items) bytes
  pub far : (more : ℕ) → ItemsWithin addr context base (take n items) more → bytes + potential (drop taken potentials) + 9 ≤ more + potential (drop n potentials)

-- Of the first n items under a base so many bytes are the sum, and the best of some of them and the potential behind these.
pub record IsScanned (addr : List ℕ) (context : Context) (base : ℕ) (items : List Bounds) (potentials : List ℕ) (n sum best : ℕ) : Type 0 where
  pub whole : IsLeastCost (ItemsWithin addr context base (take n items)) sum
  pub taken : ℕ
  pub bytes : ℕ
  pub within : taken ≤ n
  pub enough : ItemsWithin addr context base (take taken items) bytes
  pub is : best ≡ bytes + potential (drop taken potentials)

-- the bytes that are left from the item with a number on
abbrev pub left_from : Left → ℕ → ℕ
left_from left i = slice_index left.bytes.items (left.to - i)

-- what is left under a base from one item on, up to the end or to where another base is set at the latest
pub record IsLeftUnder (addr : List ℕ) (context : Context) (base : ℕ) (items : List Item) (potentials : List ℕ) (from : ℕ) (left : Left) : Type 0 where
  pub order : from ≤ left.to
  pub inside : left.to ≤ length items
  pub filled : AreFilled addr context base items potentials from left.to left.bytes.items
  pub least : AreGreatest addr context (map bounds_of items) potentials → IsLeastCost (OnFrom addr context base (map bounds_of (drop from items)) (drop from potentials)) (left_from left from)

-- Entries for the items before one of them are picked, and so many bytes are left at most for a size.
pub record IsOnWay (list : ListKind) (addr : List ℕ) (context : Context) (items : List Item) (i base : ℕ) (picks : List Pick) (left size : ℕ) : Type 0 where
  pub entries : List Entry
  pub picked : ArePicks list picks entries
  pub gives : (more : List Entry) → GiveFrom addr context base more (map bounds_of (drop i items)) → GiveFrom addr context context.base (entries ++ more) (map bounds_of items)
  pub sum : entries_bytes entries + left ≤ size
  pub few : length entries ≤ 2 * i

-- an entry of a list, as it was chosen
abbrev pub as_entry : Chosen → Entry
as_entry chosen = record { kind = chosen.kind; a = chosen.a; b = chosen.b }

-- the picks are those of more entries
abbrev pub AddsPick : ListKind → List Pick → Entry → List Pick → Type 0
AddsPick list old entry new = (entries : List Entry) → ArePicks list old entries → ArePicks list new (entries ++ entry ∷ [])

-- a kind of entry has a code in lists of a kind
abbrev pub HasCode : ListKind → EntryKind → Type 0
HasCode list kind = (code : ℕ) × (code_of list kind ≡ Some code)

-- each operand that a kind of entry lacks is 0
abbrev pub LackedAreZero : EntryKind → ℕ → ℕ → Type 0
LackedAreZero BaseAddressx a b = b ≡ 0
LackedAreZero DefaultLocation a b = (a ≡ 0) × (b ≡ 0)
LackedAreZero BaseAddress a b = b ≡ 0
LackedAreZero _ a b = Unit {0}

-- what is known of a list before its entries are picked
pub record IsSearched (addr : List ℕ) (context : Context) (items : List Item) (costs : List Costs) (potentials : List ℕ) (choices : List Choice) : Type 0 where
  pub all : AreAllCosts addr context items costs
  pub greatest : AreGreatest addr context (map bounds_of items) potentials
  pub chosen : AreChosen addr context (map bounds_of items) potentials choices

-- That is known of some list whose first base is this one.
abbrev pub IsSearchedFrom : ℕ → List Costs → List ℕ → List Choice → Type 0
IsSearchedFrom base costs potentials choices = (addr : List ℕ) × (context : Context) × (items : List Item) × (context.base ≡ base) × IsSearched addr context items costs potentials choices

-- an entry is an item, in the fewest bytes under a base
pub record IsItemEntry (addr : List ℕ) (context : Context) (base : ℕ) (item : Bounds) (entry : Entry) : Type 0 where
  pub has : HasBounds addr context base entry.kind entry.a entry.b item
  pub least : IsLeastCost (ItemWithin addr context base item) (entry_bytes entry.kind entry.a entry.b)

-- an entry for an item is picked, which takes the fewest bytes under a base
pub record IsPlaced (list : ListKind) (addr : List ℕ) (context : Context) (base : ℕ) (item : Bounds) (old new : List Pick) : Type 0 where
  pub entry : Entry
  pub is : IsItemEntry addr context base item entry
  pub adds : AddsPick list old entry new

-- an entry that sets a base is picked
pub record IsBasePicked (list : ListKind) (addr : List ℕ) (context : Context) (index : Option ℕ) (base : ℕ) (old new : List Pick) : Type 0 where
  pub entry : Entry
  pub sets : (bytes : ℕ) → IsSet addr context index base bytes → SetsBase addr context entry.kind entry.a base × (entry_bytes entry.kind entry.a entry.b ≤ bytes)
  pub adds : AddsPick list old entry new

-- the picks before an item are on the way to a list of the least size, and so much is left under the base
pub record IsWay (list : ListKind) (addr : List ℕ) (context : Context) (items : List Item) (potentials : List ℕ) (i base : ℕ) (picks : List Pick) (left : Left) : Type 0 where
  pub from : ℕ
  pub behind : from ≤ i
  pub before : i ≤ left.to
  pub under : IsLeftUnder addr context base items potentials from left
  pub on : (size : ℕ) → IsLeastCost (OnFrom addr context context.base (map bounds_of items) potentials) size → IsOnWay list addr context items i base picks (left_from left i) size
