-- The map of an address table (DWARF 5 section 7.27), by which indexes are looked up.
use Rattle.std.specs.Prelude.{◌≡◌, ◌≤◌, ◌<◌, ◌+◌, ◌-◌, ◌*◌, ◌⊎◌, ℕ, List, length, slice_index_or, min, Option, Some, slice_index, map}
use Rattle.list_model.specs.declared.tables.AddrTable.{AddrTable}
use Rattle.list_model.specs.Addresses.{address_of}
use Rattle.list_least.specs.declared.map.AddressMap.{AddressMap}
use Rattle.list_model.specs.declared.context.Context.{Context}
use Rattle.list_model.specs.Items.{IsIndexed}

-- an index is that of this address in a table
abbrev pub IsInTable : List ℕ → Option AddrTable → ℕ → ℕ → Type 0
IsInTable addr table index address = (t : AddrTable) × (table ≡ Some t) × (index < t.count) × (address ≡ address_of addr t index)

-- the address and the index with a number
abbrev pub pair_at : List (ℕ × ℕ) → ℕ → ℕ × ℕ
pair_at pairs i = slice_index_or pairs i (0, 0)

-- addresses rise, and indexes of one address too
abbrev pub AreRising : List (ℕ × ℕ) → Type 0
AreRising pairs = (i j : ℕ) → i < j → j < length pairs → ((pair_at pairs i).0 < (pair_at pairs j).0) ⊎ (((pair_at pairs i).0 ≡ (pair_at pairs j).0) × ((pair_at pairs i).1 ≤ (pair_at pairs j).1))

-- the addresses and indexes of a table, rising
pub record AreSorted (addr : List ℕ) (table : Option AddrTable) (pairs : List (ℕ × ℕ)) : Type 0 where
  pub has : (i : ℕ) → i < length pairs → IsInTable addr table (pair_at pairs i).1 (pair_at pairs i).0
  pub all : (index address : ℕ) → IsInTable addr table index address → (i : ℕ) × (i < length pairs) × ((pair_at pairs i).0 ≡ address) × ((pair_at pairs i).1 ≡ index)
  pub rising : AreRising pairs

-- So many numbers of a tree have behind the leaves the lesser of two: those at 2 * i and 2 * i + 1 have it at count + i.
pub record AreHalvesTo (count : ℕ) (tree : List ℕ) (n : ℕ) : Type 0 where
  pub size : length tree ≡ count + n
  pub each : (i : ℕ) → i < n → slice_index tree (count + i) ≡ min (slice_index tree (2 * i)) (slice_index tree (2 * i + 1))

-- All numbers of a tree behind its leaves are the lesser of two.
abbrev pub AreHalves : ℕ → List ℕ → Type 0
AreHalves count tree = AreHalvesTo count tree (count - 1)

-- the tree of the indexes of pairs
pub record IsTree (pairs : List (ℕ × ℕ)) (tree : List ℕ) : Type 0 where
  pub leaves : (i : ℕ) → i < length pairs → slice_index tree i ≡ (pair_at pairs i).1
  pub halves : AreHalves (length pairs) tree

-- a map is that of a table, or of none
pub record IsMapOf (addr : List ℕ) (table : Option AddrTable) (map : AddressMap) : Type 0 where
  pub sorted : AreSorted addr table map.sorted.items
  pub tree : IsTree map.sorted.items map.tree.items

-- a map is that of some table
abbrev pub IsMap : AddressMap → Type 0
IsMap map = (addr : List ℕ) × (table : Option AddrTable) × IsMapOf addr table map

-- no index is that of an address from one up to another
abbrev pub HasNoIndex : List ℕ → Context → ℕ → ℕ → Type 0
HasNoIndex addr context from to = (index address : ℕ) → IsIndexed addr context index address → from ≤ address → address ≤ to → ⊥

-- the least index of the addresses from one up to another
pub record IsLeastIndex (addr : List ℕ) (context : Context) (from to index : ℕ) : Type 0 where
  pub address : ℕ
  pub is : IsIndexed addr context index address
  pub above : from ≤ address
  pub below : address ≤ to
  pub least : (other at : ℕ) → IsIndexed addr context other at → from ≤ at → at ≤ to → index ≤ other
