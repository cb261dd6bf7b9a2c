-- The ends of chains: an entry that has children by its declaration has one code 0, and no other entry has one (DWARF 5
-- section 2.3). So an entry names the end of its chain, and the end its entry.
use Rattle.std.specs.Prelude.{◌≡◌, ◌<◌, ℕ, List, length, true}
use Rattle.abbrev_tables.specs.Tables.{Declared}
use Rattle.entry_arena.specs.declared.entry.Entry.{Entry}
use Rattle.entry_arena.specs.Arena.{entry_at, chain_end_at}
use Rattle.entry_arena.specs.Trees.{Listed, declared_at}
use Rattle.entry_arena.specs.Walks.{IsWhole}

-- the entry with a number is there, and has children by its declaration
abbrev pub HasChildren : List Declared → List Entry → ℕ → Type 0
HasChildren ds entries id = (id < length entries) × ((declared_at ds ((entry_at entries id).decl)).children ≡ true)

pub record HasOneEndEach (ds : List Declared) (forest : Listed) : Type 0 where
  pub each : (id : ℕ) → HasChildren ds forest.entries id → (i : ℕ) × (i < length forest.ends) × ((chain_end_at forest.ends i).entry ≡ id)
  pub once : (i j : ℕ) → i < length forest.ends → j < length forest.ends → (chain_end_at forest.ends i).entry ≡ (chain_end_at forest.ends j).entry → i ≡ j
  pub owned : (i : ℕ) → i < length forest.ends → HasChildren ds forest.entries ((chain_end_at forest.ends i).entry)

abbrev pub WholeWalksEndChains : Type 0
WholeWalksEndChains = (section : List ℕ) (ds : List Declared) (start : ℕ) (forest : Listed) → IsWhole section ds start forest → HasOneEndEach ds forest
