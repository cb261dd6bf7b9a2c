-- Where the tree of a unit ends.
use Rattle.std.specs.Prelude.{◌≡◌, ◌≤◌, ◌<◌, ◌+◌, ◌⊎◌, ℕ, List, [], length}
use Rattle.leb_codec.specs.Leb.{Uleb}
use Rattle.abbrev_tables.specs.Tables.{Declared}
use Rattle.entry_arena.specs.Arena.{entry_at, chain_end_at}
use Rattle.entry_arena.specs.Trees.{Listed, SpellsBetween, listed_to}
use Rattle.entry_read.specs.Units.{HeadAndForest, IsUnit}

-- the tree of a unit that is held ends at a place, whatever the declarations are
abbrev pub IsTreeEnd : HeadAndForest → ℕ → Type 0
IsTreeEnd unit p = (ds : List Declared) (place : ℕ) → IsUnit unit.forest.section unit.head ds (listed_to unit.forest place) → p ≡ place

-- what is listed ends with its last entry, and its codes 0 begin before that end
pub record EndsWithEntry (now : Listed) : Type 0 where
  pub last : ℕ
  pub is_last : last + 1 ≡ length now.entries
  pub end : (entry_at now.entries last).at + (entry_at now.entries last).len ≡ now.place
  pub before : (k : ℕ) → k < length now.ends → (chain_end_at now.ends k).at < now.place

-- or it ends with its last code 0, and its entries end no later than that begins
pub record EndsWithCode (section : List ℕ) (now : Listed) : Type 0 where
  pub last : ℕ
  pub is_last : last + 1 ≡ length now.ends
  pub coded : SpellsBetween (Uleb 0) section (chain_end_at now.ends last).at now.place
  pub before : (k : ℕ) → k < length now.entries → (entry_at now.entries k).at + (entry_at now.entries k).len ≤ (chain_end_at now.ends last).at

-- one of both, where something is listed
abbrev pub EndsWithLast : List ℕ → Listed → Type 0
EndsWithLast section now = (now.entries ≡ []) ⊎ (EndsWithEntry now ⊎ EndsWithCode section now)
