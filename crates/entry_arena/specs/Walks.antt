-- The entries of a unit in preorder, with the codes 0 that end chains of siblings (DWARF 5 section 2.3): the form in
-- which they stand one after the other, without a tree.
use Rattle.std.specs.Prelude.{◌≡◌, ◌≢◌, ◌⊎◌, ℕ, List, [], ◌∷◌, length, if◌then◌else◌}
use Rattle.abbrev_tables.specs.Tables.{Declared}
use Rattle.entry_arena.specs.Trees.{Listed, declared_at, nothing_from, AddsEntry, AddsEnd}

-- what stands next: an entry, by the number of its declaration, or the code 0 that ends a chain
pub data Item : Type 0 where
  AnEntry : ℕ → Item
  AnEnd : Item

-- the numbers of the entries whose children don't end yet, the innermost first, after an entry with this number. So the
-- depth of what stands next is how many they are.
abbrev pub opened : List Declared → ℕ → ℕ → List ℕ → List ℕ
opened ds number id chains = if (declared_at ds number).children then id ∷ chains else chains

-- an entry may stand next: none stands yet, or the children of some entry do not end yet
abbrev pub IsGoing : Listed → List ℕ → Type 0
IsGoing old chains = (old.entries ≡ []) ⊎ (chains ≢ [])

-- the items stand one after the other. Before them the children of the entries in `chains` don't end yet, and after them
-- those of the entries in `left`.
abbrev pub Walks : List ℕ → List Declared → Listed → List ℕ → List Item → Listed → List ℕ → Type 0
Walks section ds old chains [] new left = (new ≡ old) × (left ≡ chains)
Walks section ds old chains (AnEntry number ∷ items) new left = IsGoing old chains × ((mid : Listed) × AddsEntry section ds (length chains) number old mid × Walks section ds mid (opened ds number (length old.entries) chains) items new left)
Walks section ds old chains (AnEnd ∷ items) new left = (id : ℕ) × (outer : List ℕ) × (mid : Listed) × (chains ≡ id ∷ outer) × AddsEnd section id old mid × Walks section ds mid outer items new left

-- a walk from a place on that lists a unit's entries, and after which no children don't end yet
pub record IsWhole (section : List ℕ) (ds : List Declared) (start : ℕ) (forest : Listed) : Type 0 where
  pub items : List Item
  pub walked : Walks section ds (nothing_from start) [] items forest []
  pub some : forest.entries ≢ []
