-- Where the codes 0 stand among the entries of a unit in preorder (DWARF 5 section 2.3): how deep the entries are and whether
-- they have children tells all of them.
use Rattle.std.specs.Prelude.{◌≡◌, ◌≤◌, ◌<◌, ◌-◌, ◌+◌, ℕ, zero, suc, List, [], ◌∷◌, ◌++◌, map, if◌then◌else◌}
use Rattle.abbrev_tables.specs.Tables.{Declared}
use Rattle.entry_arena.specs.declared.entry.Entry.{Entry}
use Rattle.entry_arena.specs.Trees.{declared_at}
use Rattle.entry_arena.specs.Walks.{Item}
use Rattle.entry_arena.specs.Walks.Item.{AnEntry, AnEnd}

-- of each entry its depth and the number of its declaration
abbrev pub outline_of : List Entry → List (ℕ × ℕ)
outline_of entries = map (λ (e : Entry). (e.depth, e.decl)) entries

-- so many codes 0
abbrev pub zeros : ℕ → List Item
zeros zero = []
zeros (suc n) = AnEnd ∷ zeros n

-- how many chains of siblings an entry of a declaration opens: one where it has children, else none
abbrev pub chains_of : List Declared → ℕ → ℕ
chains_of ds number = if (declared_at ds number).children then 1 else 0

-- Entries in preorder with their codes 0, where so many chains are open before them. Before an entry, codes 0 end the chains
-- that it doesn't stand in, and after the last entry they end all. So after an entry of depth d that opens c chains stand
-- d + c - e codes 0 where the next entry has depth e, and d + c where none follows.
abbrev pub items_of : List Declared → ℕ → List (ℕ × ℕ) → List Item
items_of ds level [] = zeros level
items_of ds level (e ∷ more) = zeros (level - e.0) ++ (AnEntry e.1 ∷ items_of ds (e.0 + chains_of ds e.1) more)

-- each entry stands in a chain that is open: its depth is no more than d + c of the entry before it
abbrev pub AreNested : List Declared → ℕ → List (ℕ × ℕ) → Type 0
AreNested ds level [] = Unit {0}
AreNested ds level (e ∷ more) = (e.0 ≤ level) × AreNested ds (e.0 + chains_of ds e.1) more

-- no entry is a root
abbrev pub AreBelow : List (ℕ × ℕ) → Type 0
AreBelow [] = Unit {0}
AreBelow (e ∷ more) = (0 < e.0) × AreBelow more

-- the codes 0 among the entries stand where the depths say, and the first entry alone is a root
pub record HasRuns (ds : List Declared) (items : List Item) (entries : List Entry) : Type 0 where
  pub root : Entry
  pub below : List Entry
  pub entries_are : entries ≡ root ∷ below
  pub deeper : AreBelow (outline_of below)
  pub nested : AreNested ds 0 (outline_of entries)
  pub items_are : items ≡ items_of ds 0 (outline_of entries)
