-- The order in which things are held: preorder, with places and spans that rise.
use Rattle.std.specs.Prelude.{◌≡◌, ◌≤◌, ◌<◌, ◌+◌, ◌^◌, ◌⊎◌, ℕ, List, [], length, IfSome}
use Rattle.std.specs.List.{AllZip}
use Rattle.form_codec.specs.declared.value.Value.{Value}
use Rattle.form_codec.specs.Values.{LiesIn}
use Rattle.entry_arena.specs.declared.entry.Entry.{Entry}
use Rattle.entry_arena.specs.declared.entry.ChainEnd.{ChainEnd}
use Rattle.entry_arena.specs.Arena.{Arena, entry_at, value_at, chain_end_at, span_of}

-- the first entry is a root, and an entry stands at most one below the one before it (DWARF 5 section 2.3)
pub record IsPreorder (entries : List Entry) : Type 0 where
  pub root : 0 < length entries → (entry_at entries 0).depth ≡ 0
  pub below : (i : ℕ) → i + 1 < length entries → (entry_at entries (i + 1)).depth ≤ (entry_at entries i).depth + 1

-- each entry has the values that follow those of the one before it
pub record HaveValues (entries : List Entry) (count : ℕ) : Type 0 where
  pub first : 0 < length entries → (entry_at entries 0).first ≡ 0
  pub adjacent : (i : ℕ) → i + 1 < length entries → (entry_at entries (i + 1)).first ≡ (entry_at entries i).first + (entry_at entries i).count
  pub inside : (i : ℕ) → i < length entries → (entry_at entries i).first + (entry_at entries i).count ≤ count

-- the bytes of each entry end before the next one begins, and the last ones in so many bytes
pub record EntriesRise (entries : List Entry) (size : ℕ) : Type 0 where
  pub wide : (i : ℕ) → i < length entries → 0 < (entry_at entries i).len
  pub inside : (i : ℕ) → i < length entries → (entry_at entries i).at + (entry_at entries i).len ≤ size
  pub rising : (i j : ℕ) → i < j → j < length entries → (entry_at entries i).at + (entry_at entries i).len ≤ (entry_at entries j).at

-- the codes 0 that end chains rise, and each ends the children of one of so many entries
pub record EndsRise (ends : List ChainEnd) (entries size : ℕ) : Type 0 where
  pub owned : (i : ℕ) → i < length ends → (chain_end_at ends i).entry < entries
  pub inside : (i : ℕ) → i < length ends → (chain_end_at ends i).at < size
  pub rising : (i j : ℕ) → i < j → j < length ends → (chain_end_at ends i).at < (chain_end_at ends j).at

-- a code 0 that ends a chain stands before or after an entry's bytes
abbrev pub AreApart : List Entry → List ChainEnd → Type 0
AreApart entries ends = (i j : ℕ) → i < length entries → j < length ends → ((chain_end_at ends j).at < (entry_at entries i).at) ⊎ ((entry_at entries i).at + (entry_at entries i).len ≤ (chain_end_at ends j).at)

-- the bytes that a value lends end before those of a later one begin
abbrev pub ComesBefore : Value → Value → Type 0
ComesBefore v w = IfSome (span_of v) (λ s. IfSome (span_of w) (λ t. s.at + s.len ≤ t.at))

-- spans lie in so many bytes, in order
pub record SpansRise (values : List Value) (size : ℕ) : Type 0 where
  pub inside : (i : ℕ) → i < length values → LiesIn size (value_at values i)
  pub rising : (i j : ℕ) → i < j → j < length values → ComesBefore (value_at values i) (value_at values j)

-- values that lend the same bytes, one by one
abbrev pub LendAlike : List Value → List Value → Type 0
LendAlike = AllZip (λ v w. span_of w ≡ span_of v)

-- what is true of each forest
pub record IsInOrder (f : Arena) : Type 0 where
  pub preorder : IsPreorder f.entries
  pub valued : HaveValues f.entries (length f.values)
  pub entered : EntriesRise f.entries (length f.section)
  pub ended : EndsRise f.ends (length f.entries) (length f.section)
  pub apart : AreApart f.entries f.ends
  pub spans : SpansRise f.values (length f.section)

-- numbers of 32 bits name all that is held
pub record IsCounted (f : Arena) : Type 0 where
  pub entries : length f.entries < 2 ^ 32
  pub values : length f.values < 2 ^ 32
  pub ends : length f.ends < 2 ^ 32

pub record IsHeld (f : Arena) : Type 0 where
  pub order : IsInOrder f
  pub count : IsCounted f

-- all that is held stands before a place
pub record ComesAfterAll (entries : List Entry) (ends : List ChainEnd) (place : ℕ) : Type 0 where
  pub entered : (i : ℕ) → i < length entries → (entry_at entries i).at + (entry_at entries i).len ≤ place
  pub ended : (i : ℕ) → i < length ends → (chain_end_at ends i).at < place

-- the entry may come next: its place and its values are the next in order, and its depth is that of a preorder
pub record IsNextEntry (f : Arena) (e : Entry) : Type 0 where
  pub place : ComesAfterAll f.entries f.ends e.at
  pub wide : 0 < e.len
  pub inside : e.at + e.len ≤ length f.section
  pub root : f.entries ≡ [] → (e.depth ≡ 0) × (e.first ≡ 0)
  pub below : (last : ℕ) → last + 1 ≡ length f.entries → e.depth ≤ (entry_at f.entries last).depth + 1
  pub adjacent : (last : ℕ) → last + 1 ≡ length f.entries → e.first ≡ (entry_at f.entries last).first + (entry_at f.entries last).count
  pub valued : e.first + e.count ≤ length f.values

-- the value may come next: the bytes that it lends come after those of all others
pub record IsNextValue (f : Arena) (v : Value) : Type 0 where
  pub inside : LiesIn (length f.section) v
  pub after : (i : ℕ) → i < length f.values → ComesBefore (value_at f.values i) v

-- the code 0 that ends the children of an entry may stand next at a place
pub record IsNextEnd (f : Arena) (id place : ℕ) : Type 0 where
  pub after : ComesAfterAll f.entries f.ends place
  pub inside : place < length f.section
  pub owned : id < length f.entries
