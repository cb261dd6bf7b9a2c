-- The places of entries and of codes 0: each is where what is spelled before it ends (DWARF 5 sections 2.3 and 7.5).
use Rattle.std.specs.Prelude.{◌≡◌, ◌≤◌, ◌<◌, ◌-◌, ℕ, List, [], ◌∷◌, ◌++◌, length}
use Rattle.spelled.specs.Spelled.{Joined}
use Rattle.leb_codec.specs.Leb.{Uleb}
use Rattle.form_codec.specs.Forms.{Meaning}
use Rattle.abbrev_tables.specs.Tables.{Declared}
use Rattle.entry_arena.specs.Arena.{entry_at, chain_end_at}
use Rattle.entry_arena.specs.Trees.{Listed, SpellsBetween, nothing_from, AddsEntry, AddsEnd}
use Rattle.entry_arena.specs.Walks.{Item, opened, Walks}
use Rattle.entry_arena.specs.Walks.Item.{AnEntry, AnEnd}
use Rattle.entry_arena.specs.Spellings.{SpellsEntry}

-- an entry of a declaration, whatever its values, or a code 0
abbrev pub SpellsItem : List Declared → Item → List ℕ → Type 0
SpellsItem ds (AnEntry number) bytes = (values : List Meaning) × SpellsEntry ds number values bytes
SpellsItem ds AnEnd bytes = Uleb 0 bytes

-- the items of a walk are spelled, one after the other, up to the place that it comes to
abbrev pub WalksAreSpelled : Type 0
WalksAreSpelled = (section : List ℕ) (ds : List Declared) (start : ℕ) (items : List Item) (now : Listed) (chains : List ℕ) → start ≤ length section → Walks section ds (nothing_from start) [] items now chains → SpellsBetween (Joined (SpellsItem ds) items) section start now.place

-- The walk comes to the entry with a number, which stands at the place that it has come to, as deep as chains are open there,
-- and goes on behind it.
pub record ComesToEntry (section : List ℕ) (ds : List Declared) (start : ℕ) (items : List Item) (new : Listed) (left : List ℕ) (id : ℕ) : Type 0 where
  pub before : List Item
  pub now : Listed
  pub chains : List ℕ
  pub number : ℕ
  pub mid : Listed
  pub after : List Item
  pub walked : Walks section ds (nothing_from start) [] before now chains
  pub count : length now.entries ≡ id
  pub adds : AddsEntry section ds (length chains) number now mid
  pub here : entry_at new.entries id ≡ record { at = now.place; len = mid.place - now.place; depth = length chains; decl = number; first = length now.values; count = length adds.values }
  pub rest : Walks section ds mid (opened ds number id chains) after new left
  pub items_are : items ≡ before ++ AnEntry number ∷ after

abbrev pub WalksComeToEntries : Type 0
WalksComeToEntries = (section : List ℕ) (ds : List Declared) (start : ℕ) (items : List Item) (new : Listed) (left : List ℕ) → Walks section ds (nothing_from start) [] items new left → (id : ℕ) → id < length new.entries → ComesToEntry section ds start items new left id

-- likewise the code 0 with a number, which ends the innermost chain that is open there
pub record ComesToEnd (section : List ℕ) (ds : List Declared) (start : ℕ) (items : List Item) (new : Listed) (left : List ℕ) (number : ℕ) : Type 0 where
  pub before : List Item
  pub now : Listed
  pub parent : ℕ
  pub outer : List ℕ
  pub mid : Listed
  pub after : List Item
  pub walked : Walks section ds (nothing_from start) [] before now (parent ∷ outer)
  pub count : length now.ends ≡ number
  pub adds : AddsEnd section parent now mid
  pub here : chain_end_at new.ends number ≡ record { entry = parent; at = now.place }
  pub rest : Walks section ds mid outer after new left
  pub items_are : items ≡ before ++ AnEnd ∷ after

abbrev pub WalksComeToEnds : Type 0
WalksComeToEnds = (section : List ℕ) (ds : List Declared) (start : ℕ) (items : List Item) (new : Listed) (left : List ℕ) → Walks section ds (nothing_from start) [] items new left → (number : ℕ) → number < length new.ends → ComesToEnd section ds start items new left number
