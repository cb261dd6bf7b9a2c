-- Where a front of a whole walk goes on: with the entry or with the code 0 that stands first of those that aren't listed yet.
-- So whoever takes the entries and the codes 0 of a forest in the order of their places takes them as they are walked.
use Rattle.std.specs.Prelude.{◌≡◌, ◌<◌, ◌≤◌, ◌-◌, ◌+◌, ◌⊎◌, ◌↔◌, ℕ, List, [], ◌∷◌, ◌++◌, length, take, drop}
use Rattle.abbrev_tables.specs.Tables.{Declared}
use Rattle.entry_arena.specs.Arena.{entry_at, chain_end_at}
use Rattle.entry_arena.specs.Trees.{Listed, nothing_from, AddsEntry, AddsEnd}
use Rattle.entry_arena.specs.Walks.{Item, IsGoing, opened, Walks}
use Rattle.entry_arena.specs.Walks.Item.{AnEntry, AnEnd}

-- A whole walk of a forest has come to a place, and the rest of it goes on from there. So many entries and so many ends of
-- chains are listed by then.
pub record HasWalked (section : List ℕ) (ds : List Declared) (start : ℕ) (forest : Listed) (entries ends : ℕ) (items : List Item) (now : Listed) (chains : List ℕ) (rest : List Item) : Type 0 where
  pub walked : Walks section ds (nothing_from start) [] items now chains
  pub onward : Walks section ds now chains rest forest []
  pub entries_are : length now.entries ≡ entries
  pub ends_are : length now.ends ≡ ends

-- It goes on with the next entry, which is that of the forest with the number `entries` and stands before all codes 0 that
-- aren't listed.
pub record EntryIsNext (section : List ℕ) (ds : List Declared) (start : ℕ) (forest : Listed) (entries ends : ℕ) (items : List Item) (now : Listed) (chains : List ℕ) (rest : List Item) : Type 0 where
  pub number : ℕ
  pub mid : Listed
  pub later : List Item
  pub rest_is : rest ≡ AnEntry number ∷ later
  pub going : IsGoing now chains
  pub adds : AddsEntry section ds (length chains) number now mid
  pub inside : entries < length forest.entries
  pub here : entry_at forest.entries entries ≡ record { at = now.place; len = mid.place - now.place; depth = length chains; decl = number; first = length now.values; count = length adds.values }
  pub values_are : take (entry_at forest.entries entries).count (drop (entry_at forest.entries entries).first forest.values) ≡ adds.values
  pub before_ends : (k : ℕ) → ends ≤ k → k < length forest.ends → now.place < (chain_end_at forest.ends k).at
  pub next : HasWalked section ds start forest (entries + 1) ends (items ++ AnEntry number ∷ []) mid (opened ds number entries chains) later

-- It goes on with the next end of a chain, which is that of the forest with the number `ends` and stands before all entries
-- that aren't listed.
pub record EndIsNext (section : List ℕ) (ds : List Declared) (start : ℕ) (forest : Listed) (entries ends : ℕ) (items : List Item) (now : Listed) (chains : List ℕ) (rest : List Item) : Type 0 where
  pub parent : ℕ
  pub outer : List ℕ
  pub mid : Listed
  pub later : List Item
  pub rest_is : rest ≡ AnEnd ∷ later
  pub innermost : chains ≡ parent ∷ outer
  pub adds : AddsEnd section parent now mid
  pub inside : ends < length forest.ends
  pub here : chain_end_at forest.ends ends ≡ record { entry = parent; at = now.place }
  pub before_entries : (k : ℕ) → entries ≤ k → k < length forest.entries → now.place < (entry_at forest.entries k).at
  pub next : HasWalked section ds start forest entries (ends + 1) (items ++ AnEnd ∷ []) mid outer later

-- It has come to its end, where all is listed.
pub record IsWalked (forest : Listed) (entries ends : ℕ) (now : Listed) (chains : List ℕ) (rest : List Item) : Type 0 where
  pub rest_is : rest ≡ []
  pub all : now ≡ forest
  pub closed : chains ≡ []
  pub entries_are : entries ≡ length forest.entries
  pub ends_are : ends ≡ length forest.ends

-- Where a whole walk goes on, and that numbers and places of what isn't listed tell it.
pub record WalksStep (section : List ℕ) (ds : List Declared) (start : ℕ) (forest : Listed) (entries ends : ℕ) (items : List Item) (now : Listed) (chains : List ℕ) (rest : List Item) : Type 0 where
  pub most : (entries ≤ length forest.entries) × (ends ≤ length forest.ends)
  pub cases : EntryIsNext section ds start forest entries ends items now chains rest ⊎ (EndIsNext section ds start forest entries ends items now chains rest ⊎ IsWalked forest entries ends now chains rest)
  pub entry : entries < length forest.entries → (ends < length forest.ends → (entry_at forest.entries entries).at < (chain_end_at forest.ends ends).at) → EntryIsNext section ds start forest entries ends items now chains rest
  pub chain_end : ends < length forest.ends → (entries < length forest.entries → (chain_end_at forest.ends ends).at < (entry_at forest.entries entries).at) → EndIsNext section ds start forest entries ends items now chains rest
  pub done : (rest ≡ []) ↔ ((entries ≡ length forest.entries) × (ends ≡ length forest.ends))
  pub all : entries ≡ length forest.entries → ends ≡ length forest.ends → IsWalked forest entries ends now chains rest

-- each whole walk does so
abbrev pub WalksGoOn : Type 0
WalksGoOn =
    (section : List ℕ) (ds : List Declared) (start : ℕ) (forest : Listed) (entries ends : ℕ) (items : List Item) (now : Listed) (chains : List ℕ) (rest : List Item) → HasWalked section ds start forest entries ends items now chains rest → WalksStep section ds start forest entries ends items now chains rest
