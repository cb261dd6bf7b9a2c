-- What holds of all trees and walks of entries.
use Rattle.std.specs.Prelude.{◌≡◌, ◌≢◌, ◌≤◌, ◌<◌, ◌⊎◌, ◌↔◌, ℕ, List, [], ◌∷◌, ◌++◌, length}
use Rattle.dw_base.specs.declared.fault.Kind.{Kind}
use Rattle.leb_codec.specs.Leb.{Uleb, IsShort, IsWideUnsigned}
use Rattle.form_codec.specs.declared.value.Value.{Value}
use Rattle.form_codec.specs.Faults.{FaultValue}
use Rattle.abbrev_tables.specs.declared.decl.Spec.{Spec}
use Rattle.abbrev_tables.specs.Tables.{Declared, codes_of, AreDistinct, SpellsTable}
use Rattle.entry_arena.specs.Trees.{declared_at, bytes_between, SpellsBetween, ValuesBetween, Listed, nothing_from, AddsEntry, AddsEnd, IsForest}
use Rattle.entry_arena.specs.Walks.{Item, IsGoing, Walks, IsWhole}
use Rattle.entry_arena.specs.Runs.{HasRuns}

-- a unit's entries are one tree exactly where a whole walk lists them
abbrev pub TreesAreWalks : Type 0
TreesAreWalks = (section : List ℕ) (ds : List Declared) (start : ℕ) (forest : Listed) → IsForest section ds start forest ↔ IsWhole section ds start forest

-- no code names two declarations, and 0 names none
pub record HaveCodes (ds : List Declared) : Type 0 where
  pub distinct : AreDistinct (codes_of ds)
  pub some : (number : ℕ) → number < length ds → (declared_at ds number).code ≢ 0

-- this holds of the declarations of a table
abbrev pub TablesHaveCodes : Type 0
TablesHaveCodes = (ds : List Declared) (bytes : List ℕ) → SpellsTable ds bytes → HaveCodes ds

-- a walk goes on where another has ended
pub record WalksOn (section : List ℕ) (ds : List Declared) (items : List Item) (now : Listed) (chains : List ℕ) (all : List Item) (new : Listed) (left : List ℕ) : Type 0 where
  pub more : List Item
  pub items_are : all ≡ items ++ more
  pub walked : Walks section ds now chains more new left

-- walks from the same start agree as far as both go
abbrev pub WalksAgree : Type 0
WalksAgree = (section : List ℕ) (ds : List Declared) (old : Listed) (chains : List ℕ) (is js : List Item) (a b : Listed) (p q : List ℕ) → HaveCodes ds → Walks section ds old chains is a p → Walks section ds old chains js b q → WalksOn section ds is a p js b q ⊎ WalksOn section ds js b q is a p

-- each walk from the start of a whole walk is a front of it; so no other front of it is whole
abbrev pub WholeWalksAreLongest : Type 0
WholeWalksAreLongest = (section : List ℕ) (ds : List Declared) (start : ℕ) (items : List Item) (forest now : Listed) (chains : List ℕ) → HaveCodes ds → (whole : IsWhole section ds start forest) → Walks section ds (nothing_from start) [] items now chains → WalksOn section ds items now chains whole.items forest []

abbrev pub OneWholeWalk : Type 0
OneWholeWalk = (section : List ℕ) (ds : List Declared) (start : ℕ) (a b : Listed) → HaveCodes ds → (p : IsWhole section ds start a) → (q : IsWhole section ds start b) → (p.items ≡ q.items) × (a ≡ b)

-- so entries, their values, and the places of all are the only ones that the bytes from a place on spell
abbrev pub OneForest : Type 0
OneForest = (section : List ℕ) (ds : List Declared) (start : ℕ) (a b : Listed) → HaveCodes ds → IsForest section ds start a → IsForest section ds start b → a ≡ b

-- in a whole walk the codes 0 stand where the depths of the entries say
abbrev pub WalksHaveRuns : Type 0
WalksHaveRuns = (section : List ℕ) (ds : List Declared) (start : ℕ) (forest : Listed) → (whole : IsWhole section ds start forest) → HasRuns ds whole.items forest.entries

-- no less is listed, up to a place that is no earlier
pub record Rises (old new : Listed) : Type 0 where
  pub place : old.place ≤ new.place
  pub entries : length old.entries ≤ length new.entries
  pub values : length old.values ≤ length new.values
  pub ends : length old.ends ≤ length new.ends

abbrev pub WalksRise : Type 0
WalksRise = (section : List ℕ) (ds : List Declared) (old : Listed) (chains : List ℕ) (items : List Item) (new : Listed) (left : List ℕ) → Walks section ds old chains items new left → Rises old new

-- an entry or the end of a chain stands next, and ends no later than at a place
abbrev pub StepsWithin : List ℕ → List Declared → ℕ → ℕ → Listed → Type 0
StepsWithin section ds depth to now = ((number : ℕ) × (mid : Listed) × AddsEntry section ds depth number now mid × (mid.place ≤ to)) ⊎ ((id : ℕ) × (mid : Listed) × AddsEnd section id now mid × (mid.place ≤ to))

-- where a front of a whole walk goes on, something stands next
abbrev pub GoingWalksStep : Type 0
GoingWalksStep = (section : List ℕ) (ds : List Declared) (now forest : Listed) (chains : List ℕ) (items : List Item) (to : ℕ) → IsGoing now chains → forest.entries ≢ [] → forest.place ≤ to → Walks section ds now chains items forest [] → StepsWithin section ds (length chains) to now

-- The code of an entry and the values of some of its columns stand from a place on, and what follows them up to an end has
-- the fault of a value of the next column.
pub record FaultyColumn (section : List ℕ) (ds : List Declared) (from to : ℕ) (kind : Kind) (at : ℕ) : Type 0 where
  pub number : ℕ
  pub known : number < length ds
  pub values_at : ℕ
  pub coded : SpellsBetween (Uleb ((declared_at ds number).code)) section from values_at
  pub before : List Spec
  pub column : Spec
  pub after : List Spec
  pub columns : (declared_at ds number).columns ≡ before ++ column ∷ after
  pub values : List Value
  pub valued : ValuesBetween section before values values_at at
  pub inside : at ≤ to
  pub fault : FaultValue column.name column.form column.constant kind (bytes_between section at to)

-- The bytes from a place up to an end aren't empty (else a chain would be cut), and have none of these faults: a code that
-- the end cuts (Short) or that doesn't fit (LebWide), a code of no declaration (CodeMissing), and a value that doesn't stand
-- there whole (Short, LebWide or Text).
pub record HasNoFault (section : List ℕ) (ds : List Declared) (from to : ℕ) : Type 0 where
  pub some : from < to
  pub not_short : IsShort (bytes_between section from to) → ⊥
  pub not_wide : IsWideUnsigned (bytes_between section from to) → ⊥
  pub declared : (code at : ℕ) → SpellsBetween (Uleb code) section from at → code ≢ 0 → ((number : ℕ) → number < length ds → (declared_at ds number).code ≢ code) → ⊥
  pub valued : (kind : Kind) (at : ℕ) → FaultyColumn section ds from to kind at → ⊥

-- never both: where something stands next, there is no fault
abbrev pub StepsHaveNoFault : Type 0
StepsHaveNoFault = (section : List ℕ) (ds : List Declared) (depth to : ℕ) (now : Listed) → HaveCodes ds → StepsWithin section ds depth to now → HasNoFault section ds now.place to

-- a walk that has listed no entry is at its start
abbrev pub WalksWithoutEntries : Type 0
WalksWithoutEntries = (section : List ℕ) (ds : List Declared) (start : ℕ) (items : List Item) (now : Listed) (chains : List ℕ) → Walks section ds (nothing_from start) [] items now chains → now.entries ≡ [] → (now ≡ nothing_from start) × (chains ≡ [])

-- and there no code 0 stands where a unit's entries begin
abbrev pub RootsHaveCodes : Type 0
RootsHaveCodes = (section : List ℕ) (ds : List Declared) (start at : ℕ) (forest : Listed) → HaveCodes ds → IsForest section ds start forest → SpellsBetween (Uleb 0) section start at → ⊥
