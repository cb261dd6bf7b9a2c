-- The faults of units, as conditions on the bytes. Places count from the section's first byte.
use Rattle.std.specs.Prelude.{◌≡◌, ◌≢◌, ◌≤◌, ◌<◌, ◌⊎◌, ℕ, List, [], length, slice_index}
use Rattle.dw_base.specs.declared.fault.Kind.{Kind}
use Rattle.dw_base.specs.declared.fault.Kind.TheVariants.{Limit, LebWide, Short, CodeMissing, UnitHead as AHead, Tree, Text}
use Rattle.leb_codec.specs.Leb.{Uleb, IsShort, IsWideUnsigned}
use Rattle.abbrev_tables.specs.Tables.{Declared}
use Rattle.entry_arena.specs.Trees.{Listed, SpellsBetween, declared_at, AddsEntry}
use Rattle.entry_arena.specs.ForestLaws.{FaultyColumn}
use Rattle.entry_arena.specs.Walks.{IsGoing}
use Rattle.entry_read.specs.declared.head.UnitHead.{UnitHead}
use Rattle.entry_read.specs.declared.unit.Counts.{Counts}
use Rattle.fixed_width.specs.InitialLengths.{IsWhole, IsCut, IsReserved}
use Rattle.entry_read.specs.Heads.{HasHead, Follow}
use Rattle.entry_read.specs.Units.{end_of, rest_of, IsWithin, IsFront}

-- The unit at a place has a fault in its header. It is Short alone where the section cuts the unit, and UnitHead
-- where the unit is whole and breaks a rule of headers, or its length is a reserved one.
abbrev pub FaultHead : List ℕ → ℕ → Kind → ℕ → Type 0
FaultHead section at Short place = (place ≡ at) × IsCut section at
FaultHead section at AHead place = (place ≡ at) × (IsReserved section at ⊎ (IsWhole section at × (¬ HasHead section at)))
FaultHead section at _ place = ⊥

-- After units that are the section's front, another begins at a place and has a fault in its header.
pub record FaultHeads (section : List ℕ) (kind : Kind) (place : ℕ) : Type 0 where
  pub heads : List UnitHead
  pub at : ℕ
  pub front : Follow section heads 0 at
  pub inside : at < length section
  pub fault : FaultHead section at kind place

-- A code that stands in the unit at a place, and ends by itself.
pub record HasCodeAt (info : List ℕ) (head : UnitHead) (place code : ℕ) : Type 0 where
  pub to : ℕ
  pub coded : SpellsBetween (Uleb code) info place to
  pub inside : to ≤ end_of head

-- The entries make no tree: the root's code is 0, the unit ends inside a chain, or a byte other than 0 follows the tree.
abbrev pub IsNoTree : List ℕ → UnitHead → Listed → List ℕ → Type 0
IsNoTree info head now chains =
    ((now.entries ≡ []) × HasCodeAt info head now.place 0)
    ⊎ ((IsGoing now chains × (now.place ≡ end_of head))
    ⊎ ((now.entries ≢ []) × (chains ≡ []) × ((k : ℕ) × (now.place ≤ k) × (k < end_of head) × (slice_index info k ≢ 0))))

-- The unit ends inside a code. Where it ends right after an entry or a chain, no code is cut.
abbrev pub IsCutCode : List ℕ → UnitHead → Listed → List ℕ → Type 0
IsCutCode info head now chains = IsGoing now chains × IsShort (rest_of info head now.place) × ((now.entries ≡ []) ⊎ (now.place < end_of head))

-- A code doesn't fit 64 bits.
abbrev pub IsWideCode : List ℕ → UnitHead → Listed → List ℕ → Type 0
IsWideCode info head now chains = IsGoing now chains × IsWideUnsigned (rest_of info head now.place)

-- The code that stands next isn't 0, and no declaration has it.
pub record IsUndeclared (info : List ℕ) (head : UnitHead) (ds : List Declared) (now : Listed) (chains : List ℕ) : Type 0 where
  pub going : IsGoing now chains
  pub code : ℕ
  pub stands : HasCodeAt info head now.place code
  pub some : code ≢ 0
  pub missing : (number : ℕ) → number < length ds → (declared_at ds number).code ≢ code

-- The code of an entry and some of its values stand next, and what follows them at a place up to the unit's end has the
-- fault of a value of the next column.
abbrev pub IsCutEntry : List ℕ → UnitHead → List Declared → Listed → List ℕ → Kind → ℕ → Type 0
IsCutEntry info head ds now chains kind place = IsGoing now chains × FaultyColumn info ds now.place (end_of head) kind place

-- A whole entry stands next, and it is the first with which the entries or the values of this unit and those before pass a
-- limit. Where those before pass it already, this is the root.
pub record PassesLimit (info : List ℕ) (head : UnitHead) (ds : List Declared) (before : Counts) (now : Listed) (chains : List ℕ) : Type 0 where
  pub going : IsGoing now chains
  pub number : ℕ
  pub new : Listed
  pub entry : AddsEntry info ds (length chains) number now new
  pub inside : new.place ≤ end_of head
  pub first : (now.entries ≡ []) ⊎ IsWithin before (length now.entries) (length now.values)
  pub past : ¬ IsWithin before (length new.entries) (length new.values)

-- The fault of each kind, after the front of a unit's entries.
abbrev pub FaultNext : List ℕ → UnitHead → List Declared → Counts → Listed → List ℕ → Kind → ℕ → Type 0
FaultNext info head ds before now chains Tree place = (place ≡ head.at) × IsNoTree info head now chains
FaultNext info head ds before now chains Short place = ((place ≡ now.place) × IsCutCode info head now chains) ⊎ IsCutEntry info head ds now chains Short place
FaultNext info head ds before now chains LebWide place = ((place ≡ now.place) × IsWideCode info head now chains) ⊎ IsCutEntry info head ds now chains LebWide place
FaultNext info head ds before now chains Text place = IsCutEntry info head ds now chains Text place
FaultNext info head ds before now chains CodeMissing place = (place ≡ now.place) × IsUndeclared info head ds now chains
FaultNext info head ds before now chains Limit place = (place ≡ now.place) × PassesLimit info head ds before now chains
FaultNext info head ds before now chains _ place = ⊥

-- The unit of a head has a fault in its entries.
pub record FaultUnit (info : List ℕ) (head : UnitHead) (ds : List Declared) (before : Counts) (kind : Kind) (place : ℕ) : Type 0 where
  pub now : Listed
  pub chains : List ℕ
  pub front : IsFront info head ds now chains
  pub fault : FaultNext info head ds before now chains kind place
