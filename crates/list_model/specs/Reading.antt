-- Lists that are read at a place of a contribution, range lists and location lists alike: what is read of them, and their faults.
-- V is the type of what the bytes of one entry spell, which for location lists has an expression too.
use Rattle.std.specs.Prelude.{◌≡◌, ◌≤◌, ◌<◌, ◌+◌, ◌-◌, ◌⊎◌, ◌^◌, ℕ, List, [], ◌∷◌, ◌++◌, length, take, drop}
use Rattle.spelled.specs.Spelled.{Joined, FaultUntilEnd}
use Rattle.dw_base.specs.declared.fault.Kind.{Kind}
use Rattle.dw_base.specs.declared.fault.Kind.TheVariants.{Limit}
use Rattle.dw_base.specs.declared.fault.Reach.{Reach}
use Rattle.dw_base.specs.declared.fault.Reach.TheVariants.{Narrow, Wide}
use Rattle.list_model.specs.declared.contribution.Contribution.{Contribution}
use Rattle.list_model.specs.declared.entry.ListKind.{ListKind}
use Rattle.list_model.specs.declared.entry.RawEntry.{RawEntry}
use Rattle.list_model.specs.declared.read.ReadEntry.{ReadEntry}
use Rattle.list_model.specs.Contributions.{bytes_from}
use Rattle.list_model.specs.Entries.{Entry, SpellsEntry, IsListEnd, Says, no_expr}

-- This is what is read of an entry of a list that stands at a place of the bytes, but for its expression, and the place behind
-- its operands.
pub record IsReadEntry (list : ListKind) (bytes : List ℕ) (at : ℕ) (read : ReadEntry) : Type 0 where
  pub entry : Entry
  pub place : read.raw.at ≡ at
  pub says : Says list read.raw entry
  pub without : read.raw.expr ≡ no_expr
  pub after : at < read.end
  pub inside : read.end ≤ length bytes
  pub spelled : SpellsEntry list entry (take (read.end - at) (drop at bytes))

-- The bytes are the things, one after the other, and these are what is read of them, where the first of the bytes stands at a
-- place. `IsRead` says what is read of a thing that stands at a place, by its bytes.
abbrev pub AreReadFrom : {P V : Type 0} → (ℕ → P → V → List ℕ → Type 0) → ℕ → List P → List V → List ℕ → Type 0
AreReadFrom IsRead at [] [] bytes = bytes ≡ []
AreReadFrom IsRead at (raw ∷ raws) (v ∷ vs) bytes = (first : List ℕ) × (rest : List ℕ) × IsRead at raw v first × AreReadFrom IsRead (at + length first) raws vs rest × (bytes ≡ first ++ rest)
AreReadFrom IsRead at _ _ bytes = ⊥

-- This is what is read of a list at a place of the contribution: of its entries, which go up to the first end of a list.
-- `IsRead` says what is read of an entry that stands at a place, by its bytes.
pub record IsListRead {V : Type 0} (IsRead : ℕ → RawEntry → V → List ℕ → Type 0) (section : List ℕ) (part : Contribution) (at : ℕ) (raws : List RawEntry) : Type 0 where
  pub entries : List V
  pub front : List ℕ
  pub end : List ℕ
  pub rest : List ℕ
  pub read : AreReadFrom IsRead at raws entries front
  pub ended : IsListEnd end
  pub whole : bytes_from section part at ≡ front ++ (end ++ rest)

-- The most entries that a list may have, and all lists of a file together. The end of a list is none.
abbrev pub list_entry_limit : Reach → ℕ
list_entry_limit Narrow = 2 ^ 24
list_entry_limit Wide = 2 ^ 25

-- The bytes begin with more entries than a list may have.
pub record PassesLimit {V : Type 0} (Spells : V → List ℕ → Type 0) (reach : Reach) (bytes : List ℕ) : Type 0 where
  pub entries : List V
  pub front : List ℕ
  pub rest : List ℕ
  pub spelled : Joined Spells entries front
  pub whole : bytes ≡ front ++ rest
  pub many : list_entry_limit reach < length entries

-- The bytes, which go on to the end of the contribution, have a fault as a list. Places count from the first of them. `Fault` is
-- that of bytes that begin neither with an entry nor with the end of a list.
abbrev pub FaultList : {V : Type 0} → (V → List ℕ → Type 0) → (Kind → ℕ → List ℕ → Type 0) → Reach → Kind → ℕ → List ℕ → Type 0
FaultList Spells Fault reach Limit place bytes = ((place ≡ 0) × PassesLimit Spells reach bytes) ⊎ FaultUntilEnd Spells Fault Limit place bytes
FaultList Spells Fault reach kind place bytes = FaultUntilEnd Spells Fault kind place bytes
