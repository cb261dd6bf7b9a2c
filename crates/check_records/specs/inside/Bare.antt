-- How many bytes a list has without its expressions and their lengths, counted entry by entry.
-- Inner functions and proofs alone need what stands here.
use Rattle.std.specs.Prelude.{◌≡◌, ◌≤◌, ◌+◌, ◌-◌, ℕ, List, [], ◌∷◌, drop, ⊤}
use Rattle.list_model.specs.declared.entry.ListKind.{ListKind}
use Rattle.list_model.specs.declared.entry.RawEntry.{RawEntry}
use Rattle.unit_slots.specs.Standing.{OperandsEnd}

-- the first entry stands at a place or behind it, and each other one behind the operands of the one before
abbrev pub StandFrom : ListKind → List ℕ → ℕ → List RawEntry → Type 0
StandFrom kind section from [] = ⊤
StandFrom kind section from (raw ∷ raws) = (from ≤ raw.at) × ((end : ℕ) × OperandsEnd kind section raw end × StandFrom kind section end raws)

-- the bytes of the codes and the operands of entries, and of the end of their list
abbrev pub HasBareSize : ListKind → List ℕ → List RawEntry → ℕ → Type 0
HasBareSize kind section [] size = size ≡ 1
HasBareSize kind section (raw ∷ raws) size = (end : ℕ) × (rest : ℕ) × OperandsEnd kind section raw end × HasBareSize kind section raws rest × (size ≡ (end - raw.at) + rest)

-- The bytes of the first so many entries are counted, and with them that of the end.
pub record AreCounted (kind : ListKind) (section : List ℕ) (raws : List RawEntry) (n size : ℕ) : Type 0 where
  pub from : ℕ
  pub left : StandFrom kind section from (drop n raws)
  pub few : size ≤ from + 1
  pub sum : (rest : ℕ) → HasBareSize kind section (drop n raws) (rest + 1) → HasBareSize kind section raws (size + rest)
