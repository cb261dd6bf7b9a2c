-- The declarations of an old table, each with the one that entries have in its place in the written file.
use Rattle.std.specs.Prelude.{◌≡◌, ◌≢◌, ◌<◌, ◌⊎◌, ◌↔◌, ℕ, Bool, true, false, List, length, slice_index_or, Option, Some, None, MatchOption}
use Rattle.entry_arena.specs.declared.entry.Entry.{Entry}
use Rattle.entry_arena.specs.Arena.{entry_at}
use Rattle.tidy_tables.specs.declared.pairings.Pairings.{Pairings}

-- what the number of a declaration is paired with, if anything
abbrev pub partner_of : List (Option ℕ) → ℕ → Option ℕ
partner_of partners number = slice_index_or partners number None

-- an old declaration and a written one are a pair
abbrev pub IsPair : Pairings → ℕ → ℕ → Type 0
IsPair pairings old written = partner_of pairings.written_of.items old ≡ Some written

-- what is held from either side is the same
abbrev pub AreOneToOne : Pairings → Type 0
AreOneToOne pairings = (old written : ℕ) → IsPair pairings old written ↔ (partner_of pairings.old_of.items written ≡ Some old)

-- of two pairs, one declaration is the same and the other isn't
abbrev pub AreApart : ℕ → ℕ → ℕ → ℕ → Type 0
AreApart old written other_old other_written = ((old ≡ other_old) × (written ≢ other_written)) ⊎ ((old ≢ other_old) × (written ≡ other_written))

-- A pair is added where no other is apart from it, and else one is.
abbrev pub IsAdded : Pairings → Pairings → ℕ → ℕ → Bool → Type 0
IsAdded before after old written true = AreOneToOne after × ((k w : ℕ) → IsPair after k w ↔ (IsPair before k w ⊎ ((k ≡ old) × (w ≡ written))))
IsAdded before after old written false = (k : ℕ) × (w : ℕ) × IsPair before k w × AreApart k w old written

-- a pair of one of the first so many entries of a unit
abbrev pub IsPairOfEntries : List Entry → List Entry → ℕ → ℕ → ℕ → Type 0
IsPairOfEntries old written count k w = (id : ℕ) × (id < count) × ((entry_at old id).decl ≡ k) × ((entry_at written id).decl ≡ w)

-- one of these, or one from before
abbrev pub IsPairUpTo : Pairings → List Entry → List Entry → ℕ → ℕ → ℕ → Type 0
IsPairUpTo before old written count k w = IsPair before k w ⊎ IsPairOfEntries old written count k w

-- The pairs of the first so many entries of a unit are added.
pub record AreAdded (before after : Pairings) (old written : List Entry) (count : ℕ) : Type 0 where
  pub one : AreOneToOne after
  pub pairs : (k w : ℕ) → IsPair after k w ↔ IsPairUpTo before old written count k w

-- At a place stands the first entry of a unit whose pair is apart from an earlier one.
pub record IsFirstApart (before : Pairings) (old written : List Entry) (place : ℕ) : Type 0 where
  pub id : ℕ
  pub inside : id < length written
  pub here : place ≡ (entry_at written id).at
  pub alike : (k w l x : ℕ) → IsPairUpTo before old written id k w → IsPairUpTo before old written id l x → AreApart k w l x → ⊥
  pub k : ℕ
  pub w : ℕ
  pub earlier : IsPairUpTo before old written id k w
  pub apart : AreApart k w ((entry_at old id).decl) ((entry_at written id).decl)

-- All pairs of a unit are added, or the first entry is found whose pair is apart.
abbrev pub IsUnitAdded : Pairings → Pairings → List Entry → List Entry → Option ℕ → Type 0
IsUnitAdded before after old written found = MatchOption found (AreAdded before after old written (length written)) (IsFirstApart before old written)
