-- The least place at which something is amiss, and the first of several rows of things that may be.
use Rattle.std.specs.Prelude.{◌<◌, ℕ, Option, MatchOption}

-- this holds at a place, and at no earlier one
abbrev pub IsLeastPlace : (ℕ → Type 0) → ℕ → Type 0
IsLeastPlace Holds p = Holds p × ((q : ℕ) → q < p → Holds q → ⊥)

-- the least place, or none exactly where it holds at no place
abbrev pub IsLeastFound : (ℕ → Type 0) → Option ℕ → Type 0
IsLeastFound Holds found = MatchOption found ((p : ℕ) → Holds p → ⊥) (IsLeastPlace Holds)

-- Rows are looked at in their order, a later one only where no earlier one holds at any place. This is the least place in the first row
-- that holds anywhere.
pub record IsFirstIn {Row : Type 0} (order : Row → ℕ) (Holds : Row → ℕ → Type 0) (p : ℕ) : Type 0 where
  pub row : Row
  pub least : IsLeastPlace (Holds row) p
  pub first : (earlier : Row) (q : ℕ) → order earlier < order row → Holds earlier q → ⊥

-- that place, or none exactly where no row holds at any place
abbrev pub IsFirstFoundIn : {Row : Type 0} → (Row → ℕ) → (Row → ℕ → Type 0) → Option ℕ → Type 0
IsFirstFoundIn {Row} order Holds found = MatchOption found ((row : Row) (p : ℕ) → Holds row p → ⊥) (IsFirstIn order Holds)
