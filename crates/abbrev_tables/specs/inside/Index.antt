-- How declarations are found by their codes.
-- Inner functions and proofs alone need what stands here.
use Rattle.std.specs.Prelude.{◌≡◌, ◌≤◌, ◌<◌, ◌+◌, ◌^◌, ℕ, List, [], ◌∷◌, ◌++◌, length, take, drop, Bool, true, false}
use Rattle.std.specs.BTreeMap.{BTreeMap}
use Rattle.abbrev_tables.specs.declared.decl.Decl.{Decl}
use Rattle.abbrev_tables.specs.declared.decl.Spec.{Spec}
use Rattle.abbrev_tables.specs.Tables.{IsTableEnd}
use Rattle.abbrev_tables.specs.Listings.{Listing, decl_at, ArePlaced, AreAdjacent}
use Rattle.abbrev_tables.specs.Index.{IsIndex, HasCode}

-- a declaration was added, or an earlier one has its code
abbrev pub IsAdded : List Decl → Decl → List Decl → BTreeMap ℕ ℕ → Bool → Type 0
IsAdded old decl new others true = (new ≡ old ++ decl ∷ []) × IsIndex new others × (length new < 2 ^ 32) × (HasCode old decl.code → ⊥)
IsAdded old decl new others false = (new ≡ old) × HasCode old decl.code

-- no two declarations have the same code
abbrev pub HaveOwnCodes : List Decl → Type 0
HaveOwnCodes decls = (i j : ℕ) → i < length decls → j < length decls → (decl_at decls i).code ≡ (decl_at decls j).code → i ≡ j

-- declarations that the front of the bytes spells, where the first byte stands at `start`
pub record IsFront (rest : List ℕ) (start at : ℕ) (decls : List Decl) (columns : List Spec) : Type 0 where
  pub inside : at ≤ length rest
  pub placed : ArePlaced columns start decls (take at rest)
  pub adjacent : AreAdjacent 0 decls (length columns)
  pub own : HaveOwnCodes decls

-- the table that the front of the bytes spells
pub record IsReadFrom (rest : List ℕ) (start : ℕ) (t : Listing) : Type 0 where
  pub at : ℕ
  pub end : ℕ
  pub front : IsFront rest start at t.decls t.specs
  pub inside : at + end ≤ length rest
  pub ended : IsTableEnd (take end (drop at rest))
  pub place : t.end ≡ start + (at + end)
