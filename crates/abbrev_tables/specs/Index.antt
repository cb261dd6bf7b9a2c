-- How declarations are found by their codes.
use Rattle.std.specs.Prelude.{◌≡◌, ◌≢◌, ◌<◌, ◌+◌, ◌^◌, ℕ, List, length, Some}
use Rattle.std.specs.Ordering.{nat_cmp}
use Rattle.std.specs.BTreeMap.{BTreeMap, get}
use Rattle.abbrev_tables.specs.declared.decl.Decl.{Decl}
use Rattle.abbrev_tables.specs.declared.decl.Spec.{Spec}
use Rattle.abbrev_tables.specs.Listings.{decl_at, AreAdjacent}

-- The numbers of the declarations by their codes. A code that is 1 more than the number stands in no map.
pub record IsIndex (decls : List Decl) (others : BTreeMap ℕ ℕ) : Type 0 where
  pub sound : (code i : ℕ) → get nat_cmp others code ≡ Some i → (i < length decls) × ((decl_at decls i).code ≡ code)
  pub full : (i : ℕ) → i < length decls → (decl_at decls i).code ≢ i + 1 → get nat_cmp others ((decl_at decls i).code) ≡ Some i

-- a declaration has this code
abbrev pub HasCode : List Decl → ℕ → Type 0
HasCode decls code = (i : ℕ) × (i < length decls) × ((decl_at decls i).code ≡ code)

-- what is held, with numbers that fit 32 bits
pub record IsHeld (decls : List Decl) (columns : List Spec) (others : BTreeMap ℕ ℕ) : Type 0 where
  pub adjacent : AreAdjacent 0 decls (length columns)
  pub index : IsIndex decls others
  pub few : length decls < 2 ^ 32
  pub narrow : length columns < 2 ^ 32
