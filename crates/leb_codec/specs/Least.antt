-- The least of a class: its members, and a size for each.
use Rattle.std.specs.Prelude.{◌≤◌, ℕ}

-- a member, and no member is smaller
pub record IsLeast {T : Type 0} (Member : T → Type 0) (size : T → ℕ) (best : T) : Type 0 where
  pub member : Member best
  pub least : (other : T) → Member other → size best ≤ size other
