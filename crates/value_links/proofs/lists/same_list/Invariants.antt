use Rattle.std.specs.Prelude.{◌≡◌, ◌≤◌, ◌<◌, ◌-◌, ℕ, length, take}
use Rattle.std.specs.List.{All}
use Rattle.value_links.specs.inside.Namings.{first_naming}
use Rattle.value_links.proofs.lists.same_list.Given as goal

abbrev pub invariant-loop-count : goal.invariant-loop-count
invariant-loop-count l = (0 < l.count) × (l.count ≤ length l.namings) × All (λ (y : ℕ × ℕ). y.0 ≡ (first_naming l.namings).0) (take l.count l.namings)

abbrev pub decreases-loop-count : goal.decreases-loop-count
decreases-loop-count l = length l.namings - l.count
