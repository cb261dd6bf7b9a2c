use Rattle.std.proofs.Common.{◌≡◌, ◌<◌, ℕ}
use Rattle.abbrev_tables.specs.Listings.{spec_at}
use Rattle.same_meaning.proofs.attributes.have_same_names.Given as goal

abbrev pub invariant-loop-i : goal.invariant-loop-i
invariant-loop-i l = (k : ℕ) → k < l.i → (spec_at l.after k).name ≡ (spec_at l.before k).name
