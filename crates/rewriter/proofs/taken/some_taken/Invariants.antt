use Rattle.std.proofs.Common.{◌≡◌, ◌<◌, ℕ, false}
use Rattle.abbrev_tables.specs.Listings.{spec_at}
use Rattle.rewriter.specs.inside.Taken.{is_taken}
use Rattle.rewriter.proofs.taken.some_taken.Given as goal

abbrev pub invariant-loop-k : goal.invariant-loop-k
invariant-loop-k l = (k : ℕ) → k < l.k → is_taken (spec_at l.olds k) (spec_at l.news k) ≡ false
