use Rattle.std.proofs.Common.{◌≡◌, ◌<◌, ℕ, length}
use Rattle.abbrev_tables.specs.Listings.{spec_at}
use Rattle.column_forms.specs.TableColumns.{tally_at}
use Rattle.column_forms.specs.inside.TableColumns.{IsBestOfTally}
use Rattle.column_forms.proofs.tallies.Tallies.best.Given as goal

abbrev pub invariant-loop-k : goal.invariant-loop-k
invariant-loop-k l = record {
  long : length l.best.items ≡ l.k;
  each : (i : ℕ) → i < l.k → IsBestOfTally l.fn.classes (tally_at l.fn.self i) (spec_at l.fn.columns i) (spec_at l.best.items i);
}
