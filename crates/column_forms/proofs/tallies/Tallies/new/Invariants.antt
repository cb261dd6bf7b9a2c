use Rattle.std.proofs.Common.{◌≡◌, ℕ, length}
use Rattle.std.specs.Prelude.{None}
use Rattle.column_forms.specs.TableColumns.{tally_at}
use Rattle.column_forms.proofs.tallies.Tallies.new.Given as goal

abbrev pub invariant-loop : goal.invariant-loop
invariant-loop l = record {
  long : length l.columns.items ≡ l.counter;
  none : (k : ℕ) → tally_at l.columns.items k ≡ None;
}
