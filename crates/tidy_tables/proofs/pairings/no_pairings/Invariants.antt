use Rattle.std.proofs.Common.{◌≡◌, [], length}
use Rattle.std.specs.List.{All}
use Rattle.tidy_tables.specs.declared.pairings.Pairings.{Pairings}
use Rattle.tidy_tables.proofs.pairings.no_pairings.Given as goal

abbrev pub invariant-loop : goal.invariant-loop
invariant-loop l = record {
  count : length l.all.items ≡ l.counter;
  none : All (λ (pairings : Pairings). (pairings.written_of.items ≡ []) × (pairings.old_of.items ≡ [])) l.all.items;
}
