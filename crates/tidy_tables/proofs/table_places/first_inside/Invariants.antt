use Rattle.std.proofs.Common.{ℕ, ◌<◌}
use Rattle.value_links.specs.World.{table_at}
use Rattle.tidy_tables.specs.inside.Marked.{IsGreatestOf}
use Rattle.tidy_tables.specs.inside.WrittenTables.{IsInEarlier}
use Rattle.tidy_tables.proofs.table_places.first_inside.Given as goal

abbrev pub invariant-loop-named : goal.invariant-loop-named
invariant-loop-named l = record {
  fine : (k : ℕ) → k < l.named-index → IsInEarlier l.tables.items k → ⊥;
  greatest : IsGreatestOf (λ k. (table_at l.tables.items k).table.end) l.named-index l.end;
}
