use Rattle.std.proofs.Common.{◌≡◌, map, take}
use Rattle.abbrev_tables.specs.declared.decl.Spec.{Spec}
use Rattle.abbrev_tables.specs.Listings.{decl_at, declared_in}
use Rattle.tidy_tables.proofs.outlines.read_outline.Given as goal

abbrev pub invariant-loop-column : goal.invariant-loop-column
invariant-loop-column l = l.names.items ≡ map (λ (column : Spec). column.name) (take l.column-index (declared_in l.table.specs (decl_at l.table.decls l.number)).columns)
