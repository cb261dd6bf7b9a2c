use Rattle.std.specs.Prelude.{IsNone}
use Rattle.tidy_places.specs.Firsts.{IsLeastFound}
use Rattle.tidy_tables.specs.inside.UntidyDeclarations.{AreShortAmong, IsUntidyAmong}
use Rattle.tidy_tables.proofs.declarations.first_declaration.Given as goal

abbrev pub invariant-loop-i : goal.invariant-loop-i
invariant-loop-i l = record {
  least : IsLeastFound (IsUntidyAmong l.classes l.after.units l.after.tables l.i) l.first;
  short : IsNone l.first → AreShortAmong l.classes l.after.units l.after.tables l.i;
}
