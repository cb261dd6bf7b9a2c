use Rattle.std.proofs.Common.{◌≡◌, take}
use Rattle.std.specs.List.{All}
use Rattle.value_links.specs.inside.Tabled.{IsNamed, places_of}
use Rattle.value_links.proofs.tables.read_tables.Given as goal

abbrev pub invariant-loop-place : goal.invariant-loop-place
invariant-loop-place l = record {
  places : places_of l.tables.items ≡ take l.place-index l.places;
  each : All (IsNamed l.abbrevs) l.tables.items;
}
