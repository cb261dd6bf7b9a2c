use Rattle.std.proofs.Common.{◌≡◌, ◌+◌, take}
use Rattle.list_write.specs.inside.Places.{extent_sizes, extent_place, AreAppended}
use Rattle.list_write.proofs.places.place_runs.Given as goal

abbrev pub invariant-loop-run : goal.invariant-loop-run
invariant-loop-run l = record {
  placed : AreAppended (extent_place l.runs l.at) l.run-index l.fn.views.items l.views.items;
  sum : l.place ≡ l.at + extent_sizes (take l.run-index l.runs);
}
