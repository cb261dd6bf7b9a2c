use Rattle.std.proofs.Common.{◌≡◌, ◌≤◌, ◌+◌, ◌*◌, List, take}
use Rattle.std.specs.List.{All}
use Rattle.list_model.specs.Entries.{Entry, AreSaid}
use Rattle.list_least.specs.Plans.{entries_bytes, ArePicks}
use Rattle.list_least.specs.Shortest.{FitOperands}
use Rattle.list_write.proofs.kept.kept_plan.Given as goal

abbrev pub invariant-loop-raw : goal.invariant-loop-raw
invariant-loop-raw l = record {
  picked : (entries : List Entry) → AreSaid l.kind l.raws.items entries → All (λ (entry : Entry). FitOperands entry.kind entry.a entry.b) entries → ArePicks l.kind l.picks.items (take l.raw-index entries);
  bytes : (entries : List Entry) → AreSaid l.kind l.raws.items entries → l.size ≡ entries_bytes (take l.raw-index entries) + 1;
  few : l.size ≤ 21 * l.raw-index + 1;
}
