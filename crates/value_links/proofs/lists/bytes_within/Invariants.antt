use Rattle.std.specs.Prelude.{◌≡◌, ◌≤◌, take}
use Rattle.value_links.specs.ListFaults.{expression_bytes}
use Rattle.value_links.proofs.lists.bytes_within.Given as goal

abbrev pub invariant-loop-entry : goal.invariant-loop-entry
invariant-loop-entry l = record { is : l.bytes ≡ expression_bytes (take l.entry-index l.raw); few : l.bytes ≤ l.most }
