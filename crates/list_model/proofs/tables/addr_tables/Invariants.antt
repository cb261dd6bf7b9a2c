use Rattle.std.proofs.Common.{◌≤◌, ◌-◌, length}
use Rattle.list_model.specs.Addresses.{TablesFollow}
use Rattle.list_model.proofs.tables.addr_tables.Given as goal

abbrev pub invariant-loop-at : goal.invariant-loop-at
invariant-loop-at l = record {
  inside : l.at ≤ length l.addr;
  follow : TablesFollow l.addr l.tables.items 0 l.at;
}

abbrev pub decreases-loop-at : goal.decreases-loop-at
decreases-loop-at l = length l.addr - l.at
