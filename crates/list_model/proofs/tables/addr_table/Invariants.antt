use Rattle.std.proofs.Common.{◌≤◌, ◌-◌, length}
use Rattle.list_model.specs.declared.tables.AddrTable.{AddrTable}
use Rattle.list_model.specs.Addresses.{IsReached, HasBase}
use Rattle.list_model.proofs.tables.addr_table.Given as goal

abbrev pub invariant-loop-at : goal.invariant-loop-at
invariant-loop-at l = record {
  inside : l.at ≤ length l.addr;
  reached : IsReached l.addr l.at;
  beyond : (table : AddrTable) → HasBase l.addr l.base table → l.at ≤ table.at;
}

abbrev pub decreases-loop-at : goal.decreases-loop-at
decreases-loop-at l = length l.addr - l.at
