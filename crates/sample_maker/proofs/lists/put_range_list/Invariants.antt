use Rattle.std.proofs.Common.{◌≡◌, ◌++◌, ◌+◌, ◌*◌, drop}
use Rattle.sample_maker.specs.inside.Bytes.{range_entries}
use Rattle.sample_maker.proofs.lists.put_range_list.Given as goal

abbrev pub invariant-loop-size : goal.invariant-loop-size
invariant-loop-size l = record {
  start : l.start ≡ l.fn.address + 4 * l.size-index;
  left : l.out.items ++ range_entries l.start (drop l.size-index l.sizes.items) ≡ l.fn.out.items ++ range_entries l.fn.address l.sizes.items;
}
