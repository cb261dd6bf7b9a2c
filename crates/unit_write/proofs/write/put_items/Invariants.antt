use Rattle.std.proofs.Common.{◌+◌, ◌-◌, length}
use Rattle.unit_write.specs.Moved.{new_values}
use Rattle.unit_write.specs.inside.Puts.{PutsEntry}
use Rattle.unit_write.proofs.ItemLaws.{ItemsPut}
use Rattle.unit_write.proofs.write.put_items.Given as goal

abbrev pub invariant-loop-next : goal.invariant-loop-next
invariant-loop-next l = record {
  put : ItemsPut (PutsEntry l.decls l.specs l.numbers (new_values l.new) l.unit.forest) l.unit.forest l.items l.fn.out.items l.out.items;
}

abbrev pub decreases-loop-next : goal.decreases-loop-next
decreases-loop-next l = (length l.unit.forest.entries - l.items.entries) + (length l.unit.forest.ends - l.items.ends)
