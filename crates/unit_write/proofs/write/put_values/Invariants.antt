use Rattle.unit_write.specs.Moved.{new_values}
use Rattle.unit_write.proofs.PutLaws.{ArePut}
use Rattle.unit_write.proofs.write.put_values.Given as goal

abbrev pub invariant-loop-place : goal.invariant-loop-place
invariant-loop-place l = record {
  put : ArePut l.section (new_values l.new) l.first l.columns l.values l.place l.fn.out.items l.out.items;
}
