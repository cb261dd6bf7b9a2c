use Rattle.std.proofs.Common.{◌≡◌, ◌++◌}
use Rattle.unit_write.specs.NewExpressions.{lens_from, lens_of, new_lens}
use Rattle.unit_tests.proofs.unit_write_write_tests.lens_for.Given as goal

abbrev pub invariant-loop-value : goal.invariant-loop-value
invariant-loop-value l = new_lens l.unit.forest.section l.unit.forest.values l.held.items (lens_of l.ends.items) ≡ l.lens.items ++ new_lens l.unit.forest.section l.value-iterator.a.a.rest.now l.value-iterator.a.b.rest.now (lens_from l.begin l.value-iterator.b.rest.now)
