use Rattle.std.proofs.Common.{◌≡◌, ◌++◌}
use Rattle.rewriter.specs.inside.Taken.{taken_row}
use Rattle.rewriter.proofs.taken.push_row.Given as goal

abbrev pub invariant-loop-old : goal.invariant-loop-old
invariant-loop-old l =
    l.fn.values.items ++ taken_row l.at l.olds l.news l.row ≡ l.values.items ++ taken_row l.at l.old-iterator.a.a.rest.now l.old-iterator.a.b.rest.now l.old-iterator.b.rest.now
