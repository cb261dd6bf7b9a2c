use Rattle.same_meaning.specs.inside.Parts.{AreSameUpTo}
use Rattle.same_meaning.proofs.kept.differ_outside_fields.Given as goal

abbrev pub invariant-loop-set : goal.invariant-loop-set
invariant-loop-set l = AreSameUpTo l.before l.after l.sets l.from l.set-index
