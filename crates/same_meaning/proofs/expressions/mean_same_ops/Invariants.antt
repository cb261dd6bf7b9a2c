use Rattle.std.proofs.Common.{ℕ, ◌<◌}
use Rattle.expr_ops.specs.Drafts.{op_at}
use Rattle.value_links.specs.Lists.{owner_unit}
use Rattle.same_meaning.specs.inside.Compared.{OfBoth}
use Rattle.same_meaning.specs.inside.Expressions.{MeanSameOperation}
use Rattle.same_meaning.proofs.expressions.mean_same_ops.Given as goal

-- so far each two operations mean the same
abbrev pub invariant-loop-i : goal.invariant-loop-i
invariant-loop-i l =
    OfBoth l.before l.after (λ r s. (k : ℕ) → k < l.i → MeanSameOperation r.links (owner_unit r.links l.old.owner) l.old.bytes.now (op_at l.old.ops.now k) s.links (owner_unit s.links l.new.owner) l.new.bytes.now (op_at l.new.ops.now k))
