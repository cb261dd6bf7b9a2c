use Rattle.std.proofs.Common.{◌≡◌, take, get_or}
use Rattle.list_arena.specs.Held.{HeldViews}
use Rattle.rewriter.proofs.lists.same_run.Given as goal

-- the pairs before
abbrev pub invariant-loop-index : goal.invariant-loop-index
invariant-loop-index l = (d : HeldViews) → l.pairs.items ≡ take l.index (get_or l.views l.number d).pairs
