use Rattle.std.proofs.Common.{◌+◌, [], List, sym, subst}
use Rattle.rewriter.specs.declared.columns.Namers.{Namers}
use Rattle.rewriter.specs.inside.Columns.{AreNamers}
use Rattle.rewriter.proofs.ColumnNamers.{none_more}
use Rattle.rewriter.proofs.columns.no_namers.Goals as goal

pub loop-preserved : goal.loop-preserved
loop-preserved c =
    subst (λ (zs : List Namers). AreNamers [] (c.loop.counter + 1) 0 zs) (sym c.in_ok-push.ensures.items)
    (none_more c.loop.counter c.loop.all.items (record { units = c.new.result }) c.new.ensures.items c.loop.invariant)
