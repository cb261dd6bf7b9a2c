use Rattle.std.proofs.Common.{◌+◌, [], List, sym, subst}
use Rattle.tidy_tables.specs.declared.table_namers.Namers.{Namers}
use Rattle.tidy_tables.specs.inside.TableNamers.{AreNamers}
use Rattle.tidy_tables.proofs.TableNamers.{none_more}
use Rattle.tidy_tables.proofs.table_namers.no_namers.Goals as goal

pub loop-preserved : goal.loop-preserved
loop-preserved c =
    subst (λ (zs : List Namers). AreNamers [] (c.loop.counter + 1) 0 zs) (sym c.in_ok-push.ensures.items)
    (none_more c.loop.counter c.loop.all.items (record { units = c.new.result }) c.new.ensures.items c.loop.invariant)
