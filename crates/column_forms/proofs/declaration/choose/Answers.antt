use Rattle.std.proofs.Common.{◌≡◌, ◌<◌, ◌+◌, List, length, subst, sym, arith}
use Rattle.abbrev_tables.specs.declared.decl.Spec.{Spec}
use Rattle.column_forms.specs.Rows.{AreChosen}
use Rattle.column_forms.proofs.RowLaws.{chosen_next}
use Rattle.column_forms.proofs.declaration.choose.Goals as goal

pub loop-column-preserved : goal.loop-column-preserved
loop-column-preserved c =
    let columns = c.args.specs.now.items in
    let values = c.args.values.now.items in
    let wide : c.len-width.result ≡ length columns = omega (arith, c.len-width.ensures) in
    let inside : c.loop-column.column < length columns = omega (arith, c.loop-column-test.true) in
    let more = chosen_next columns c.args.uses c.loop-column.column c.len-width.result values c.deref.result.now c.loop-column.chosen.items c.index.result.now c.index-in-loop-column.result.now c.best.result c.in_ok-tally.tally c.every.result c.deref.ensures.value wide inside c.index.ensures c.index-in-loop-column.ensures c.every.ensures c.in_ok-tally.ensures.name c.loop-column.invariant c.in_ok-tally.ensures.tally c.best.ensures in
    subst (λ (z : List Spec). AreChosen columns c.args.uses (c.loop-column.column + 1) values z) (sym c.in_ok-push.ensures.items) more
