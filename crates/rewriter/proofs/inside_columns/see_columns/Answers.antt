use Rattle.std.proofs.Common.{◌≡◌, ◌<◌, ℕ, List, length, get_or, ap, subst}
use Rattle.rewriter.proofs.ColumnUnits.{unit_held, at_number}
use Rattle.rewriter.proofs.ColumnsSeen.{unit_sees}
use Rattle.rewriter.proofs.inside_columns.see_columns.Goals as goal

pub see_unit-requires-clause-unit : goal.see_unit-requires-clause-unit
see_unit-requires-clause-unit c =
    let n : ℕ = c.loop-number.number-index in
    let number : ℕ = get_or c.deref-number-items.result.now n 0 in
    let listed : c.deref-number-items.result.now ≡ c.args.named.now.items = c.deref-number-items.ensures.value in
    let inside : n < length c.args.named.now.items = subst (λ (z : List ℕ). n < length z) listed c.loop-number-test.true in
    unit_held c.args.units.now.items c.args.table.now c.args.named.now.items c.requires.named.0 c.requires.named.1 n inside number (ap (λ (z : List ℕ). get_or z n 0) listed) c.index.result.now c.index.ensures

pub loop-number-preserved : goal.loop-number-preserved
loop-number-preserved c =
    let units = c.args.units.now.items in
    let table = c.args.table.now in
    let named = c.args.named.now.items in
    let n : ℕ = c.loop-number.number-index in
    let number : ℕ = get_or c.deref-number-items.result.now n 0 in
    let listed : c.deref-number-items.result.now ≡ named = c.deref-number-items.ensures.value in
    let inside : n < length named = subst (λ (z : List ℕ). n < length z) listed c.loop-number-test.true in
    let unit_is = at_number units table named c.requires.named.0 c.requires.named.1 n inside number (ap (λ (z : List ℕ). get_or z n 0) listed) c.index.result.now c.index.ensures in
    unit_sees units table named n inside c.index.result.now unit_is (length table.specs) c.loop-number.seen.items c.see_unit.new.seen.items c.loop-number.invariant c.in_ok-see_unit.ensures
