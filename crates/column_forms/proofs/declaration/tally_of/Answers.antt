use Rattle.std.proofs.Common.{◌≡◌, ◌<◌, ◌+◌, ◌*◌, ◌∷◌, ◌++◌, [], ℕ, List, length, ◌∙◌, ap, subst, sym, refl, arith}
use Rattle.std.proofs.lemmas.List.{get_or_read_under}
use Rattle.form_codec.specs.declared.value.Value.{Value}
use Rattle.form_codec.specs.declared.value.Value.TheVariants as value
use Rattle.column_forms.specs.Tallies.{IsHere, IsTally}
use Rattle.column_forms.specs.Rows.{value_at, column_of}
use Rattle.column_forms.proofs.RowLaws.{row_inside, one_more}
use Rattle.column_forms.proofs.declaration.tally_of.Goals as goal

pub loop-row-init : goal.loop-row-init
loop-row-init c =
    let e = c.in_ok-tally.ensures in
    let first : c.args.column ≡ 0 * c.args.width + c.args.column = omega arith in
    let in_rows : 0 * c.args.width + c.args.column < c.args.rows * c.args.width = row_inside 0 c.args.rows c.args.width c.args.column c.requires.some c.requires.inside in
    let inside : c.args.column < length c.args.values.now = omega (arith, c.requires.all) in
    let v : c.index-values-column.result ≡ value_at c.args.values.now c.args.column = get_or_read_under c.args.values.now c.args.column (length c.args.values.now) _ (value.Addr 0) c.index-values-column.is inside refl in
    record { named = e.name; count = e.count; tally = λ section here. subst (λ (z : ℕ). IsTally section (value_at c.args.values.now z ∷ []) c.in_ok-tally.tally) first (subst (λ (x : Value). IsTally section (x ∷ []) c.in_ok-tally.tally) v (e.tally section (subst (λ (x : Value). IsHere section x) (sym v) (here c.args.column inside)))) }

pub loop-row-preserved : goal.loop-row-preserved
loop-row-preserved c =
    let e = c.add.ensures in
    let inv = c.loop-row.invariant in
    let at : ℕ = c.loop-row.row * c.args.width + c.args.column in
    let in_rows : at < c.args.rows * c.args.width = row_inside c.loop-row.row c.args.rows c.args.width c.args.column c.loop-row-test.true c.requires.inside in
    let inside : at < length c.args.values.now = omega (arith, c.requires.all) in
    let before : List Value = column_of c.args.values.now c.args.width c.args.column c.loop-row.row in
    let v : c.index-values-row.result ≡ value_at c.args.values.now at = get_or_read_under c.args.values.now at (length c.args.values.now) _ (value.Addr 0) c.index-values-row.is inside refl in
    record { named = e.name ∙ inv.named; count = e.count ∙ ap (λ z. z + 1) inv.count; tally = λ section here. subst (λ (z : ℕ). IsTally section (column_of c.args.values.now c.args.width c.args.column z) c.add.new.self) (one_more c.loop-row.row) (subst (λ (x : Value). IsTally section (before ++ x ∷ []) c.add.new.self) v (e.tally section before (subst (λ (x : Value). IsHere section x) (sym v) (here at inside)) (inv.tally section here))) }
