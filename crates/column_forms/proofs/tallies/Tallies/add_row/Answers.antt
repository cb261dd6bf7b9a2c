use Rattle.std.proofs.Common.{◌≡◌, ◌<◌, ◌+◌, length, subst, refl, arith}
use Rattle.std.proofs.lemmas.List.{get_or_read_under}
use Rattle.form_codec.specs.declared.value.Value.{Value}
use Rattle.form_codec.specs.declared.value.Value.TheVariants as value
use Rattle.abbrev_tables.specs.Listings.{spec_at}
use Rattle.column_forms.specs.Rows.{value_at}
use Rattle.column_forms.specs.inside.TableColumns.{IsNextTally}
use Rattle.column_forms.proofs.TableLaws.{counted_more, row_added, few_more}
use Rattle.column_forms.proofs.tallies.Tallies.add_row.Goals as goal

pub loop-j-preserved : goal.loop-j-preserved
loop-j-preserved c =
    let inside : c.args.first + c.loop-j.j < length c.args.self.now = omega (arith, c.loop-j-test.true, c.requires.inside) in
    let read : c.index-row-j.result ≡ value_at c.args.row.now c.loop-j.j = get_or_read_under c.args.row.now c.loop-j.j (length c.args.row.now) _ (value.Addr 0) c.index-row-j.is c.loop-j-test.true refl in
    let name = (spec_at c.args.columns.now c.loop-j.j).name in
    counted_more c.args.first c.loop-j.j c.args.columns.now c.args.row.now c.args.self.now c.loop-j.self-inside.columns.items c.index_mut.result.now c.count_in.new.slot inside c.index_mut.ensures.value c.loop-j.invariant (subst (λ (x : Value). IsNextTally name x c.index_mut.result.now c.count_in.new.slot) read c.in_ok-count_in.ensures.next) c.in_ok-count_in.ensures.more

pub returns-clause-few : goal.returns-clause-few
returns-clause-few c = λ n few. few_more c.args.first c.args.columns.now c.args.row.now c.loop-j.j c.args.self.now c.loop-j.self-inside.columns.items n c.loop-j.invariant few

pub returns-clause-added : goal.returns-clause-added
returns-clause-added c = λ section names before after here named adds held.
    row_added section names c.args.first c.args.columns.now c.args.row.now c.loop-j.j before after c.args.self.now c.loop-j.self-inside.columns.items (omega (arith, c.loop-j-test.false)) (omega (arith, c.loop-j.auto.j-end)) c.requires.width c.requires.inside c.loop-j.invariant here named adds held
