use Rattle.std.proofs.Common.{◌≡◌, ℕ, length, subst, arith}
use Rattle.tidy_places.specs.Firsts.{IsLeastFound}
use Rattle.tidy_numbers.specs.inside.LongEntries.{IsLongAmongValues}
use Rattle.tidy_numbers.proofs.EntryNumbers.{value_there, come_on, value_looked}
use Rattle.tidy_numbers.proofs.entry_values.first_in_values.Goals as goal

pub is_long_value-requires : goal.is_long_value-requires
is_long_value-requires c =
    value_there c.args.info.now c.args.columns.now c.args.from c.requires c.loop-column.column-index c.loop-column.at c.loop-column-test.true c.loop-column.invariant.come

pub value_end-at-requires : goal.value_end-at-requires
value_end-at-requires c =
    value_there c.args.info.now c.args.columns.now c.args.from c.requires c.loop-column.column-index c.loop-column.at c.loop-column-test.true c.loop-column.invariant.come

pub loop-column-preserved : goal.loop-column-preserved
loop-column-preserved c = record {
  come = come_on c.args.info.now c.args.columns.now c.args.from c.requires c.loop-column.column-index c.loop-column.at c.loop-column-test.true c.loop-column.invariant.come c.value_end-at.result c.value_end-at.ensures;
  least = value_looked c.args.info.now c.args.columns.now c.args.from c.requires c.loop-column.column-index c.loop-column.at c.loop-column-test.true c.loop-column.invariant.come c.is_long_value.result c.then_some-here.result c.loop-column.first c.earlier-first.result c.is_long_value.ensures c.then_some-here.ensures c.loop-column.invariant.least c.earlier-first.ensures;
}

pub returns : goal.returns
returns c =
    let whole : c.loop-column.column-index ≡ length c.args.columns.now = omega arith in
    subst (λ (n : ℕ). IsLeastFound (IsLongAmongValues c.args.info.now c.args.columns.now c.args.from n) c.loop-column.first) whole c.loop-column.invariant.least
