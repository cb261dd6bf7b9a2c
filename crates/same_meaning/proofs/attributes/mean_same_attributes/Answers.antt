use Rattle.std.proofs.Common.{◌≡◌, ◌≤◌, ◌∙◌, length, ap, refl, arith}
use Rattle.entry_arena.specs.declared.entry.Entry.{Entry}
use Rattle.entry_arena.specs.Arena.{Arena, entry_at}
use Rattle.same_meaning.proofs.ReadUnits.{forest_is}
use Rattle.same_meaning.proofs.ComparedColumns.{count_held, column_named, other_names, other_column, earlier_more, all_columns}
use Rattle.same_meaning.proofs.attributes.mean_same_attributes.Goals as goal
use Rattle.same_meaning.proofs.attributes.mean_same_attributes.Goals.{After-entry-count}

-- the loop goes over all columns
all_counted : (c : After-entry-count) → c.entry-count.result.count ≡ length c.columns_of-columns.result.now
all_counted c =
    let forest = forest_is c.args.before.now c.args.unit c.units.result.now.items c.index.result.now c.forest.result.now c.requires.known c.units.ensures c.index.ensures c.forest.ensures in
    ap (λ (e : Entry). e.count) c.entry-count.ensures
    ∙ ap (λ (f : Arena). (entry_at f.entries c.args.id).count) forest
    ∙ count_held c.args.before.now c.requires.before c.args.unit c.args.id c.requires.known c.requires.first c.columns_of-columns.result.now c.columns_of-columns.ensures

pub returns-then-not-have_same_names-clause-same : goal.returns-then-not-have_same_names-clause-same
returns-then-not-have_same_names-clause-same c =
    other_names c.args.before.now c.args.after.now c.args.unit c.args.id c.requires.known c.requires.again c.requires.first c.requires.second c.columns_of-columns.result.now c.columns_of.result.now c.columns_of-columns.ensures c.columns_of.ensures c.have_same_names.result c.if-not-have_same_names.true c.have_same_names.ensures

pub bounds-columns-column : goal.bounds-columns-column
bounds-columns-column c = omega (arith, all_counted (goal.at.bounds-columns-column c).After-entry-count, c.loop-column-test.true)

pub mean_same_attribute-requires-clause-named : goal.mean_same_attribute-requires-clause-named
mean_same_attribute-requires-clause-named c =
    column_named c.args.before.now c.args.after.now c.args.unit c.args.id c.requires.known c.requires.again c.requires.first c.requires.second c.columns_of-columns.result.now c.columns_of.result.now c.columns_of-columns.ensures c.columns_of.ensures (c.have_same_names.ensures.0 c.if-not-have_same_names.false) c.loop-column.column _ (omega (arith, all_counted (goal.at.mean_same_attribute-requires-clause-named c).After-entry-count, c.loop-column-test.true)) refl

pub returns-then-not-branch-clause-same : goal.returns-then-not-branch-clause-same
returns-then-not-branch-clause-same c =
    other_column c.args.before.now c.args.after.now c.args.unit c.args.id c.requires.known c.requires.again c.requires.first c.requires.second c.columns_of-columns.result.now c.columns_of.result.now c.columns_of-columns.ensures c.columns_of.ensures c.loop-column.column (omega (arith, all_counted (goal.at.returns-then-not-branch-clause-same c).After-entry-count, c.loop-column-test.true)) c.in_ok-mean_same_attribute.field-0 c.if-not-branch.true c.in_ok-mean_same_attribute.ensures.same

pub loop-column-preserved : goal.loop-column-preserved
loop-column-preserved c =
    record {
      columns = earlier_more c.args.before.now c.args.after.now c.args.unit c.args.id c.requires.known c.requires.again c.requires.first c.requires.second c.columns_of-columns.result.now c.columns_of.result.now c.columns_of-columns.ensures c.columns_of.ensures c.loop-column.column c.loop-column.invariant.columns c.in_ok-mean_same_attribute.field-0 c.if-not-branch.false c.in_ok-mean_same_attribute.ensures.same;
      lists = c.mean_same_attribute.ensures.lists;
    }

pub returns-clause-same : goal.returns-clause-same
returns-clause-same c =
    let past : length c.columns_of-columns.result.now ≤ c.loop-column.column = omega (arith, all_counted (goal.at.returns-clause-same c).After-entry-count, c.loop-column-test.false) in
    all_columns c.args.before.now c.args.after.now c.args.unit c.args.id c.requires.known c.requires.again c.requires.first c.requires.second c.columns_of-columns.result.now c.columns_of.result.now c.columns_of-columns.ensures c.columns_of.ensures (c.have_same_names.ensures.0 c.if-not-have_same_names.false) c.loop-column.column past c.loop-column.invariant.columns
