use Rattle.std.proofs.Common.{◌<◌, ◌∙◌, length, sym, ap, subst}
use Rattle.entry_arena.specs.Arena.{Arena, value_at}
use Rattle.same_meaning.proofs.ReadUnits.{some_reading, forest_is}
use Rattle.same_meaning.proofs.StandingValues.{value_there}
use Rattle.same_meaning.proofs.LinkComparisons.{if_ok}
use Rattle.same_meaning.proofs.ReferredMeanings.{held_mean, expr_mean, not_expr}
use Rattle.same_meaning.proofs.values.mean_same_value.Goals as goal

pub value-old-requires : goal.value-old-requires
value-old-requires c =
    let (r, read, holds) = some_reading c.args.before.now c.requires.before in
    let (s, also, held) = some_reading c.args.after.now c.requires.after in
    let forest = forest_is c.args.before.now c.args.at.unit c.units.result.now.items c.index.result.now c.forest.result.now c.requires.known c.units.ensures c.index.ensures c.forest.ensures in
    subst (λ (f : Arena). c.args.first < length f.values) (sym forest) (value_there c.args.before.now r c.args.at.unit c.args.at.id c.args.at.name c.args.first read holds (c.requires.stands r s read holds also held).0)

pub value-new-requires : goal.value-new-requires
value-new-requires c =
    let (r, read, holds) = some_reading c.args.before.now c.requires.before in
    let (s, also, held) = some_reading c.args.after.now c.requires.after in
    let forest = forest_is c.args.after.now c.args.at.unit c.units-2.result.now.items c.index-2.result.now c.forest-2.result.now c.requires.again c.units-2.ensures c.index-2.ensures c.forest-2.ensures in
    subst (λ (f : Arena). c.args.second < length f.values) (sym forest) (value_there c.args.after.now s c.args.at.unit c.args.at.id c.args.at.name c.args.second also held (c.requires.stands r s read holds also held).1)

pub refer_to_same-requires : goal.refer_to_same-requires
refer_to_same-requires c =
    let (r, read, holds) = some_reading c.args.before.now c.requires.before in
    let (s, also, held) = some_reading c.args.after.now c.requires.after in
    let forest = forest_is c.args.before.now c.args.at.unit c.units.result.now.items c.index.result.now c.forest.result.now c.requires.known c.units.ensures c.index.ensures c.forest.ensures in
    let other = forest_is c.args.after.now c.args.at.unit c.units-2.result.now.items c.index-2.result.now c.forest-2.result.now c.requires.again c.units-2.ensures c.index-2.ensures c.forest-2.ensures in
    record {
      before = c.requires.before;
      after = c.requires.after;
      known = c.requires.known;
      again = c.requires.again;
      first = record { number = c.args.first; is = c.value-old.ensures ∙ ap (λ (f : Arena). value_at f.values c.args.first) forest; stands = λ x first second. (c.requires.stands x s first second also held).0 };
      second = record { number = c.args.second; is = c.value-new.ensures ∙ ap (λ (f : Arena). value_at f.values c.args.second) other; stands = λ x first second. (c.requires.stands r x read holds first second).1 };
      lists = c.requires.lists;
      plain = not_expr c.value-old.result c.in_default.not-Expr;
      other = not_expr c.value-new.result c.in_default-new-2.not-Expr;
    }

pub returns-in-Expr-new-clause-same : goal.returns-in-Expr-new-clause-same
returns-in-Expr-new-clause-same c =
    let forest = forest_is c.args.before.now c.args.at.unit c.units.result.now.items c.index.result.now c.forest.result.now c.requires.known c.units.ensures c.index.ensures c.forest.ensures in
    let other = forest_is c.args.after.now c.args.at.unit c.units-2.result.now.items c.index-2.result.now c.forest-2.result.now c.requires.again c.units-2.ensures c.index-2.ensures c.forest-2.ensures in
    expr_mean c.args.before.now c.args.after.now c.args.at.unit c.args.at.id c.args.at.name c.args.first c.args.second c.value-old.result c.value-new.result c.in-Expr.a c.in-Expr-new.b c.mean_same_expression.result (c.value-old.ensures ∙ ap (λ (f : Arena). value_at f.values c.args.first) forest) (c.value-new.ensures ∙ ap (λ (f : Arena). value_at f.values c.args.second) other) c.in-Expr.is c.in-Expr-new.is c.mean_same_expression.ensures

pub returns-in_default-new-2-clause-same : goal.returns-in_default-new-2-clause-same
returns-in_default-new-2-clause-same c =
    let forest = forest_is c.args.before.now c.args.at.unit c.units.result.now.items c.index.result.now c.forest.result.now c.requires.known c.units.ensures c.index.ensures c.forest.ensures in
    let other = forest_is c.args.after.now c.args.at.unit c.units-2.result.now.items c.index-2.result.now c.forest-2.result.now c.requires.again c.units-2.ensures c.index-2.ensures c.forest-2.ensures in
    if_ok _ _ c.refer_to_same.result (λ same all. held_mean c.args.before.now c.args.after.now c.args.at.unit c.args.at.id c.args.at.name c.args.first c.args.second c.value-old.result c.value-new.result same (c.value-old.ensures ∙ ap (λ (f : Arena). value_at f.values c.args.first) forest) (c.value-new.ensures ∙ ap (λ (f : Arena). value_at f.values c.args.second) other) all) c.refer_to_same.ensures.same
