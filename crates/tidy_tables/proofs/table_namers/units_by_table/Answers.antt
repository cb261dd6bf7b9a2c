use Rattle.std.proofs.Common.{◌≡◌, ◌<◌, ◌∙◌, ◌++◌, ◌∷◌, [], ℕ, length, get_or, sym, subst, rules}
use Rattle.std.proofs.lemmas.List.{get_or_default}
use Rattle.tidy_tables.proofs.TableNamers.{namers_more}
use Rattle.tidy_tables.proofs.table_namers.units_by_table.Goals as goal

pub loop-u-preserved : goal.loop-u-preserved
loop-u-preserved c =
    let u : ℕ = c.loop-u.u in
    let table_of = c.args.table_of.now.items in
    let within : u < length table_of = search rules in
    let number : get_or table_of u 0 ≡ c.index.result.now = get_or_default table_of u 0 c.index.result.now within ∙ sym c.index.ensures in
    let inside : c.index.result.now < c.args.tables = subst (λ (z : ℕ). z < c.args.tables) number (c.requires.inside u 0 within) in
    let old = c.index_mut-namers.result.now in
    let pushed : c.push.new.self.items ≡ old.units.items ++ u ∷ [] = c.in_ok-push.ensures.items in
    namers_more table_of c.args.tables u c.loop-u.all.items c.loop-u.invariant c.index.result.now number inside old c.index_mut-namers.ensures.value (record { units = c.push.new.self }) pushed
