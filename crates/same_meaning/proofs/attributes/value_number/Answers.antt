use Rattle.std.proofs.Common.{◌≡◌, ◌≤◌, ◌+◌, ◌∙◌, length, ap, arith}
use Rattle.entry_arena.specs.declared.entry.Entry.{Entry}
use Rattle.entry_arena.specs.Arena.{Arena, entry_at}
use Rattle.value_links.specs.Links.{held_at}
use Rattle.same_meaning.specs.inside.Values.{entry_held}
use Rattle.same_meaning.proofs.ReadUnits.{forest_is, values_within}
use Rattle.same_meaning.proofs.attributes.value_number.Goals as goal

pub overflow_add-result : goal.overflow_add-result
overflow_add-result c =
    let forest = forest_is c.args.world.now c.args.unit c.units.result.now.items c.index.result.now c.forest-forest.result.now c.requires.known c.units.ensures c.index.ensures c.forest-forest.ensures in
    let within : (entry_held c.args.world.now c.args.unit c.args.id).first + (entry_held c.args.world.now c.args.unit c.args.id).count ≤ length (held_at c.args.world.now.units c.args.unit).forest.values = values_within c.args.world.now c.requires.world c.args.unit c.args.id c.requires.known c.requires.entry in
    let entry : c.entry.result.first ≡ (entry_held c.args.world.now c.args.unit c.args.id).first = ap (λ (e : Entry). e.first) c.entry.ensures ∙ ap (λ (f : Arena). (entry_at f.entries c.args.id).first) forest in
    let size : c.value_count-count.result ≡ length (held_at c.args.world.now.units c.args.unit).forest.values = c.value_count-count.ensures ∙ ap (λ (f : Arena). length f.values) forest in
    let below = c.requires.column in
    omega (arith, c.value_count-count.type_inv)
