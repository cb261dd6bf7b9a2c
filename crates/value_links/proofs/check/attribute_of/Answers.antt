use Rattle.std.proofs.Common.{◌≡◌, ◌≤◌, ◌<◌, ◌+◌, ◌∙◌, ℕ, length, sym, ap, subst, arith}
use Rattle.form_codec.specs.Values.{LiesIn}
use Rattle.entry_arena.specs.declared.entry.Entry.{Entry}
use Rattle.entry_arena.specs.Arena.{Arena, value_at}
use Rattle.value_links.proofs.TabledUnits.{entry_is, entry_declared, entry_counted, entry_inside, value_lies}
use Rattle.value_links.proofs.check.attribute_of.Goals as goal

pub column_name-name-requires-clause-number : goal.column_name-name-requires-clause-number
column_name-name-requires-clause-number c = entry_declared c.args.unit.now c.args.table.now c.requires.unit c.forest-forest.result.now c.forest-forest.ensures c.args.id c.requires.id c.entry-entry.result c.entry-entry.ensures

pub column_name-name-requires-clause-column : goal.column_name-name-requires-clause-column
column_name-name-requires-clause-column c =
    let unit = c.args.unit.now in
    let table = c.args.table.now in
    let entry = c.entry-entry.result in
    let same = entry_is unit table c.requires.unit c.forest-forest.result.now c.forest-forest.ensures c.args.id c.requires.id entry c.entry-entry.ensures in
    let inside : c.args.column < entry.count = subst (λ (z : Entry). c.args.column < z.count) (sym same) c.requires.column in
    subst (λ (z : ℕ). c.args.column < z) (entry_counted unit table c.requires.unit c.forest-forest.result.now c.forest-forest.ensures c.args.id c.requires.id entry c.entry-entry.ensures) inside

pub overflow_add-entry : goal.overflow_add-entry
overflow_add-entry c =
    let unit = c.args.unit.now in
    let table = c.args.table.now in
    let forest = c.forest-forest.result.now in
    let entry = c.entry-entry.result in
    let same = entry_is unit table c.requires.unit forest c.forest-forest.ensures c.args.id c.requires.id entry c.entry-entry.ensures in
    let below : c.args.column < entry.count = subst (λ (z : Entry). c.args.column < z.count) (sym same) c.requires.column in
    let inside : entry.first + entry.count ≤ length unit.forest.values = entry_inside unit table c.requires.unit forest c.forest-forest.ensures c.args.id c.requires.id entry c.entry-entry.ensures in
    let count : c.value_count-count.result ≡ length unit.forest.values = c.value_count-count.ensures ∙ ap (λ (z : Arena). length z.values) c.forest-forest.ensures in
    record { fits = omega (arith, below, inside, count, c.value_count-count.type_inv) }

pub value-value-requires : goal.value-value-requires
value-value-requires c =
    let unit = c.args.unit.now in
    let table = c.args.table.now in
    let forest = c.forest-forest.result.now in
    let entry = c.entry-entry.result in
    let same = entry_is unit table c.requires.unit forest c.forest-forest.ensures c.args.id c.requires.id entry c.entry-entry.ensures in
    let below : c.args.column < entry.count = subst (λ (z : Entry). c.args.column < z.count) (sym same) c.requires.column in
    let inside : entry.first + entry.count ≤ length unit.forest.values = entry_inside unit table c.requires.unit forest c.forest-forest.ensures c.args.id c.requires.id entry c.entry-entry.ensures in
    let there : entry.first + c.args.column < length unit.forest.values = omega (arith, below, inside) in
    subst (λ (z : Arena). entry.first + c.args.column < length z.values) (sym c.forest-forest.ensures) there

pub returns-clause-lies : goal.returns-clause-lies
returns-clause-lies c =
    let unit = c.args.unit.now in
    let table = c.args.table.now in
    let forest = c.forest-forest.result.now in
    let entry = c.entry-entry.result in
    let same = entry_is unit table c.requires.unit forest c.forest-forest.ensures c.args.id c.requires.id entry c.entry-entry.ensures in
    let below : c.args.column < entry.count = subst (λ (z : Entry). c.args.column < z.count) (sym same) c.requires.column in
    let inside : entry.first + entry.count ≤ length unit.forest.values = entry_inside unit table c.requires.unit forest c.forest-forest.ensures c.args.id c.requires.id entry c.entry-entry.ensures in
    let there : entry.first + c.args.column < length unit.forest.values = omega (arith, below, inside) in
    let value : c.value-value.result ≡ value_at unit.forest.values (entry.first + c.args.column) = c.value-value.ensures ∙ ap (λ (z : Arena). value_at z.values (entry.first + c.args.column)) c.forest-forest.ensures in
    subst (LiesIn (length unit.forest.section)) (sym value) (value_lies unit table c.requires.unit (entry.first + c.args.column) there)
