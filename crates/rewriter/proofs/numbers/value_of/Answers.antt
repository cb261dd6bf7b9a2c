use Rattle.std.proofs.Common.{◌≡◌, ◌∙◌, length, ap, arith}
use Rattle.entry_arena.specs.declared.entry.Entry.{Entry}
use Rattle.entry_arena.specs.Arena.{Arena, entry_at}
use Rattle.entry_read.specs.Units.{HeadAndForest}
use Rattle.rewriter.specs.inside.Held.{entry_in}
use Rattle.rewriter.proofs.Links.{own_is}
use Rattle.rewriter.proofs.Final.{value_there}
use Rattle.rewriter.proofs.numbers.value_of.Goals as goal

pub overflow_add-first : goal.overflow_add-first
overflow_add-first c =
    let read = own_is c.args.world.now c.args.unit c.units.result.now.items c.index.result.now c.requires.entry.unit c.units.ensures c.index.ensures in
    let entry = c.entry-first.ensures ∙ ap (λ (f : Arena). entry_at f.entries c.args.id) c.forest.ensures in
    let e : c.entry-first.result ≡ entry_in c.args.world.now c.args.unit c.args.id = entry ∙ ap (λ (h : HeadAndForest). entry_at h.forest.entries c.args.id) read in
    let count : c.value_count-count.result ≡ length c.args.own.now.forest.values = c.value_count-count.ensures ∙ ap (λ (f : Arena). length f.values) c.forest-forest.ensures in
    record { fits = omega (arith, ap (λ (x : Entry). x.first) e, c.requires.entry.values, c.requires.column, count, c.value_count-count.type_inv) }

pub value-requires : goal.value-requires
value-requires c =
    let read = own_is c.args.world.now c.args.unit c.units.result.now.items c.index.result.now c.requires.entry.unit c.units.ensures c.index.ensures in
    let entry = c.entry-first.ensures ∙ ap (λ (f : Arena). entry_at f.entries c.args.id) c.forest.ensures in
    let e : c.entry-first.result ≡ entry_in c.args.world.now c.args.unit c.args.id = entry ∙ ap (λ (h : HeadAndForest). entry_at h.forest.entries c.args.id) read in
    omega (arith, ap (λ (x : Entry). x.first) e, c.requires.entry.values, c.requires.column, ap (λ (f : Arena). length f.values) c.forest-forest.ensures)

pub returns : goal.returns
returns c =
    let read = own_is c.args.world.now c.args.unit c.units.result.now.items c.index.result.now c.requires.entry.unit c.units.ensures c.index.ensures in
    let entry = c.entry-first.ensures ∙ ap (λ (f : Arena). entry_at f.entries c.args.id) c.forest.ensures in
    c.value.ensures
    ∙ value_there c.args.world.now c.args.unit c.args.id c.args.column c.index.result.now c.entry-first.result c.args.own.now c.forest-forest.result.now.values read entry (ap (λ (f : Arena). f.values) c.forest-forest.ensures)
