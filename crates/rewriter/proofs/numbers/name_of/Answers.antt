use Rattle.std.proofs.Common.{◌∙◌, ap}
use Rattle.entry_arena.specs.Arena.{Arena, entry_at}
use Rattle.rewriter.proofs.Links.{own_is}
use Rattle.rewriter.proofs.Final.{named_is, decl_there, column_there, name_same}
use Rattle.rewriter.proofs.numbers.name_of.Goals as goal

pub columns-requires : goal.columns-requires
columns-requires c =
    let (written, e) = c.requires.entry in
    let own = own_is c.args.world.now c.args.unit c.units.result.now.items c.index.result.now e.unit c.units.ensures c.index.ensures in
    let named = named_is c.args.world.now c.args.unit c.tables.result.now.items c.table_numbers.result.now.items c.index-2.result.now c.index-named.result.now e.numbered e.table c.tables.ensures c.table_numbers.ensures c.index-2.ensures c.index-named.ensures in
    let entry = c.entry-entry.ensures ∙ ap (λ (f : Arena). entry_at f.entries c.args.id) c.forest.ensures in
    decl_there c.args.world.now c.args.unit c.args.id c.args.column c.index.result.now c.index-named.result.now c.entry-entry.result written e own named entry

pub bounds-columns-column : goal.bounds-columns-column
bounds-columns-column c =
    let (written, e) = c.requires.entry in
    let own = own_is c.args.world.now c.args.unit c.units.result.now.items c.index.result.now e.unit c.units.ensures c.index.ensures in
    let named = named_is c.args.world.now c.args.unit c.tables.result.now.items c.table_numbers.result.now.items c.index-2.result.now c.index-named.result.now e.numbered e.table c.tables.ensures c.table_numbers.ensures c.index-2.ensures c.index-named.ensures in
    let entry = c.entry-entry.ensures ∙ ap (λ (f : Arena). entry_at f.entries c.args.id) c.forest.ensures in
    column_there c.args.world.now c.args.unit c.args.id c.args.column c.index.result.now c.index-named.result.now c.entry-entry.result written e own named entry c.columns.result.now c.columns.ensures c.requires.column

pub returns : goal.returns
returns c =
    let (written, e) = c.requires.entry in
    let own = own_is c.args.world.now c.args.unit c.units.result.now.items c.index.result.now e.unit c.units.ensures c.index.ensures in
    let named = named_is c.args.world.now c.args.unit c.tables.result.now.items c.table_numbers.result.now.items c.index-2.result.now c.index-named.result.now e.numbered e.table c.tables.ensures c.table_numbers.ensures c.index-2.ensures c.index-named.ensures in
    let entry = c.entry-entry.ensures ∙ ap (λ (f : Arena). entry_at f.entries c.args.id) c.forest.ensures in
    name_same c.args.world.now c.args.unit c.args.id c.args.column c.index.result.now c.index-named.result.now c.entry-entry.result written e own named entry c.columns.result.now c.columns.ensures c.requires.column
