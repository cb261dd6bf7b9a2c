use Rattle.std.proofs.Common.{◌∙◌, ap}
use Rattle.entry_arena.specs.Arena.{entry_at}
use Rattle.entry_read.specs.Units.{declarations_of}
use Rattle.entry_read.proofs.ColumnPlaces.{declared_there, code_there, columns_there, values_there, column_there}
use Rattle.entry_read.proofs.place.place_of_value.Goals as goal

pub columns_of-columns-requires-clause-inside : goal.columns_of-columns-requires-clause-inside
columns_of-columns-requires-clause-inside c =
    let u = c.args.unit.now in
    let entry = c.entry-entry.ensures ∙ ap (λ f. entry_at f.entries c.args.id) c.forest-forest.ensures in
    declared_there u.head (declarations_of c.args.table.now) u.forest c.requires.unit c.args.id c.requires.id c.entry-entry.result entry

pub code_end-values_at-requires : goal.code_end-values_at-requires
code_end-values_at-requires c =
    let u = c.args.unit.now in
    let entry = c.entry-entry.ensures ∙ ap (λ f. entry_at f.entries c.args.id) c.forest-forest.ensures in
    let info = c.section-info.ensures ∙ ap (λ f. f.section) c.forest-forest.ensures in
    code_there u.head (declarations_of c.args.table.now) u.forest c.requires.unit c.args.id c.requires.id c.entry-entry.result entry c.section-info.result.now info

pub slice_bounds-values_end-end : goal.slice_bounds-values_end-end
slice_bounds-values_end-end c =
    let u = c.args.unit.now in
    let entry = c.entry-entry.ensures ∙ ap (λ f. entry_at f.entries c.args.id) c.forest-forest.ensures in
    let info = c.section-info.ensures ∙ ap (λ f. f.section) c.forest-forest.ensures in
    columns_there u.head (declarations_of c.args.table.now) u.forest c.requires.unit c.args.id c.requires.id c.entry-entry.result entry c.section-info.result.now info c.columns_of-columns.result.now c.columns_of-columns.ensures.columns c.args.column c.requires.column

pub values_end-requires : goal.values_end-requires
values_end-requires c =
    let u = c.args.unit.now in
    let entry = c.entry-entry.ensures ∙ ap (λ f. entry_at f.entries c.args.id) c.forest-forest.ensures in
    let info = c.section-info.ensures ∙ ap (λ f. f.section) c.forest-forest.ensures in
    values_there u.head (declarations_of c.args.table.now) u.forest c.requires.unit c.args.id c.requires.id c.entry-entry.result entry c.section-info.result.now info c.columns_of-columns.result.now c.columns_of-columns.ensures.columns c.args.column c.requires.column c.code_end-values_at.result c.code_end-values_at.ensures

pub returns : goal.returns
returns c =
    let u = c.args.unit.now in
    let entry = c.entry-entry.ensures ∙ ap (λ f. entry_at f.entries c.args.id) c.forest-forest.ensures in
    let info = c.section-info.ensures ∙ ap (λ f. f.section) c.forest-forest.ensures in
    column_there u.head (declarations_of c.args.table.now) u.forest c.requires.unit c.args.id c.requires.id c.entry-entry.result entry c.section-info.result.now info c.columns_of-columns.result.now c.columns_of-columns.ensures.columns c.args.column c.requires.column c.code_end-values_at.result c.code_end-values_at.ensures c.values_end.result c.values_end.ensures
