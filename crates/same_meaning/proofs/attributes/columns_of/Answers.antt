use Rattle.std.proofs.Common.{◌≡◌, ◌<◌, ◌∙◌, ℕ, length, sym, ap, subst}
use Rattle.abbrev_tables.specs.Listings.{decl_at, declared_in}
use Rattle.abbrev_tables.specs.Tables.{Declared}
use Rattle.entry_arena.specs.declared.entry.Entry.{Entry}
use Rattle.entry_arena.specs.Arena.{Arena, entry_at}
use Rattle.same_meaning.specs.inside.Values.{entry_held}
use Rattle.same_meaning.proofs.ReadUnits.{some_reading, forest_is, decl_inside, declared_same}
use Rattle.same_meaning.proofs.attributes.columns_of.Goals as goal

-- the declaration of the entry is that of the one that is held
same_decl : (c : goal.After-table) → c.entry-decl.result.decl ≡ (entry_held c.args.world.now c.args.unit c.args.id).decl
same_decl c =
    let forest = forest_is c.args.world.now c.args.unit c.units.result.now.items c.index.result.now c.forest.result.now c.requires.known c.units.ensures c.index.ensures c.forest.ensures in
    ap (λ z. z.decl) c.entry-decl.ensures ∙ ap (λ (f : Arena). (entry_at f.entries c.args.id).decl) forest

pub columns-requires : goal.columns-requires
columns-requires c =
    let (r, read, holds) = some_reading c.args.world.now c.requires.world in
    subst (λ (n : ℕ). n < length c.table.result.now.decls) (sym (same_decl c)) (decl_inside c.args.world.now r c.args.unit c.args.id read holds c.requires.known c.requires.entry c.table.result.now c.table.ensures)

pub returns : goal.returns
returns c = λ r read holds.
    let forest = forest_is c.args.world.now c.args.unit c.units.result.now.items c.index.result.now c.forest.result.now c.requires.known c.units.ensures c.index.ensures c.forest.ensures in
    let decl : c.entry-decl.result.decl ≡ (entry_held c.args.world.now c.args.unit c.args.id).decl = ap (λ (e : Entry). e.decl) c.entry-decl.ensures ∙ ap (λ (f : Arena). (entry_at f.entries c.args.id).decl) forest in
    c.columns.ensures
    ∙ ap (λ (n : ℕ). (declared_in c.table.result.now.specs (decl_at c.table.result.now.decls n)).columns) decl
    ∙ ap (λ (d : Declared). d.columns) (declared_same c.args.world.now r c.args.unit c.args.id read holds c.requires.known c.requires.entry c.table.result.now c.table.ensures)
