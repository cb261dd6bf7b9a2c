use Rattle.std.proofs.Common.{◌≡◌, ◌<◌, ◌∙◌, ℕ, length, sym, ap, subst}
use Rattle.abbrev_tables.specs.Listings.{decl_at, declared_in}
use Rattle.abbrev_tables.specs.Tables.{Declared}
use Rattle.entry_arena.specs.declared.entry.Entry.{Entry}
use Rattle.entry_arena.specs.Arena.{Arena, entry_at}
use Rattle.entry_read.specs.Units.{HeadAndForest}
use Rattle.same_meaning.specs.inside.Values.{entry_held}
use Rattle.same_meaning.proofs.ReadUnits.{some_reading, held_unit, forest_is, decl_inside, declared_same}
use Rattle.same_meaning.proofs.entries.shape_of.Goals as goal

pub decl-decl-requires : goal.decl-decl-requires
decl-decl-requires c =
    let (r, read, holds) = some_reading c.args.world.now c.requires.world in
    let forest = forest_is c.args.world.now c.args.unit c.units.result.now.items c.index.result.now c.forest.result.now c.requires.known c.units.ensures c.index.ensures c.forest.ensures in
    let decl : c.entry-entry.result.decl ≡ (entry_held c.args.world.now c.args.unit c.args.id).decl = ap (λ (e : Entry). e.decl) c.entry-entry.ensures ∙ ap (λ (f : Arena). (entry_at f.entries c.args.id).decl) forest in
    subst (λ (n : ℕ). n < length c.table.result.now.decls) (sym decl) (decl_inside c.args.world.now r c.args.unit c.args.id read holds c.requires.known c.requires.entry c.table.result.now c.table.ensures)

pub returns : goal.returns
returns c = λ r read holds.
    let forest = forest_is c.args.world.now c.args.unit c.units.result.now.items c.index.result.now c.forest.result.now c.requires.known c.units.ensures c.index.ensures c.forest.ensures in
    let entry : c.entry-entry.result ≡ entry_held c.args.world.now c.args.unit c.args.id = c.entry-entry.ensures ∙ ap (λ (f : Arena). entry_at f.entries c.args.id) forest in
    let same : declared_in c.table.result.now.specs c.decl-decl.result ≡ _ =
    ap (declared_in c.table.result.now.specs) (c.decl-decl.ensures ∙ ap (λ (e : Entry). decl_at c.table.result.now.decls e.decl) entry)
    ∙ declared_same c.args.world.now r c.args.unit c.args.id read holds c.requires.known c.requires.entry c.table.result.now c.table.ensures in
    record {
      depth_is = ap (λ (e : Entry). e.depth) entry ∙ ap (λ (h : HeadAndForest). (entry_at h.forest.entries c.args.id).depth) (held_unit c.args.world.now r c.args.unit holds);
      tag_is = ap (λ (d : Declared). d.tag) same;
      children_are = ap (λ (d : Declared). d.children) same;
    }
