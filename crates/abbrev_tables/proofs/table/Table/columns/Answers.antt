use Rattle.std.proofs.Common.{◌≡◌, ◌<◌, length, ap, sym, ◌∙◌, arith}
use Rattle.abbrev_tables.specs.Listings.{decl_at}
use Rattle.abbrev_tables.proofs.Puts.{columns_inside}
use Rattle.abbrev_tables.proofs.table.Table.columns.Goals as goal

pub columns_of-requires : goal.columns_of-requires
columns_of-requires c =
    let same : length c.self.inside.decls.items ≡ length c.args.self.now.decls = ap (λ z. length z.decls) c.self.view_is in
    let inside : c.args.i < length c.args.self.now.decls = c.requires in
    let decl : decl_at c.self.inside.decls.items c.args.i ≡ c.decl.result = ap (λ z. decl_at z.decls c.args.i) c.self.view_is ∙ sym c.decl.ensures in
    let first : (decl_at c.self.inside.decls.items c.args.i).first ≡ c.decl.result.first = ap (λ d. d.first) decl in
    let count : (decl_at c.self.inside.decls.items c.args.i).count ≡ c.decl.result.count = ap (λ d. d.count) decl in
    let fits = columns_inside 0 c.self.inside.decls.items (length c.self.inside.specs.items) c.args.i c.self.invariant.adjacent (omega (arith, inside, same)) in
    let size : length c.deref.result.now ≡ length c.self.inside.specs.items = ap length c.deref.ensures.value in
    omega (arith, fits, first, count, size)
