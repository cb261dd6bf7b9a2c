use Rattle.std.proofs.Common.{◌≡◌, length, ap, arith}
use Rattle.tidy_tables.proofs.TablePlaces.{inside_found, inside_fine, inside_greatest, inside_none}
use Rattle.tidy_tables.proofs.table_places.first_inside.Goals as goal

pub returns-then-named-end : goal.returns-then-named-end
returns-then-named-end c =
    let l = c.loop-named.invariant in
    inside_found c.args.tables.now.items c.requires c.deref-named-items.result.now c.deref-named-items.ensures.value c.loop-named.named-index c.loop-named-test.true c.named-item.result c.named-item.is c.loop-named.end l.fine l.greatest c.if-named-end.true

pub loop-named-preserved : goal.loop-named-preserved
loop-named-preserved c =
    let l = c.loop-named.invariant in
    record {
      fine = inside_fine c.args.tables.now.items c.requires c.deref-named-items.result.now c.deref-named-items.ensures.value c.loop-named.named-index c.loop-named-test.true c.named-item.result c.named-item.is c.loop-named.end l.fine l.greatest c.if-named-end.false;
      greatest = inside_greatest c.args.tables.now.items c.requires c.deref-named-items.result.now c.deref-named-items.ensures.value c.loop-named.named-index c.loop-named-test.true c.named-item.result c.named-item.is c.loop-named.end c.end.result c.max-end.result l.greatest c.end.ensures c.max-end.ensures;
    }

pub returns : goal.returns
returns c =
    let same : c.loop-named.named-index ≡ length c.args.tables.now.items = omega (arith, ap length c.deref-named-items.ensures.value) in
    inside_none c.args.tables.now.items c.loop-named.named-index same c.loop-named.invariant.fine
