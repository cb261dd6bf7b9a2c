use Rattle.std.proofs.Common.{ℕ, List, length, subst}
use Rattle.spelled.specs.Spelled.{Appends}
use Rattle.abbrev_tables.specs.declared.decl.Spec.{Spec}
use Rattle.abbrev_tables.specs.Listings.{decl_at}
use Rattle.abbrev_tables.specs.Written.{ShortestDeclared, renumbered, numbered_as, used_at}
use Rattle.abbrev_tables.proofs.Puts.{order_more, columns_inside}
use Rattle.abbrev_tables.proofs.write.put_order.Goals as goal

pub columns_of-requires : goal.columns_of-requires
columns_of-requires c =
    let i : ℕ = c.loop-entry.entry-index in
    columns_inside 0 c.args.decls.now (length c.args.columns.now) ((used_at c.args.order.now i).1) c.requires.adjacent (c.requires.used i c.loop-entry-test.true)

pub loop-entry-preserved : goal.loop-entry-preserved
loop-entry-preserved c =
    let i : ℕ = c.loop-entry.entry-index in
    let u = used_at c.args.order.now i in
    record {
      put = order_more (renumbered c.args.decls.now c.args.columns.now) c.args.order.now i c.args.out.now.items c.loop-entry.out.items c.put_declared.new.out.items c.loop-entry-test.true c.loop-entry.invariant.put
          (subst (λ (z : List Spec). Appends ShortestDeclared (numbered_as u.0 (decl_at c.args.decls.now u.1) z) c.loop-entry.out.items c.put_declared.new.out.items) c.columns_of.ensures c.in_ok-put_declared.ensures);
    }
