use Rattle.std.proofs.Common.{sym, subst}
use Rattle.value_links.specs.Lists.{owner_unit}
use Rattle.value_links.specs.Operations.{LinksExpression}
use Rattle.same_meaning.specs.inside.Compared.{AreLinkedTo}
use Rattle.same_meaning.specs.inside.Expressions.{AreOperationsOf}
use Rattle.same_meaning.proofs.Zipped.{mean_one}
use Rattle.same_meaning.proofs.ValueExpressions.{all_linked, linked_ops, linked_bytes}
use Rattle.same_meaning.proofs.expressions.mean_same_bytes.Goals as goal

pub mean_same_ops-requires-clause-linked : goal.mean_same_ops-requires-clause-linked
mean_same_ops-requires-clause-linked c = λ r s read holds again held.
    let linked = c.requires.linked r s read holds again held in
    let are : AreOperationsOf c.args.old.now c.deref.result.now = subst (AreOperationsOf c.args.old.now) (sym c.deref.ensures.value) c.in_ok-read_again.ensures in
    let others : AreOperationsOf c.args.new.now c.deref-2.result.now = subst (AreOperationsOf c.args.new.now) (sym c.deref-2.ensures.value) c.in_ok-read_again-2.ensures in (
      all_linked c.one_reading.ensures r.links (owner_unit r.links c.args.owner) c.args.old.now c.deref.result.now are linked.0,
      all_linked c.one_reading.ensures s.links (owner_unit s.links c.args.other_owner) c.args.new.now c.deref-2.result.now others linked.1,
    )

pub returns : goal.returns
returns c = λ r s read holds again held.
    let u = owner_unit r.links c.args.owner in
    let v = owner_unit s.links c.args.other_owner in
    let are : AreOperationsOf c.args.old.now c.deref.result.now = subst (AreOperationsOf c.args.old.now) (sym c.deref.ensures.value) c.in_ok-read_again.ensures in
    let others : AreOperationsOf c.args.new.now c.deref-2.result.now = subst (AreOperationsOf c.args.new.now) (sym c.deref-2.ensures.value) c.in_ok-read_again-2.ensures in
    let same = c.mean_same_ops.ensures r s read holds again held in (
      λ yes. mean_one (AreLinkedTo r.links u c.args.old.now c.deref.result.now) (AreLinkedTo s.links v c.args.new.now c.deref-2.result.now) (LinksExpression r.links u c.args.old.now) (LinksExpression s.links v c.args.new.now)
          (linked_bytes r.links u c.args.old.now c.deref.result.now are)
          (linked_bytes s.links v c.args.new.now c.deref-2.result.now others)
          (same.0 yes),
      λ meaning. same.1 (mean_one (LinksExpression r.links u c.args.old.now) (LinksExpression s.links v c.args.new.now) (AreLinkedTo r.links u c.args.old.now c.deref.result.now) (AreLinkedTo s.links v c.args.new.now c.deref-2.result.now)
          (linked_ops c.one_reading.ensures r.links u c.args.old.now c.deref.result.now are)
          (linked_ops c.one_reading.ensures s.links v c.args.new.now c.deref-2.result.now others)
          meaning),
    )
