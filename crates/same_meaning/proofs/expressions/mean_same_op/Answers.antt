use Rattle.std.proofs.Common.{◌∙◌, sym}
use Rattle.std.proofs.lemmas.Bool.{false≢true}
use Rattle.value_links.specs.Lists.{owner_unit}
use Rattle.same_meaning.proofs.SameOperations.{operation_same, keep_same, refer_same}
use Rattle.same_meaning.proofs.expressions.mean_same_op.Goals as goal

pub returns-then-keep_alike : goal.returns-then-keep_alike
returns-then-keep_alike c = λ r s read holds again held.
    let u = owner_unit r.links c.args.old.now.owner in
    let v = owner_unit s.links c.args.new.now.owner in
    let refer = c.refer_alike.ensures r s read holds again held in (
      λ same. operation_same r.links u c.args.old.now.bytes.now c.args.old_op.now s.links v c.args.new.now.bytes.now c.args.new_op.now (c.keep_alike.ensures.0 c.if-keep_alike.true) (refer.0 same),
      λ same. refer.1 (refer_same r.links u c.args.old.now.bytes.now c.args.old_op.now s.links v c.args.new.now.bytes.now c.args.new_op.now same),
    )

pub returns-else-keep_alike : goal.returns-else-keep_alike
returns-else-keep_alike c = λ r s read holds again held. (
  λ wrong. absurd (false≢true (sym c.if-keep_alike.false ∙ wrong)),
  λ same. c.keep_alike.ensures.1 (keep_same r.links (owner_unit r.links c.args.old.now.owner) c.args.old.now.bytes.now c.args.old_op.now s.links (owner_unit s.links c.args.new.now.owner) c.args.new.now.bytes.now c.args.new_op.now same),
)
