use Rattle.form_codec.specs.Values.{bytes_in}
use Rattle.value_links.specs.Lists.{owner_unit}
use Rattle.value_links.specs.Operations.{LinksExpression}
use Rattle.value_links.specs.Reading.{unit_at}
use Rattle.same_meaning.specs.inside.Compared.{AreLinkedTo}
use Rattle.same_meaning.proofs.Zipped.{mean_one}
use Rattle.same_meaning.proofs.ValueExpressions.{value_links, links_value}
use Rattle.same_meaning.proofs.expressions.mean_same_expression.Goals as goal

pub returns : goal.returns
returns c = λ r s read holds again held.
    let unit = c.args.unit in
    let old = c.held_value-old.result in
    let new = c.held_value-new.result in
    let first = c.held_value-old.ensures in
    let second = c.held_value-new.ensures in
    let one = c.one_reading.ensures in
    let own = bytes_in (unit_at r.links c.args.unit).forest.section c.args.old in
    let others = bytes_in (unit_at s.links c.args.unit).forest.section c.args.new in
    let same = c.mean_same_ops.ensures r s read holds again held in (
      λ yes. mean_one (AreLinkedTo r.links (owner_unit r.links old.owner) old.bytes.now old.ops.now) (AreLinkedTo s.links (owner_unit s.links new.owner) new.bytes.now new.ops.now) (LinksExpression r.links unit own) (LinksExpression s.links unit others)
          (value_links one r.links unit old.owner old.bytes.now own old.ops.now first.owner (first.bytes r read holds) first.ops)
          (value_links one s.links unit new.owner new.bytes.now others new.ops.now second.owner (second.bytes s again held) second.ops)
          (same.0 yes),
      λ meaning. same.1 (mean_one (LinksExpression r.links unit own) (LinksExpression s.links unit others) (AreLinkedTo r.links (owner_unit r.links old.owner) old.bytes.now old.ops.now) (AreLinkedTo s.links (owner_unit s.links new.owner) new.bytes.now new.ops.now)
          (links_value one r.links unit old.owner old.bytes.now own old.ops.now first.owner (first.bytes r read holds) first.ops)
          (links_value one s.links unit new.owner new.bytes.now others new.ops.now second.owner (second.bytes s again held) second.ops)
          meaning),
    )
