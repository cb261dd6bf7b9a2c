use Rattle.std.proofs.Common.{◌∙◌, sym, eqb-true, eq-eqb}
use Rattle.value_links.specs.Lists.{owner_unit}
use Rattle.same_meaning.proofs.SameOperations.{refer_found, found_refer, refer_plain, plain_refer}
use Rattle.same_meaning.proofs.expressions.refer_alike.Goals as goal

pub returns-then-has_reference : goal.returns-then-has_reference
returns-then-has_reference c = λ r s read holds again held.
    let u = owner_unit r.links c.args.owner in
    let v = owner_unit s.links c.args.other_owner in
    let is = c.is_one_link.ensures in
    let has = sym c.has_reference.ensures ∙ c.if-has_reference.true in
    let names = c.requires.named r s read holds again held in
    let first = c.named.ensures r read holds in
    let second = c.named-then-has_reference.ensures s again held in
    (λ same. refer_found r.links u c.args.old.now s.links v c.args.new.now c.requires.code has c.named.result c.named-then-has_reference.result first second names.0 names.1 (is.0 same), λ alike. is.1 (found_refer r.links u c.args.old.now s.links v c.args.new.now c.requires.code has c.named.result c.named-then-has_reference.result first second alike))

pub returns-else-has_reference : goal.returns-else-has_reference
returns-else-has_reference c = λ r s read holds again held.
    let u = owner_unit r.links c.args.owner in
    let v = owner_unit s.links c.args.other_owner in
    let none = sym c.has_reference.ensures ∙ c.if-has_reference.false in (
      λ same. refer_plain r.links u c.args.old.now s.links v c.args.new.now c.requires.code c.references_named.ensures none (eqb-true c.args.old.now.a c.args.new.now.a same),
      λ alike. eq-eqb c.args.old.now.a c.args.new.now.a (plain_refer r.links u c.args.old.now s.links v c.args.new.now c.requires.code c.references_named.ensures none alike),
    )
