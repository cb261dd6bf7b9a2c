use Rattle.std.proofs.Common.{subst}
use Rattle.std.specs.List.{Contains}
use Rattle.list_model.specs.declared.entry.ListKind.{ListKind}
use Rattle.value_links.specs.World.{lists_held}
use Rattle.same_meaning.proofs.ListPairs.{lists_differ, ranges_same, locations_decide}
use Rattle.same_meaning.proofs.lists.mean_same_list.Goals as goal

pub returns-then-not-have_same_content : goal.returns-then-not-have_same_content
returns-then-not-have_same_content c =
    lists_differ c.args.before.now c.args.after.now c.in_ok-old.old c.in_ok-new.new c.args.kind c.args.first c.args.second
    (record { one = c.in_ok-old.ensures.list; other = c.in_ok-new.ensures.list; one_at = c.in_ok-old.ensures.at; other_at = c.in_ok-new.ensures.at })
    c.have_same_content.result c.if-not-have_same_content.true c.have_same_content.ensures

pub returns-in-Ranges : goal.returns-in-Ranges
returns-in-Ranges c =
    ranges_same c.args.before.now c.args.after.now c.in_ok-old.old c.in_ok-new.new c.args.kind c.args.first c.args.second
    (record { one = c.in_ok-old.ensures.list; other = c.in_ok-new.ensures.list; one_at = c.in_ok-old.ensures.at; other_at = c.in_ok-new.ensures.at })
    c.in-Ranges.is c.have_same_content.result c.if-not-have_same_content.false c.have_same_content.ensures

pub have_same_expressions-requires-clause-first : goal.have_same_expressions-requires-clause-first
have_same_expressions-requires-clause-first c = subst (λ (z : ListKind). Contains (lists_held c.args.before.now z) c.in_ok-old.old) c.in-Locations.is c.in_ok-old.ensures.list

pub have_same_expressions-requires-clause-second : goal.have_same_expressions-requires-clause-second
have_same_expressions-requires-clause-second c = subst (λ (z : ListKind). Contains (lists_held c.args.after.now z) c.in_ok-new.new) c.in-Locations.is c.in_ok-new.ensures.list

pub returns : goal.returns
returns c =
    locations_decide c.args.before.now c.args.after.now c.in_ok-old.old c.in_ok-new.new c.args.kind c.args.first c.args.second
    (record { one = c.in_ok-old.ensures.list; other = c.in_ok-new.ensures.list; one_at = c.in_ok-old.ensures.at; other_at = c.in_ok-new.ensures.at })
    c.in-Locations.is c.have_same_content.result c.if-not-have_same_content.false c.have_same_content.ensures c.have_same_expressions.result c.have_same_expressions.ensures
