use Rattle.std.proofs.Common.{subst}
use Rattle.list_least.specs.Plans.{IsItemOf}
use Rattle.list_least.specs.inside.Ways.{as_entry}
use Rattle.list_least.proofs.Ways.{item_code}
use Rattle.list_least.proofs.forward.place.Goals as goal

pub push_pick-requires-clause-known : goal.push_pick-requires-clause-known
push_pick-requires-clause-known c =
    let some = c.requires.some in
    let is = c.item_entry.ensures.entry some.0 some.1 some.2 some.3 in
    item_code c.args.list some.0 some.1 c.args.base c.item_entry.result.kind c.item_entry.result.a c.item_entry.result.b some.2 (subst (IsItemOf c.args.list) some.3.bounds c.requires.fits) is.has

pub returns : goal.returns
returns c addr context item are = record { entry = as_entry c.item_entry.result; is = c.item_entry.ensures.entry addr context item are; adds = c.in_ok-push_pick.ensures }
