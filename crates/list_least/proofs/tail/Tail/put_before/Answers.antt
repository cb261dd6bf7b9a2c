use Rattle.list_least.specs.Plans.{bounds_of}
use Rattle.list_least.proofs.Near.{accepted_up_to, no_more_accepted}
use Rattle.list_least.proofs.tail.Tail.put_before.Goals as goal

pub returns-clause-tail : goal.returns-clause-tail
returns-clause-tail c items ps of = (c.in_ok-step.ensures (bounds_of c.args.item.now) items ps c.costs_of-costs.ensures of).tail

pub returns-clause-greatest : goal.returns-clause-greatest
returns-clause-greatest c items ps of other =
    let near = (c.in_ok-step.ensures (bounds_of c.args.item.now) items ps c.costs_of-costs.ensures of).near in (
      no_more_accepted c.args.addr.now c.args.context.now (bounds_of c.args.item.now) items ps c.in_ok-step.step.choice near other,
      accepted_up_to c.args.addr.now c.args.context.now (bounds_of c.args.item.now) items ps c.in_ok-step.step.choice near other,
    )
