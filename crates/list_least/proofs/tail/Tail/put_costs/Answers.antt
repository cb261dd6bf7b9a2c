use Rattle.std.proofs.Common.{◌+◌, ◌-◌, refl}
use Rattle.list_least.specs.declared.tail.Tail.{Tail}
use Rattle.list_least.proofs.Tails.{stepped}
use Rattle.list_least.proofs.tail.Tail.put_costs.Goals as goal

pub returns : goal.returns
returns c =
    let grown : Tail = record {
      runs = c.in_ok-lower.field-0;
      under = c.args.self.under + c.args.costs.now.free - c.saturating_sub-by.result;
      most = c.args.self.most + 17;
      before = c.best_before.result;
    } in
    stepped c.args.addr.now c.args.context.now c.args.costs.now c.args.given c.args.self grown c.in_ok-next.next.items c.as_slice.result.now c.cheapest-choice.result c.unwrap_or-potential.result c.saturating_sub-by.result c.as_slice.ensures.value c.unwrap_or-potential.ensures c.saturating_sub-by.ensures refl refl c.requires.few c.in_ok-next.ensures.left c.in_ok-next.ensures.small c.cheapest-choice.ensures.near c.cheapest-choice.ensures.few c.best_before.ensures.ready c.best_before.ensures.few c.in_ok-lower.ensures
