use Rattle.std.proofs.Common.{refl, arith}
use Rattle.list_least.proofs.Near.{kept_under, kept_over, set_anew}
use Rattle.list_least.proofs.cheapest.best_before.Goals as goal

pub returns-then-choice-potential-clause-ready : goal.returns-then-choice-potential-clause-ready
returns-then-choice-potential-clause-ready c item items ps near = kept_under c.args.addr.now c.args.context.now item items ps c.args.choice.now near c.args.potential c.if-choice-potential.true

pub returns-then-choice-bytes-clause-ready : goal.returns-then-choice-bytes-clause-ready
returns-then-choice-bytes-clause-ready c item items ps near = kept_over c.args.addr.now c.args.context.now item items ps c.args.choice.now near c.setting_between-set.result 18446744073709551615 c.args.potential c.setting_between-set.ensures.between refl c.if-choice-bytes.true

pub returns-clause-ready : goal.returns-clause-ready
returns-clause-ready c item items ps near = set_anew c.args.addr.now c.args.context.now item items ps c.args.choice.now near c.setting_between-set.result 18446744073709551615 c.args.potential c.setting_between-set.ensures.between refl c.setting_between-set.ensures.is c.setting_between-set.ensures.below (omega (arith, c.if-choice-bytes.false))
