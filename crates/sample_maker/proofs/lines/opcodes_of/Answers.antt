use Rattle.sample_maker.proofs.SmallUnits.{item_small}
use Rattle.sample_maker.proofs.Joining.{held}
use Rattle.sample_maker.proofs.lines.opcodes_of.Goals as goal

pub put_sequence-requires-clause-small : goal.put_sequence-requires-clause-small
put_sequence-requires-clause-small c =
    let (inside, is) = held c.args.unit.now.functions.items c.deref-function-items.result.now c.loop-i.i c.function-item.result c.deref-function-items.ensures.value c.loop-i-test.true c.function-item.is in
    item_small c.args.unit.now.functions.items c.loop-i.i c.function-item.result c.requires.small inside is
