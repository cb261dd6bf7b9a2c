use Rattle.std.proofs.Common.{arith}
use Rattle.measure.proofs.Drawn.{drawn_ranges, drawn_small}
use Rattle.measure.proofs.layout.drawn_slots.Goals as goal

pub returns-clause-inside : goal.returns-clause-inside
returns-clause-inside c = drawn_ranges c.args.count c.loop-index.slots.items (omega arith) c.loop-index.invariant.drawn

pub returns-clause-small : goal.returns-clause-small
returns-clause-small c = drawn_small c.args.count c.loop-index.slots.items c.loop-index.invariant.drawn
