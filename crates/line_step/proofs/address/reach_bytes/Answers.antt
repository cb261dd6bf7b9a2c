use Rattle.std.proofs.Common.{arith}
use Rattle.line_step.proofs.Reaches.{reach_none, reach_one, reach_two, reach_three, reach_more}
use Rattle.line_step.proofs.address.reach_bytes.Goals as goal

pub returns-then-distance-eq0-clause-least : goal.returns-then-distance-eq0-clause-least
returns-then-distance-eq0-clause-least c = reach_none c.args.range c.args.min c.args.distance (omega arith)

pub returns-then-distance-once-clause-least : goal.returns-then-distance-once-clause-least
returns-then-distance-once-clause-least c =
    reach_one c.args.range c.args.min c.args.distance c.from.result c.from-scale.result c.from.ensures c.from-scale.ensures (omega arith) (omega arith)

pub returns-then-distance-max-clause-least : goal.returns-then-distance-max-clause-least
returns-then-distance-max-clause-least c =
    reach_two c.args.range c.args.min c.args.distance c.from.result c.from-scale.result c.from.ensures c.from-scale.ensures (omega arith) (omega arith)

pub returns-then-distance-max-2-clause-least : goal.returns-then-distance-max-2-clause-least
returns-then-distance-max-2-clause-least c =
    reach_three c.args.range c.args.min c.args.distance c.from.result c.from-scale.result c.from-2.result c.requires.scale c.from.ensures c.from-scale.ensures c.from-2.ensures (omega arith) (omega arith)

pub returns-clause-least : goal.returns-clause-least
returns-clause-least c =
    reach_more c.args.range c.args.min c.args.distance c.from-scale.result c.from-2.result c.len_u.result c.requires.scale c.from-scale.ensures c.from-2.ensures (omega arith) c.len_u.ensures.least c.len_u.ensures.few
