use Rattle.std.proofs.Common.{◌%◌}
use Rattle.line_sums.proofs.Keeping.{found_kept, one_kept}
use Rattle.line_sums.proofs.ways.Ways.of.Goals as goal

pub invariant_of-self : goal.invariant_of-self
invariant_of-self c =
    one_kept c.self.inside.min (c.args.distance % 128) c.find_way-way.result c.self.inside.known.items c.self.invariant
    (found_kept c.args.range c.self.inside.min c.args.distance c.find_way-way.result c.requires c.find_way-way.ensures.range c.find_way-way.ensures.distance c.find_way-way.ensures.right)
