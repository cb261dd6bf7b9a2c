use Rattle.std.proofs.Common.{refl, arith}
use Rattle.line_sums.proofs.Keeping.{found_kept, same_kept}
use Rattle.line_sums.proofs.ways.Ways.new.Goals as goal

pub invariant_of-result : goal.invariant_of-result
invariant_of-result c =
    same_kept c.args.min 128 c.find_way-way.result c.in_ok-repeated.field-0.items c.requires refl c.in_ok-repeated.ensures
    (found_kept 1 c.args.min 0 c.find_way-way.result (omega arith) c.find_way-way.ensures.range c.find_way-way.ensures.distance c.find_way-way.ensures.right)
