use Rattle.std.proofs.Common.{◌+◌, ◌/◌, arith}
use Rattle.std.proofs.lemmas.Nat.{le_or_r}
use Rattle.leb_codec.proofs.Lens.{only_unsigned}
use Rattle.leb_codec.proofs.Puts.{least_by_bits}
use Rattle.leb_codec.proofs.write.len_u.Goals as goal

pub ilog2-requires : goal.ilog2-requires
ilog2-requires c = omega (arith, le_or_r c.args.value 1)

pub returns-clause-least : goal.returns-clause-least
returns-clause-least c =
    only_unsigned c.args.value (c.ilog2.result / 7 + 1) (least_by_bits c.args.value c.ilog2.result c.ilog2.ensures.power_le c.ilog2.ensures.next_power_gt)
