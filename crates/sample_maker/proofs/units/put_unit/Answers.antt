use Rattle.std.proofs.Common.{arith}
use Rattle.sample_maker.specs.Drawn.{unit_of}
use Rattle.sample_maker.specs.inside.Files.{functions_at}
use Rattle.sample_maker.proofs.UnitLengths.{place_small}
use Rattle.sample_maker.proofs.units.put_unit.Goals as goal

pub put_head-requires : goal.put_head-requires
put_head-requires c =
    omega (arith, c.type_place-base_type.ensures, place_small functions_at (unit_of c.args.unit.now) c.requires.small.functions, c.requires.small.few)
