use Rattle.std.proofs.lemmas.Int.{to_z-of_z}
use Rattle.std.specs.Prelude.{FitsSigned}
use Rattle.std.specs.Int.{w64}
use Rattle.leb_codec.proofs.Lens.{len_by_magnitude}
use Rattle.leb_codec.proofs.write.len_s.Goals as goal

pub returns-clause-least : goal.returns-clause-least
returns-clause-least c =
    let fits : FitsSigned w64 c.args.value = c.ranges.value in
    len_by_magnitude c.len_u.result c.magnitude.result c.args.value c.len_u.ensures.least (simp to_z-of_z at c.magnitude.ensures.far)
