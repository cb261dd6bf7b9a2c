use Rattle.std.proofs.lemmas.Int.{to_z-of_z}
use Rattle.std.specs.Prelude.{FitsSigned}
use Rattle.std.specs.Int.{w64}
use Rattle.form_codec.proofs.WriteLaws.{sleb_fits}
use Rattle.form_codec.proofs.encoding.sleb_encoding.Goals as goal

pub returns : goal.returns
returns c =
    let fits : FitsSigned w64 c.in-Some.constant = c.in-Some.ensures.fits in
    rw to_z-of_z (sleb_fits c.args.value.now c.in-Some.constant fits c.in-Some.ensures.constant)
