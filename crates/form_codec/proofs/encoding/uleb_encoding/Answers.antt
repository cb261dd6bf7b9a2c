use Rattle.form_codec.proofs.WriteLaws.{uleb_fits}
use Rattle.form_codec.proofs.encoding.uleb_encoding.Goals as goal

pub returns : goal.returns
returns c = uleb_fits c.args.role c.args.value.now c.in-Some.number c.in-Some.ensures.fits c.in-Some.ensures.number c.in-Some.ensures.least
