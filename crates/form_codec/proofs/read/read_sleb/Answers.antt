use Rattle.form_codec.proofs.ReadLaws.{sleb_read}
use Rattle.std.proofs.Common.{rules}
use Rattle.form_codec.proofs.read.read_sleb.Goals as goal

pub returns-in-Ok-clause-read : goal.returns-in-Ok-clause-read
returns-in-Ok-clause-read c =
    sleb_read c.args.bytes.now _ c.in-Ok.read.value c.args.at c.in-Ok.read.end c.in-Ok.ensures.within.0 c.in-Ok.ensures.within.1 c.in-Ok.ensures.read c.in-Ok.ensures.fits (search rules)
