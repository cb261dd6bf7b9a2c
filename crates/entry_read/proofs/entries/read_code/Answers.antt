use Rattle.entry_read.proofs.Parts.{code_read}
use Rattle.entry_read.proofs.entries.read_code.Goals as goal

pub returns-in-Ok-clause-read : goal.returns-in-Ok-clause-read
returns-in-Ok-clause-read c =
    code_read c.args.info.now c.args.at c.in-Ok.read.end c.args.end c.in-Ok.read.value c.requires.order c.requires.inside c.in-Ok.ensures.within.1 c.in-Ok.ensures.read c.in-Ok.ensures.fits
