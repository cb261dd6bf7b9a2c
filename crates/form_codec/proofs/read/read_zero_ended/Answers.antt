use Rattle.form_codec.proofs.ReadLaws.{text_read}
use Rattle.form_codec.proofs.read.read_zero_ended.Goals as goal

pub returns-clause-read : goal.returns-clause-read
returns-clause-read c = text_read c.args.bytes.now c.args.at c.in-Some.len c.requires c.in-Some.ensures
