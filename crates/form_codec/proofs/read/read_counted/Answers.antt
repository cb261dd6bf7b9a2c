use Rattle.std.proofs.Common.{rules}
use Rattle.form_codec.proofs.ReadLaws.{counted_read}
use Rattle.form_codec.proofs.read.read_counted.Goals as goal

pub returns-clause-read : goal.returns-clause-read
returns-clause-read c =
    counted_read c.args.width c.args.bytes.now c.args.at c.number_of-count.result c.from-size.result c.requires (search rules) (search rules) (search rules) c.number_of-count.ensures
