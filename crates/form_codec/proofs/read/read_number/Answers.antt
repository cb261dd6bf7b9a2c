use Rattle.std.proofs.Common.{rules}
use Rattle.form_codec.proofs.ReadLaws.{number_read}
use Rattle.form_codec.proofs.read.read_number.Goals as goal

pub returns-clause-read : goal.returns-clause-read
returns-clause-read c =
    number_read c.args.width c.args.role c.args.bytes.now c.args.at c.number_of.result c.from-size.result c.in_role.result c.requires (search rules) (search rules) c.number_of.ensures c.in_role.ensures.means (c.in_role.ensures.placed c.args.at _)
