use Rattle.std.proofs.lemmas.List.{take_rest}
use Rattle.abbrev_tables.proofs.Steps.{code_read}
use Rattle.abbrev_tables.proofs.read.read_code.Goals as goal

pub returns-in-Ok-read_form-clause-read : goal.returns-in-Ok-read_form-clause-read
returns-in-Ok-read_form-clause-read c = code_read c.args.name c.in-Ok.code.value c.args.rest.now c.in-Ok.code.end c.in-Ok-read_form.read c.in-Ok.ensures.read.0 c.in-Ok.ensures.read.1 (rw take_rest at c.in-Ok-read_form.ensures.read)
