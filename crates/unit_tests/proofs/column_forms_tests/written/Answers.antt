use Rattle.unit_tests.proofs.column_forms_tests.written.Goals as goal

pub write_value-requires-clause-admitted : goal.write_value-requires-clause-admitted
write_value-requires-clause-admitted c = (c.admits.ensures c.args.old.now.bytes.now c.in-Ok.ensures.in_section).0 c.if-not-admits.false
