use Rattle.std.proofs.Common.{◌∙◌}
use Rattle.form_codec.specs.Values.{meant_in}
use Rattle.unit_write.proofs.ValueLaws.{admits_kept, size_kept, other_value}
use Rattle.unit_write.proofs.values.written_size.Goals as goal

pub returns-in_default : goal.returns-in_default
returns-in_default c = λ section size few i has.
    let meaning = meant_in section c.args.value.now in
    let other = other_value section c.args.value.now c.in_default.not-Expr c.in_default.not-LocalRef c.in_default.not-SectionRef c.in_default.not-Offset in
    let w = c.spelled_size.ensures section few i (admits_kept c.args.column meaning c.args.len size other.0 other.1 has) in
    w.2 ∙ size_kept c.args.column meaning c.args.len size w.0 other.0 other.1 has w.1
