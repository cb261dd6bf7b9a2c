use Rattle.form_codec.proofs.FormLaws.{value_in, shortest_written}
use Rattle.form_codec.proofs.write.write_value.Goals as goal

pub returns-in_default-clause-ok : goal.returns-in_default-clause-ok
returns-in_default-clause-ok c =
    let section = c.args.section.now in
    let a = c.requires.admitted in
    let i = value_in c.args.name c.args.form section c.args.value.now (λ k lt. (c.type_inv.section k).fits) c.requires.inside a in
    absurd (c.in_default.ensures section a.bytes a.constant i a.spelled)

pub append-requires : goal.append-requires
append-requires c =
    let section = c.args.section.now in
    let i = value_in c.args.name c.args.form section c.args.value.now (λ k lt. (c.type_inv.section k).fits) c.requires.inside c.requires.admitted in
    c.in-Some.ensures.encoding.shape.lies section i

pub returns-in-Ok-clause-ok : goal.returns-in-Ok-clause-ok
returns-in-Ok-clause-ok c =
    let section = c.args.section.now in
    let i = value_in c.args.name c.args.form section c.args.value.now (λ k lt. (c.type_inv.section k).fits) c.requires.inside c.requires.admitted in
    let appended = c.in-Ok.ensures.ok in
    (appended.0, shortest_written c.args.name c.args.form c.args.value.now c.in-Some.encoding section appended.0 c.in-Some.ensures i appended.1, appended.2)
