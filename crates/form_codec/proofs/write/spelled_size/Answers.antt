use Rattle.std.proofs.Common.{subst}
use Rattle.std.proofs.lemmas.Int.{to_z-of_z}
use Rattle.std.specs.Prelude.{FitsSigned}
use Rattle.std.specs.Int.{w64}
use Rattle.form_codec.specs.declared.form.Shape.{Shape}
use Rattle.form_codec.specs.Forms.{SpellsShape}
use Rattle.form_codec.specs.Values.{meant_in}
use Rattle.form_codec.specs.inside.Written.{HasShortest}
use Rattle.form_codec.proofs.ShortestLaws.{admitted_shape, form_shortest}
use Rattle.form_codec.proofs.write.spelled_size.Goals as goal

pub returns-in-Some : goal.returns-in-Some
returns-in-Some c = λ section few i a.
    let f = c.in-Some.form in
    let constant = c.constant_of.result in
    let meaning = meant_in section c.args.value.now in
    let fits : FitsSigned w64 constant = record { sfits = c.constant_of.type_inv } in
    let shape = simp to_z-of_z at c.shape.ensures in
    let same = c.constant_of.ensures section in
    let short = subst (λ (s : Shape). SpellsShape s meaning a.bytes → HasShortest s meaning c.shaped_size.result) shape (c.shaped_size.ensures section a.bytes few i a.spelled.small) in
    form_shortest c.args.name c.args.code f constant meaning c.shaped_size.result c.in-Some.ensures same (short (admitted_shape c.args.name c.args.code f constant meaning c.in-Some.ensures same a))
