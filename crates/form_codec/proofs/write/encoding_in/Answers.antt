use Rattle.std.proofs.Common.{subst, sym}
use Rattle.std.proofs.lemmas.Int.{to_z-of_z}
use Rattle.std.specs.Prelude.{FitsSigned}
use Rattle.std.specs.Int.{w64}
use Rattle.form_codec.specs.declared.form.Shape.{Shape}
use Rattle.form_codec.specs.Written.{HasConstant, HasNoEncoding}
use Rattle.form_codec.specs.inside.Written.{IsEncoding}
use Rattle.form_codec.proofs.FormLaws.{match_map, form_encoding, form_none, constant_held}
use Rattle.form_codec.proofs.write.encoding_in.Goals as goal

pub encoding_of-requires : goal.encoding_of-requires
encoding_of-requires c =
    let fits : FitsSigned w64 c.constant_of.result = record { sfits = c.constant_of.type_inv } in
    let shape = simp to_z-of_z at c.shape.ensures in
    subst (λ (s : Shape). HasConstant s) (sym shape) (constant_held c.args.name c.args.form c.constant_of.result fits)

pub returns : goal.returns
returns c =
    let fits : FitsSigned w64 c.constant_of.result = record { sfits = c.constant_of.type_inv } in
    let shape = simp to_z-of_z at c.shape.ensures in
    let v = c.args.value.now in
    match_map c.encoding_of.result (λ none. form_none c.args.name c.args.form v c.constant_of.result c.constant_of.ensures (subst (λ (s : Shape). HasNoEncoding s v) shape none)) (λ e enc. form_encoding c.args.name c.args.form v c.constant_of.result c.constant_of.ensures e (subst (λ (s : Shape). IsEncoding s v e) shape enc)) c.encoding_of.ensures
