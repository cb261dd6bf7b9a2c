use Rattle.form_codec.proofs.FormLaws.{match_map, code_encoding, code_none, code_unknown}
use Rattle.form_codec.proofs.write.encoding_for.Goals as goal

pub returns-in_default : goal.returns-in_default
returns-in_default c = code_unknown c.args.name c.args.code c.args.value.now c.in_default.ensures

pub returns : goal.returns
returns c =
    match_map c.encoding_in.result (code_none c.args.name c.args.code c.in-Some.form c.args.value.now c.in-Some.ensures) (code_encoding c.args.name c.args.code c.in-Some.form c.args.value.now c.in-Some.ensures) c.encoding_in.ensures
