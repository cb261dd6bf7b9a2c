use Rattle.std.proofs.Common.{arith}
use Rattle.form_codec.proofs.FormLaws.{shape_size}
use Rattle.form_codec.proofs.write.any_size.Goals as goal

pub returns : goal.returns
returns c = shape_size c.args.shape c.args.value.now c.in-Some.encoding c.encoded_size.result c.counted_size.result (omega arith) c.in-Some.ensures c.encoded_size.ensures c.counted_size.ensures
