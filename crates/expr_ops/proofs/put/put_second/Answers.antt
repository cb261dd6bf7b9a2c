use Rattle.std.proofs.Common.{◌∙◌, ap, of_z}
use Rattle.std.proofs.lemmas.Int.{to_z-of_z}
use Rattle.std.specs.Int.{w64}
use Rattle.expr_ops.proofs.PutLaws.{part_same}
use Rattle.expr_ops.proofs.put.put_second.Goals as goal

pub returns-clause-ok : goal.returns-clause-ok
returns-clause-ok c =
    part_same _ c.put_part.result c.args.shape _ c.args.out.now.items c.put_part.new.out.items c.cast_unsigned-number.result _ _ c.args.op.now.s c.block_of.result.now _ (c.cast_unsigned-number.ensures ∙ ap (of_z w64) (to_z-of_z w64 c.signed_of-signed.result (record { sfits = c.signed_of-signed.type_inv }) ∙ c.signed_of-signed.ensures)) (to_z-of_z w64 c.signed_of-signed.result (record { sfits = c.signed_of-signed.type_inv }) ∙ c.signed_of-signed.ensures) c.block_of.ensures c.put_part.ensures.ok
