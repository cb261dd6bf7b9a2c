use Rattle.std.proofs.Common.{sym}
use Rattle.form_codec.proofs.FormLaws.{counted_whole, counted_expr, counted_local}
use Rattle.form_codec.proofs.write.counted_size.Goals as goal

pub returns-in-Expr : goal.returns-in-Expr
returns-in-Expr c = λ section. counted_expr c.args.value.now c.in-Expr.field-0 c.in-Expr.is section c.args.size

pub returns-in-LocalRef : goal.returns-in-LocalRef
returns-in-LocalRef c = λ section. counted_local c.args.value.now c.in-LocalRef.field-0 c.in-LocalRef.is section c.args.size

pub returns-in_default : goal.returns-in_default
returns-in_default c = λ section. sym (counted_whole c.args.value.now c.in_default.not-Expr c.in_default.not-LocalRef section c.args.size)
