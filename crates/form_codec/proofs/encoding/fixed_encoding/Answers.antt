use Rattle.std.proofs.Common.{arith}
use Rattle.form_codec.proofs.WriteLaws.{fixed_fits, fixed_none_at_all, fixed_too_large}
use Rattle.form_codec.proofs.encoding.fixed_encoding.Goals as goal

pub returns-in_default : goal.returns-in_default
returns-in_default c = fixed_none_at_all c.args.width c.args.role c.args.value.now c.in_default.ensures.number

pub returns-then-number-greatest : goal.returns-then-number-greatest
returns-then-number-greatest c =
    fixed_too_large c.args.width c.args.role c.args.value.now c.in-Some.number c.greatest.result c.greatest.ensures c.if-number-greatest.true c.in-Some.ensures.least

pub returns : goal.returns
returns c =
    fixed_fits c.args.width c.args.role c.args.value.now c.in-Some.number (omega (arith, c.greatest.ensures, c.if-number-greatest.false)) c.in-Some.ensures.number c.in-Some.ensures.least
