use Rattle.std.proofs.Common.{arith, subst, sym}
use Rattle.form_codec.specs.declared.form.Shape.TheVariants as shape
use Rattle.form_codec.specs.declared.value.Value.{Value}
use Rattle.form_codec.specs.declared.encoding.Encoding.TheVariants as encoding
use Rattle.form_codec.specs.Written.{HasNoEncoding}
use Rattle.form_codec.specs.inside.Written.{IsEncoding}
use Rattle.form_codec.proofs.WriteLaws.{counted_fits, counted_too_long}
use Rattle.form_codec.proofs.encoding.counted_encoding.Goals as goal

pub returns-then-span-greatest : goal.returns-then-span-greatest
returns-then-span-greatest c =
    subst (λ (v : Value). HasNoEncoding (shape.Counted c.args.width) v) (sym c.in-Block.is) (counted_too_long c.args.width c.in-Block.span c.greatest.result c.greatest.ensures c.if-span-greatest.true)

pub returns : goal.returns
returns c =
    subst (λ (v : Value). IsEncoding (shape.Counted c.args.width) v (encoding.Counted c.args.width c.in-Block.span)) (sym c.in-Block.is) (counted_fits c.args.width c.in-Block.span (omega (arith, c.greatest.ensures, c.if-span-greatest.false)))
