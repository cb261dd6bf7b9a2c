use Rattle.std.proofs.Common.{refl}
use Rattle.form_codec.specs.declared.form.Content.TheVariants as content
use Rattle.form_codec.specs.declared.value.Value.TheVariants as value
use Rattle.form_codec.proofs.WriteLaws.{uleb_counted_fits}
use Rattle.form_codec.proofs.encoding.uleb_counted_encoding.Goals as goal

pub returns-in-Block : goal.returns-in-Block
returns-in-Block c =
    rw (c.uleb_counted.ensures.encoding, c.in-Block.is, c.in-Data.is) (uleb_counted_fits content.Data (value.Block c.in-Block.span) c.in-Block.span c.uleb_counted.ensures.fits (λ section. refl) (λ size h. h))

pub returns-in-Expr : goal.returns-in-Expr
returns-in-Expr c =
    rw (c.uleb_counted-in-Expression.ensures.encoding, c.in-Expr.is, c.in-Expression.is) (uleb_counted_fits content.Expression (value.Expr c.in-Expr.span) c.in-Expr.span c.uleb_counted-in-Expression.ensures.fits (λ section. refl) (λ size h. h))
