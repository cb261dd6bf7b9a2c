use Rattle.std.proofs.Common.{◌≡◌, ◌+◌, ap, ◌∙◌, rules}
use Rattle.leb_codec.specs.Leb.{least_unsigned_len}
use Rattle.line_sums.proofs.FixedBytes.{no_discriminator, some_discriminator}
use Rattle.line_sums.proofs.fixed.discriminator.Goals as goal

pub returns-then-value-eq0-clause-is : goal.returns-then-value-eq0-clause-is
returns-then-value-eq0-clause-is c = no_discriminator c.args.value c.if-value-eq0.true

pub returns-else-value-eq0-clause-is : goal.returns-else-value-eq0-clause-is
returns-else-value-eq0-clause-is c =
    let len : c.from.result ≡ least_unsigned_len c.args.value = search (rules, c.len_u.ensures.least) in
    ap (λ n. 3 + n) len ∙ some_discriminator c.args.value c.if-value-eq0.false
