use Rattle.std.proofs.Common.{◌≡◌, ◌+◌, ap, ◌∙◌, rules}
use Rattle.leb_codec.specs.Leb.{least_unsigned_len}
use Rattle.line_sums.proofs.FixedBytes.{register_same, register_other}
use Rattle.line_sums.proofs.fixed.register.Goals as goal

pub returns-then-from-to-clause-is : goal.returns-then-from-to-clause-is
returns-then-from-to-clause-is c = register_same c.args.from c.args.to c.if-from-to.true

pub returns-else-from-to-clause-is : goal.returns-else-from-to-clause-is
returns-else-from-to-clause-is c =
    let len : c.from.result ≡ least_unsigned_len c.args.to = search (rules, c.len_u.ensures.least) in
    ap (λ n. 1 + n) len ∙ register_other c.args.from c.args.to c.if-from-to.false
