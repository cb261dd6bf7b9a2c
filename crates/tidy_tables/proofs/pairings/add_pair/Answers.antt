use Rattle.std.proofs.Common.{◌∙◌, sym}
use Rattle.tidy_tables.proofs.PairLaws.{written_apart}
use Rattle.tidy_tables.proofs.pairings.add_pair.Goals as goal

pub returns-then-is_some : goal.returns-then-is_some
returns-then-is_some c =
    written_apart c.args.pairings.now c.requires c.args.old c.args.written c.partner-2.result (sym c.partner.ensures ∙ c.in_default.is) c.partner-2.ensures (sym c.is_some.ensures ∙ c.if-is_some.true)
