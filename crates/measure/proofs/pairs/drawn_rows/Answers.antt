use Rattle.std.proofs.Common.{refl}
use Rattle.measure.proofs.PairRows.{rows_end}
use Rattle.measure.proofs.pairs.drawn_rows.Goals as goal

pub returns : goal.returns
returns c = rw c.in_ok-push-2.ensures.items (rows_end c.loop.rows.items _ c.loop.invariant.each refl refl)
