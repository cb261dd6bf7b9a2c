use Rattle.std.proofs.Common.{◌≡◌}
use Rattle.abbrev_numbering.specs.inside.Order.{used_among}
use Rattle.abbrev_numbering.proofs.used.Given as goal

abbrev pub invariant-loop-place : goal.invariant-loop-place
invariant-loop-place l = l.order.items ≡ used_among l.uses l.place
