use Rattle.std.proofs.Common.{◌≡◌}
use Rattle.abbrev_tables.specs.Written.{used_among}
use Rattle.abbrev_tables.proofs.write.used.Given as goal

abbrev pub invariant-loop-place : goal.invariant-loop-place
invariant-loop-place l = l.order.items ≡ used_among l.numbers l.place
