use Rattle.std.specs.Prelude.{◌≡◌}
use Rattle.list_least.specs.inside.Lookups.{addresses_among}
use Rattle.list_least.proofs.map.addresses_in.Given as goal

abbrev pub invariant-loop-index : goal.invariant-loop-index
invariant-loop-index l = l.all.items ≡ addresses_among l.addr l.table l.index
