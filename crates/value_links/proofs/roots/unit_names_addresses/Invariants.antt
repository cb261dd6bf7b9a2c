use Rattle.std.proofs.Common.{◌<◌, ℕ}
use Rattle.value_links.specs.inside.Checks.{HasAddrBaseIn}
use Rattle.value_links.proofs.roots.unit_names_addresses.Given as goal

abbrev pub invariant-loop-id : goal.invariant-loop-id
invariant-loop-id l = (id : ℕ) → id < l.id → ¬ HasAddrBaseIn l.unit l.table id
