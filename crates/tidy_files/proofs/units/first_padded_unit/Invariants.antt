use Rattle.std.proofs.Common.{◌<◌, ℕ}
use Rattle.entry_read.specs.Units.{end_of}
use Rattle.value_links.specs.Links.{held_at}
use Rattle.tidy_files.specs.inside.Paddings.{IsTreeEnd}
use Rattle.tidy_files.proofs.units.first_padded_unit.Given as goal

abbrev pub invariant-loop-unit : goal.invariant-loop-unit
invariant-loop-unit l = (k : ℕ) → k < l.unit-index → IsTreeEnd (held_at l.world.units k) (end_of (held_at l.world.units k).head)
