use Rattle.std.proofs.Common.{ℕ, ◌<◌}
use Rattle.entry_read.specs.Heads.{head_numbered}
use Rattle.value_links.proofs.units.check_offsets.Given as goal

abbrev pub invariant-loop-head : goal.invariant-loop-head
invariant-loop-head l = (u : ℕ) → u < l.head-index → (head_numbered l.heads u).table < l.size
