use Rattle.std.proofs.Common.{◌≡◌, ◌<◌, ℕ}
use Rattle.value_links.specs.inside.Links.{program_among}
use Rattle.tidy_files.proofs.programs.first_other_program.Given as goal

abbrev pub invariant-loop-head : goal.invariant-loop-head
invariant-loop-head l = (k : ℕ) → k < l.head-index → (program_among l.world.programs k).opcode_base ≡ 13
