use Rattle.std.proofs.Common.{ℕ, ◌<◌}
use Rattle.same_meaning.specs.Kept.{HasByte}
use Rattle.same_meaning.proofs.kept.section_with.Given as goal

abbrev pub invariant-loop-section : goal.invariant-loop-section
invariant-loop-section l = (i : ℕ) → i < l.section → ¬ HasByte l.image i l.place
