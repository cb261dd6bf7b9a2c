use Rattle.std.proofs.Common.{ℕ, ◌<◌}
use Rattle.same_meaning.specs.Kept.{SectionDiffers}
use Rattle.same_meaning.proofs.kept.first_section.Given as goal

abbrev pub invariant-loop-section : goal.invariant-loop-section
invariant-loop-section l = (i : ℕ) → i < l.section → SectionDiffers l.before.image l.after.image i → ⊥
