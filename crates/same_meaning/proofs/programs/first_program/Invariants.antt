use Rattle.std.proofs.Common.{ℕ, ◌<◌}
use Rattle.same_meaning.proofs.ProgramMeanings.{MeanSameAt}
use Rattle.same_meaning.proofs.programs.first_program.Given as goal

abbrev pub invariant-loop-program : goal.invariant-loop-program
invariant-loop-program l = (p : ℕ) → p < l.program → MeanSameAt l.before l.after p
