use Rattle.column_forms.specs.inside.Choices.{IsBest}
use Rattle.column_forms.proofs.choice.best_of.Given as goal

abbrev pub invariant-loop-i : goal.invariant-loop-i
invariant-loop-i l = IsBest l.fn.classes l.fn.name l.fn.candidates l.fn.constant l.fn.input l.i l.best
