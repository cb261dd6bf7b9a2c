use Rattle.std.specs.Prelude.{Contains, take}
use Rattle.column_forms.specs.inside.Tallies.{AreFound}
use Rattle.column_forms.proofs.tally.candidates_for.Given as goal

abbrev pub invariant-loop-code : goal.invariant-loop-code
invariant-loop-code l = AreFound l.fn.name l.fn.constant l.fn.value (Contains (take l.code-index l.codes)) l.candidates.items
