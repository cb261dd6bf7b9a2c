use Rattle.std.proofs.Common.{◌-◌, length}
use Rattle.line_machine.specs.Heads.{program_of}
use Rattle.same_meaning.proofs.CursorRows.{HaveGivenSame}
use Rattle.same_meaning.proofs.programs.give_same_rows.Given as goal

abbrev pub invariant-loop-first : goal.invariant-loop-first
invariant-loop-first l = HaveGivenSame l.before l.old l.after l.new l.first l.second

abbrev pub decreases-loop-first : goal.decreases-loop-first
decreases-loop-first l = length (program_of l.before l.old) - l.first.place.at
