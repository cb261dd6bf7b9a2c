use Rattle.std.proofs.Common.{take}
use Rattle.check_records.specs.inside.Parts.{parts_of}
use Rattle.check_records.proofs.RefusedLaws.{AcceptedUpTo}
use Rattle.check_records.proofs.refused.first_refused.Given as goal

abbrev pub invariant-loop-number : goal.invariant-loop-number
invariant-loop-number l = AcceptedUpTo l.fn.classes l.written.image l.certificate l.at (take l.number (parts_of l.part-items))
