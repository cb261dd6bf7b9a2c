use Rattle.std.proofs.Common.{take}
use Rattle.check_records.specs.inside.Parts.{parts_of}
use Rattle.check_records.proofs.StrayLaws.{Matched}
use Rattle.check_records.proofs.strays.first_stray.Given as goal

abbrev pub invariant-loop-part : goal.invariant-loop-part
invariant-loop-part l = Matched l.fn.classes l.certificate l.at (take l.part-index (parts_of l.part-items))
