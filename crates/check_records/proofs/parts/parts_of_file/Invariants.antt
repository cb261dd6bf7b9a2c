use Rattle.std.proofs.Common.{◌≡◌, ◌++◌, map}
use Rattle.check_records.specs.declared.parts.Part.TheVariants.{Program, Unit as AUnit}
use Rattle.check_records.specs.Parts.{numbers_below}
use Rattle.check_records.proofs.parts.parts_of_file.Given as goal

abbrev pub invariant-loop-number : goal.invariant-loop-number
invariant-loop-number l = l.parts.items ≡ map Program (numbers_below l.number)

abbrev pub invariant-loop-number-2 : goal.invariant-loop-number-2
invariant-loop-number-2 l = l.parts.items ≡ l.initial.parts.items ++ map AUnit (numbers_below l.number)
