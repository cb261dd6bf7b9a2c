-- How a refusal ends the work.
use Rattle.dw_base.specs.declared.fault.Refusal.{Refusal}
use Rattle.dw_base.specs.declared.fault.Refusal.TheVariants.{Refused as RefusedFor, NoMemory as NoRoom}
use Rattle.commands.specs.declared.ending.Ending.{Ending}
use Rattle.commands.specs.declared.ending.Ending.TheVariants.{Refused, NoMemory}

-- a refusal ends the work with its fault
abbrev pub ending_of : Refusal → Ending
ending_of (RefusedFor fault) = Refused fault
ending_of NoRoom = NoMemory
