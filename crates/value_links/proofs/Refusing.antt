-- A refusal for one reason is one for each that follows from it.
use Rattle.dw_base.specs.declared.fault.Fault.{Fault}
use Rattle.dw_base.specs.declared.fault.Refusal.{Refusal}
use Rattle.dw_base.specs.declared.fault.Refusal.TheVariants.{Refused, NoMemory}
use Rattle.dw_base.specs.Refusals.{IsRefusedFor}

pub refused_more : (P Q : Fault → Type 0) → ((fault : Fault) → P fault → Q fault) → (refusal : Refusal) → IsRefusedFor P refusal → IsRefusedFor Q refusal
refused_more P Q more (Refused fault) p = more fault p
refused_more P Q more NoMemory p = tt
