-- A valid file is read.
use Rattle.std.proofs.Common.{ℕ, List, inl, inr}
use Rattle.dw_base.specs.declared.fault.Kind.{Kind}
use Rattle.dw_base.specs.declared.fault.Kind.TheVariants.{Companion}
use Rattle.dw_base.specs.declared.fault.Reach.{Reach}
use Rattle.elf_sections.specs.Faults.{NameFault, FirstFault}
use Rattle.value_links.specs.Faults.{FaultOfNames, IsValid}
use Rattle.value_links.specs.Faults.Pass.{OfFile, OfNames}

fault_of_names : (file : List ℕ) (kind : Kind) (place : ℕ) → NameFault file kind place → FaultOfNames file kind place
fault_of_names file Companion place fault = fault
fault_of_names file _ place fault = absurd fault

-- no fault of its image is named
pub no_first_fault : (file : List ℕ) (reach : Reach) (kind : Kind) (place : ℕ) → IsValid file reach → FirstFault file reach kind place → ⊥
no_first_fault file reach kind place valid (inl fault) = valid OfFile kind place fault
no_first_fault file reach kind place valid (inr (none, fault)) = valid OfNames kind place (fault_of_names file kind place fault)
