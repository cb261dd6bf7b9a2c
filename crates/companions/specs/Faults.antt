-- The faults of sets of address ranges, as conditions on the bytes. Places count from the section's first byte.
use Rattle.std.specs.Prelude.{◌≡◌, ◌<◌, ℕ, List, length}
use Rattle.dw_base.specs.declared.fault.Kind.{Kind}
use Rattle.dw_base.specs.declared.fault.Kind.TheVariants.{Short, Aranges as NoAranges}
use Rattle.companions.specs.declared.set.ArangeSet.{ArangeSet}
use Rattle.companions.specs.Aranges.{HasSet, SetsFollow}
use Rattle.fixed_width.specs.InitialLengths.{IsWhole, LeavesSection}

-- The set at a place has a fault. It is Short where the set leaves the section, and Aranges where it is whole and breaks
-- another rule of sets.
abbrev pub FaultSet : List ℕ → List ℕ → ℕ → Kind → ℕ → Type 0
FaultSet section starts at Short place = (place ≡ at) × LeavesSection section at
FaultSet section starts at NoAranges place = (place ≡ at) × IsWhole section at × (¬ HasSet section starts at)
FaultSet section starts at _ place = ⊥

-- After sets that are the section's front, another begins at a place and has a fault.
pub record FaultSets (section starts : List ℕ) (kind : Kind) (place : ℕ) : Type 0 where
  pub sets : List ArangeSet
  pub at : ℕ
  pub front : SetsFollow section starts sets 0 at
  pub inside : at < length section
  pub fault : FaultSet section starts at kind place
