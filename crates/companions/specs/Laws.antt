-- Laws of sets of address ranges.
use Rattle.std.specs.Prelude.{◌≡◌, List, ℕ}
use Rattle.companions.specs.declared.set.ArangeSet.{ArangeSet}
use Rattle.companions.specs.Aranges.{AreRising, SetsTile}
use Rattle.companions.specs.Faults.{FaultSets}
use Rattle.dw_base.specs.Refusals.{IsFaulty}

-- Sets tile a section in one way, where no two units begin at one place.
abbrev pub OneTiling : Type 0
OneTiling = (section starts : List ℕ) (sets others : List ArangeSet) → AreRising starts → SetsTile section starts sets → SetsTile section starts others → sets ≡ others

-- Sets that tile a section have no fault.
abbrev pub SetsWhole : Type 0
SetsWhole = (section starts : List ℕ) (sets : List ArangeSet) → SetsTile section starts sets → ¬ IsFaulty (FaultSets section starts)
