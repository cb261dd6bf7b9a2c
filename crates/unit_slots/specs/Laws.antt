-- Laws: the slots of the units of a file that is written anew stand in the bytes that their numbers need.
use Rattle.std.specs.Prelude.{◌<◌, ℕ, List, length}
use Rattle.leb_codec.specs.Layout.{SlotRow}
use Rattle.value_links.specs.Reading.{Reading}
use Rattle.value_links.specs.Whole.{IsReading}
use Rattle.written_files.specs.Layouts.{HasLayout, HaveLeastLayouts}
use Rattle.dw_base.specs.declared.classes.Classes.{Classes}
use Rattle.written_files.specs.Written.{IsWrittenAnew}
use Rattle.unit_slots.specs.Standing.{HasStandingSlots, HaveLeastStandingLayouts}

-- the sizes that the numbers of a unit's slots need are those that the slots have in the file
abbrev pub NeededSizesStand : List ℕ → Type 0
NeededSizesStand written =
    (s : Reading) → IsReading written s → (u : ℕ) → u < length s.links.units → (rows : List SlotRow) (sizes : List ℕ) → HasLayout s u rows sizes → HasStandingSlots s u rows sizes

abbrev pub WrittenSlotsStand : Type 0
WrittenSlotsStand = (classes : Classes) (file written : List ℕ) → IsWrittenAnew classes file written → NeededSizesStand written

-- So, where the needed sizes are the least of each unit's layout, those that stand are.
abbrev pub LeastLayoutsStand : Type 0
LeastLayoutsStand = (classes : Classes) (file written : List ℕ) → IsWrittenAnew classes file written → HaveLeastLayouts file written → HaveLeastStandingLayouts written
