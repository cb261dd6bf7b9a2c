-- The slots of a unit stand in a file in one way.
use Rattle.std.proofs.Common.{◌≡◌, ◌<◌, ℕ, List, length, subst}
use Rattle.leb_codec.specs.Layout.{SlotRow}
use Rattle.written_files.specs.Layouts.{HasSlots}
use Rattle.value_links.specs.Reading.{Reading}
use Rattle.value_links.specs.Whole.{IsReading}
use Rattle.unit_slots.specs.Standing.{HasStandingSlots}
use Rattle.unit_slots.proofs.RowsOnce.{rows_once}
use Rattle.unit_slots.proofs.SizesOnce.{sizes_once}

pub standing_once : (written : List ℕ) (s : Reading) → IsReading written s → (u : ℕ) → u < length s.links.units → (rows others : List SlotRow) (sizes more : List ℕ) → HasStandingSlots s u rows sizes → HasStandingSlots s u others more → (rows ≡ others) × (sizes ≡ more)
standing_once written s read u known rows others sizes more p q =
    let same : sizes ≡ more = sizes_once written s read u known rows others sizes more p q in
    let slots : HasSlots s u rows more = subst (λ (z : List ℕ). HasSlots s u rows z) same p.slots in
    (rows_once written s read u known rows others more slots q.slots, same)
