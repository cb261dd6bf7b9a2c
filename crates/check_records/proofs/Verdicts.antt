-- What is answered of a record, from what its part's checker says.
use Rattle.std.proofs.Common.{ℕ, List, refl}
use Rattle.std.specs.Prelude.{◌↔◌, Option, Some, None, Result, Ok, Err, IsNone, IfSome, IfOk}
use Rattle.leb_codec.specs.Layout.{SlotRow, AcceptsLayout}
use Rattle.leb_codec.specs.Records.{OfLayout}
use Rattle.check_units.specs.Refused.{IsFirstRefused as IsFirstRefusedSlot}
use Rattle.unit_slots.specs.Standing.{HasStandingSlots}
use Rattle.value_links.specs.Reading.{Reading}
use Rattle.value_links.specs.Whole.{IsReading}
use Rattle.check_records.specs.Parts.{AUnit}
use Rattle.check_records.specs.inside.Judged.{IsVerdictOn}

module _ (written : List ℕ) (u : ℕ) (rows : List SlotRow) (sizes ranks : List ℕ) (stand : (s : Reading) → IsReading written s → HasStandingSlots s u rows sizes) where
  unit_told : (o : Option ℕ) → IsNone o ↔ AcceptsLayout rows sizes ranks → IfSome o (IsFirstRefusedSlot rows sizes ranks) → IsVerdictOn written (AUnit u) (OfLayout ranks) o
  unit_told None accepted first = λ s read. (rows, sizes, stand s read, accepted.0 refl)
  unit_told (Some n) accepted first = λ s read. (rows, sizes, stand s read, first)

  pub unit_verdict : {E : Type 0} (r : Result (Option ℕ) E) → IfOk r (λ o. IsNone o ↔ AcceptsLayout rows sizes ranks) → IfOk r (λ o. IfSome o (IsFirstRefusedSlot rows sizes ranks)) → IfOk r (IsVerdictOn written (AUnit u) (OfLayout ranks))
  unit_verdict (Ok o) accepted first = unit_told o accepted first
  unit_verdict (Err e) accepted first = tt
