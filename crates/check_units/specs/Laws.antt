-- What the verdict on a record shows.
use Rattle.std.specs.Prelude.{◌≡◌, ℕ, List}
use Rattle.leb_codec.specs.Layout.{SlotRow, AcceptsLayout, IsLayout, IsLowestLayout, IsLeastLayout}
use Rattle.slot_layout.specs.Rows.{CanBeSizes, IsTight}
use Rattle.check_units.specs.Refused.{IsFirstRefused}

-- Sizes whose record is accepted are slot by slot at most those of each layout.
abbrev pub AcceptedAreLowest : Type 0
AcceptedAreLowest =
    (rows : List SlotRow) (sizes ranks : List ℕ) →
    CanBeSizes rows sizes →
    AcceptsLayout rows sizes ranks →
    IsLowestLayout rows sizes

-- Where they are a layout, no layout has fewer bytes.
abbrev pub AcceptedAreLeast : Type 0
AcceptedAreLeast =
    (rows : List SlotRow) (sizes ranks : List ℕ) →
    CanBeSizes rows sizes →
    AcceptsLayout rows sizes ranks →
    IsLayout rows sizes →
    IsLeastLayout rows sizes

-- Each slot has just the bytes that its number needs then: a slot with a byte too many isn't accepted.
abbrev pub AcceptedAreTight : Type 0
AcceptedAreTight =
    (rows : List SlotRow) (sizes ranks : List ℕ) →
    CanBeSizes rows sizes →
    AcceptsLayout rows sizes ranks →
    IsTight rows sizes

-- No record is both accepted and refused.
abbrev pub NeverBoth : Type 0
NeverBoth =
    (rows : List SlotRow) (sizes ranks : List ℕ) (i : ℕ) → IsFirstRefused rows sizes ranks i → AcceptsLayout rows sizes ranks → ⊥

-- A record is refused by one slot.
abbrev pub OneRefused : Type 0
OneRefused =
    (rows : List SlotRow) (sizes ranks : List ℕ) (i j : ℕ) →
    IsFirstRefused rows sizes ranks i →
    IsFirstRefused rows sizes ranks j →
    i ≡ j
