-- What the address of a step takes under a line_range, as it is kept. Private functions alone cite this. `scale` is
-- minimum_instruction_length.
use Rattle.std.specs.Prelude.{◌≡◌, ◌≤◌, ◌<◌, ℕ, List, length, All}
use Rattle.leb_codec.specs.LineCosts.{IsLeastCost, AdvanceWithin}
use Rattle.line_sums.specs.declared.ways.Way.{Way}
use Rattle.line_sums.specs.inside.Windows.{AreWindows}

-- what the way tells is right for the distance under the line_range
pub record IsWay (range scale distance : ℕ) (way : Way) : Type 0 where
  pub windows : AreWindows range scale distance way.windows
  pub wide_few : way.windows.wide.address ≤ 11
  pub last_few : way.windows.last.address ≤ 11
  pub advance : IsLeastCost (AdvanceWithin range scale distance) way.advance
  pub few : way.advance ≤ 11

-- a way that is kept is right for the distance and the line_range that it names
pub record IsKept (scale : ℕ) (way : Way) : Type 0 where
  pub some : 0 < way.range
  pub right : IsWay way.range scale way.distance way

-- a kept way at each of the places
pub record AreKept (scale : ℕ) (ways : List Way) : Type 0 where
  pub some : 0 < scale
  pub size : length ways ≡ 128
  pub each : All (IsKept scale) ways
