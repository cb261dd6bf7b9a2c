-- The debug sections of what is drawn.
use Rattle.std.specs.Prelude.{◌≡◌, ℕ, List, ◌++◌, length}
use Rattle.sample_maker.specs.declared.units.Sections.{Sections}
use Rattle.sample_maker.specs.Drawn.{UnitDrawn}
use Rattle.sample_maker.specs.inside.Files.{info_bytes, lines_bytes, ranges_bytes, locations_bytes, sets_bytes}

-- the sections of these units
pub record AreSections (units : List UnitDrawn) (s : Sections) : Type 0 where
  pub info : s.info.items ≡ info_bytes 0 0 0 0 units
  pub lines : s.lines.items ≡ lines_bytes 0 units
  pub ranges : s.ranges.items ≡ ranges_bytes 0 units
  pub locations : s.locations.items ≡ locations_bytes units
  pub aranges : s.aranges.items ≡ sets_bytes 0 0 0 0 0 units

-- with what units add of which the first has the number `u`, they are the sections of all units
pub record LackUnits (all left : List UnitDrawn) (u : ℕ) (s : Sections) : Type 0 where
  pub info : s.info.items ++ info_bytes u (length s.lines.items) (length s.locations.items) (length s.ranges.items) left ≡ info_bytes 0 0 0 0 all
  pub lines : s.lines.items ++ lines_bytes u left ≡ lines_bytes 0 all
  pub ranges : s.ranges.items ++ ranges_bytes u left ≡ ranges_bytes 0 all
  pub locations : s.locations.items ++ locations_bytes left ≡ locations_bytes all
  pub aranges : s.aranges.items ++ sets_bytes (length s.info.items) u (length s.lines.items) (length s.locations.items) (length s.ranges.items) left ≡ sets_bytes 0 0 0 0 0 all
