-- What holds of what is read of a file.
use Rattle.value_links.specs.Reading.{Reading}
use Rattle.value_links.specs.Whole.{IsReading}
use Rattle.value_links.specs.World.{World, Holds}

-- this holds of what is read of the file
abbrev pub OfReading : World → (Reading → Type 0) → Type 0
OfReading world P = (s : Reading) → IsReading world.image s → Holds world.image world s → P s
