-- What holds of what is read of two files.
use Rattle.value_links.specs.Reading.{Reading}
use Rattle.value_links.specs.Whole.{IsReading}
use Rattle.value_links.specs.World.{World, Holds}

-- this holds of what is read of both files
abbrev pub OfBoth : World → World → (Reading → Reading → Type 0) → Type 0
OfBoth a b P =
    (r s : Reading) → IsReading a.image r → Holds a.image a r → IsReading b.image s → Holds b.image b s → P r s
