-- What is answered of the record of one part.
-- Inner functions and proofs alone need what stands here.
use Rattle.std.specs.Prelude.{ℕ, List, length, Option, Some, None}
use Rattle.list_lookup.specs.Maps.{AreMapsFor}
use Rattle.list_lookup.specs.Owned.{AreAllOwned}
use Rattle.value_links.specs.World.{World}
use Rattle.value_links.specs.Sections.{debug_line, debug_addr}
use Rattle.check_records.specs.declared.refused.Judge.{Judge}
use Rattle.leb_codec.specs.Records.{Record}
use Rattle.value_links.specs.Reading.{Reading}
use Rattle.value_links.specs.Whole.{IsReading}
use Rattle.check_records.specs.Parts.{Part}
use Rattle.check_records.specs.Accepted.{SaysOf, accepting, refusing}

-- None where a record is accepted, and else the first pair, item or slot by which it isn't
abbrev pub IsVerdictOn : List ℕ → Part → Record → Option ℕ → Type 0
IsVerdictOn written part one None = (s : Reading) → IsReading written s → SaysOf accepting (debug_line written) s part one
IsVerdictOn written part one (Some n) = (s : Reading) → IsReading written s → SaysOf (refusing n) (debug_line written) s part one

-- what the records of a file are judged by: the maps of its address tables, and the location lists that each unit owns
pub record IsJudgeOf (world : World) (judge : Judge) : Type 0 where
  pub maps : AreMapsFor world (debug_addr world.image) judge.maps
  pub owned : AreAllOwned world (length world.locations) judge.owned.items
