-- The certificate of a file that is written anew, by its parts.
use Rattle.std.specs.Prelude.{◌≡◌, ◌++◌, ℕ, List, map}
use Rattle.dw_base.specs.declared.classes.Classes.{Classes}
use Rattle.spelled.specs.Spelled.{Joined}
use Rattle.dw_base.specs.declared.record.Run.{Run}
use Rattle.leb_codec.specs.Records.{OfLines, SpellsRecord, magic}
use Rattle.line_sums.specs.Accepted.{AreLeastRuns}
use Rattle.list_model.specs.declared.entry.ListKind.TheVariants.{Ranges, Locations}
use Rattle.unit_write.specs.declared.places.Places.{Places}
use Rattle.value_links.specs.Reading.{Reading}
use Rattle.value_links.specs.World.{World}
use Rattle.written_files.specs.Kept.{HaveRunsIn}
use Rattle.rewriter.specs.declared.tables.NewTable.{NewTable}
use Rattle.rewriter.specs.inside.Lists.{AreListsRecorded}
use Rattle.rewriter.specs.inside.Placed.{AreRanksOf}

-- It has the records of the line number programs of a new section, then of the range lists, of the location lists and of the units.
pub record IsRecorded (classes : Classes) (world : World) (r : Reading) (tables : List NewTable) (places : List Places) (section certificate : List ℕ) : Type 0 where
  pub lines : List ℕ
  pub ranges : List ℕ
  pub locations : List ℕ
  pub units : List ℕ
  pub whole : certificate ≡ magic classes ++ (lines ++ (ranges ++ (locations ++ units)))
  pub runs : List (List Run)
  pub has_runs : HaveRunsIn classes AreLeastRuns section runs
  pub runs_spelled : Joined SpellsRecord (map OfLines runs) lines
  pub has_ranges : AreListsRecorded classes r Ranges ranges
  pub has_locations : AreListsRecorded classes r Locations locations
  pub has_ranks : AreRanksOf world tables places units
