-- The certificate of a file that is written anew has the records of all its parts.
use Rattle.std.proofs.Common.{◌++◌, ℕ, List, map, refl}
use Rattle.dw_base.specs.declared.classes.Classes.{Classes}
use Rattle.spelled.specs.Spelled.{Joined}
use Rattle.spelled.proofs.Joins.{joined_append}
use Rattle.dw_base.specs.declared.record.Run.{Run}
use Rattle.leb_codec.specs.Layout.{SlotRow}
use Rattle.leb_codec.specs.Records.{Record, OfLines, OfList, OfLayout, SpellsRecord, SpellsFile}
use Rattle.line_machine.specs.declared.head.Head.{Head}
use Rattle.line_machine.specs.declared.registers.Row.{Row}
use Rattle.line_sums.specs.Accepted.{AreAcceptedRuns, AreLeastRuns}
use Rattle.line_write.specs.Records.{AreRunsFor, HaveRuns}
use Rattle.list_model.specs.declared.context.Context.{Context}
use Rattle.list_model.specs.declared.entry.ListKind.TheVariants.{Ranges, Locations}
use Rattle.list_model.specs.Items.{Bounds}
use Rattle.unit_write.specs.declared.places.Places.{Places}
use Rattle.written_files.specs.Kept.{HaveRunsIn}
use Rattle.written_files.specs.Certificates.{HavePotentials, HaveRanks, AreRecordsOf}
use Rattle.value_links.specs.Reading.{Reading}
use Rattle.value_links.specs.World.{World}
use Rattle.rewriter.specs.declared.tables.NewTable.{NewTable}
use Rattle.rewriter.specs.inside.Recorded.{IsRecorded}
use Rattle.rewriter.proofs.Zips.{zip_weaker}

-- The least number that is accepted for a pair is accepted.
accepted_runs : (section : List ℕ) (head : Head) (runs : List Run) → AreRunsFor AreLeastRuns section head runs → AreRunsFor AreAcceptedRuns section head runs
accepted_runs section head runs are =
    let least = are.judged in
    record {
      rows = are.rows;
      given = are.given;
      judged = record {
        counted = least.counted;
        ordered = least.ordered;
        whole = least.whole;
        accepted = λ pair inside. (least.least pair inside).accepted;
      };
    }

have_accepted_runs : (section : List ℕ) (all : List (List Run)) → HaveRuns AreLeastRuns section all → HaveRuns AreAcceptedRuns section all
have_accepted_runs section all (heads, tile, zip) =
    (heads, tile, zip_weaker (AreRunsFor AreLeastRuns section) (AreRunsFor AreAcceptedRuns section) (accepted_runs section) heads all zip)

pub accepted_runs_in : (classes : Classes) (section : List ℕ) (all : List (List Run)) → HaveRunsIn classes AreLeastRuns section all → HaveRunsIn classes AreAcceptedRuns section all
accepted_runs_in classes section all are = record { searched = λ lines. have_accepted_runs section all (are.searched lines); kept = are.kept }

-- The parts of a certificate are one record file, whatever is asked of the records.
module _ {classes : Classes} {world : World} {r : Reading} {tables : List NewTable} {places : List Places} {section certificate : List ℕ} (recorded : IsRecorded classes world r tables places section certificate) where
  abbrev records_in : List Record
  records_in = map OfLines recorded.runs ++ (map OfList recorded.has_ranges.potentials ++ (map OfList recorded.has_locations.potentials ++ map OfLayout recorded.has_ranks.all))

  spelled_in : Joined SpellsRecord records_in (recorded.lines ++ (recorded.ranges ++ (recorded.locations ++ recorded.units)))
  spelled_in =
      joined_append SpellsRecord (map OfLines recorded.runs) _ recorded.lines _ recorded.runs_spelled
      (joined_append SpellsRecord (map OfList recorded.has_ranges.potentials) _ recorded.ranges _ recorded.has_ranges.spelled
      (joined_append SpellsRecord (map OfList recorded.has_locations.potentials) (map OfLayout recorded.has_ranks.all) recorded.locations recorded.units recorded.has_locations.spelled recorded.has_ranks.spelled))

  pub record_file : {JudgeRuns : Head → List Row → ℕ → List Run → Type 0} {JudgePotentials : List ℕ → Context → List Bounds → List ℕ → ℕ → Type 0} {JudgeRanks : List SlotRow → List ℕ → List ℕ → Type 0} (lines : List ℕ) (s : Reading) → HaveRunsIn classes JudgeRuns lines recorded.runs → HavePotentials classes JudgePotentials Ranges s recorded.has_ranges.potentials → HavePotentials classes JudgePotentials Locations s recorded.has_locations.potentials → HaveRanks JudgeRanks s recorded.has_ranks.all → (records : List Record) × AreRecordsOf classes JudgeRuns JudgePotentials JudgeRanks lines s records × SpellsFile classes records certificate
  record_file lines s of_lines of_ranges of_locations of_units = (
    records_in,
    record {
      runs = recorded.runs;
      has_runs = of_lines;
      ranges = recorded.has_ranges.potentials;
      has_ranges = of_ranges;
      locations = recorded.has_locations.potentials;
      has_locations = of_locations;
      ranks = recorded.has_ranks.all;
      has_ranks = of_units;
      whole = refl;
    },
    (recorded.lines ++ (recorded.ranges ++ (recorded.locations ++ recorded.units)), spelled_in, recorded.whole),
  )
