-- The line that says what writing a file anew wins.
use Rattle.std.specs.Prelude.{◌≡◌, ◌++◌, ℕ, List, length, codes, Option, option_map}
use Rattle.std.specs.Option.{ForSome}
use Rattle.std.specs.List.{sum_by}
use Rattle.std.specs.Fmt.{decimal}
use Rattle.dw_base.specs.declared.classes.Classes.{Classes}
use Rattle.line_write.specs.Meaning.{ProgramMeaning}
use Rattle.list_model.specs.declared.entry.ListKind.TheVariants.{Ranges, Locations}
use Rattle.value_links.specs.Debug.{Debug, UnitMeaning, Means}
use Rattle.value_links.specs.Sections.{debug_info, debug_abbrev, debug_line, debug_lists}
use Rattle.dw_base.specs.Host.{AddsPart}
use Rattle.commands.specs.File.{IsValid, IsWhole}

-- what a file means in numbers: its entries over all units, the rows of its line number programs, those that end sequences too, and its
-- units
abbrev pub entry_count : Debug → ℕ
entry_count debug = sum_by (λ (unit : UnitMeaning). length unit.forest) debug.units

abbrev pub row_count : Debug → ℕ
row_count debug = sum_by (λ (program : ProgramMeaning). length program.rows) debug.programs

abbrev pub unit_count : Debug → ℕ
unit_count debug = length debug.units

-- the bytes of a section in both files, as a JSON array behind its key
abbrev pub sizes_text : List ℕ → List ℕ → List ℕ → List ℕ
sizes_text key old new = key ++ codes "[" ++ decimal (length old) ++ codes "," ++ decimal (length new) ++ codes "]"

-- One line of JSON, of a file, of the one that is written for it, and of what both mean: an object with its keys in alphabetical order.
abbrev pub summary_text : List ℕ → List ℕ → Debug → List ℕ
summary_text file written debug =
    sizes_text (codes "{\"abbrev\":") (debug_abbrev file) (debug_abbrev written)
    ++ codes ",\"entries\":" ++ decimal (entry_count debug)
    ++ sizes_text (codes ",\"info\":") (debug_info file) (debug_info written)
    ++ sizes_text (codes ",\"line\":") (debug_line file) (debug_line written)
    ++ sizes_text (codes ",\"loclists\":") (debug_lists file Locations) (debug_lists written Locations)
    ++ sizes_text (codes ",\"rnglists\":") (debug_lists file Ranges) (debug_lists written Ranges)
    ++ codes ",\"rows\":" ++ decimal (row_count debug)
    ++ codes ",\"units\":" ++ decimal (unit_count debug)
    ++ codes "}\n"

-- a valid file, one that may be written for it, and what it means
pub record IsSummed (classes : Classes) (file written : List ℕ) (debug : Debug) : Type 0 where
  pub valid : IsValid file
  pub whole : IsWhole classes file written
  pub means : Means file debug

-- what was said is that line, of a file which is the one that is told, if it is
abbrev pub SaysSummary : Classes → Option (List ℕ) → Option (List ℕ) → Option (List ℕ) → Type 0
SaysSummary classes told before now =
    (file : List ℕ) × (written : List ℕ) × (debug : Debug) × (ForSome told (λ b. file ≡ b)) × IsSummed classes file written debug × (now ≡ option_map (λ b. b ++ summary_text file written debug) before)

-- or some front of it
abbrev pub SaysSummaryPart : Classes → Option (List ℕ) → Option (List ℕ) → Option (List ℕ) → Type 0
SaysSummaryPart classes told before now =
    (file : List ℕ) × (written : List ℕ) × (debug : Debug) × (ForSome told (λ b. file ≡ b)) × IsSummed classes file written debug × AddsPart before (summary_text file written debug) now
