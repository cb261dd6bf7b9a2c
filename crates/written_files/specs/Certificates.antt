-- Certificates: the records that show, of each part of a file that was written, why nothing shorter is in its class. Parts that are kept
-- have none. They are judged by the written file alone. Of a line number program the runs are judged by its header, its rows and how many
-- bytes its opcodes have; of a list that isn't kept the potentials, by .debug_addr, its context, its items and how many bytes it has without
-- its expressions and their lengths; of a unit the ranks, by the rows and the sizes of its slots. The sizes are those that the numbers in the
-- slots need: that the slots have them is said of the forms of columns and of what is tidy, which a checker asks besides.
use Rattle.std.specs.Prelude.{◌≡◌, ◌<◌, ◌++◌, ℕ, List, [], length, map, slice_index_or, Some}
use Rattle.std.specs.List.{AllZip}
use Rattle.dw_base.specs.declared.classes.Classes.{Classes}
use Rattle.dw_base.specs.declared.record.Run.{Run}
use Rattle.leb_codec.specs.Layout.{SlotRow, AcceptsLayout, HasFirstRanks}
use Rattle.leb_codec.specs.Records.{Record, OfLines, OfList, OfLayout, SpellsFile}
use Rattle.line_machine.specs.declared.head.Head.{Head}
use Rattle.line_machine.specs.declared.registers.Row.{Row}
use Rattle.line_sums.specs.Accepted.{AreAcceptedRuns, AreLeastRuns}
use Rattle.list_model.specs.declared.context.Context.{Context}
use Rattle.list_model.specs.declared.entry.ListKind.{ListKind}
use Rattle.list_model.specs.declared.entry.ListKind.TheVariants.{Ranges, Locations}
use Rattle.list_model.specs.Contributions.{bytes_from}
use Rattle.list_model.specs.Entries.{Entry, AreSaid, SpellsList}
use Rattle.list_model.specs.Items.{Bounds, Give}
use Rattle.list_model.specs.Potentials.{AcceptsList, AreGreatest}
use Rattle.loc_lists.specs.Apart.{StandApart}
use Rattle.loc_lists.specs.Locations.{SpellsBehind}
use Rattle.written_files.specs.Kept.{IsKept, HaveRunsIn}
use Rattle.written_files.specs.Layouts.{AreNumbersOf, HasLayout}
use Rattle.value_links.specs.Lists.{IsOwner}
use Rattle.value_links.specs.Reading.{ListRead, Linkable, Reading, of_kind, lists_of, part_at, list_at, context_at}
use Rattle.value_links.specs.Sections.{debug_line}
use Rattle.value_links.specs.Whole.{IsReading}

-- LISTS

-- bytes are these entries of a list and its end; without the expressions behind the entries and their lengths they are others
abbrev pub IsListWithout : ListKind → List Entry → List ℕ → List ℕ → Type 0
IsListWithout Ranges entries bytes bare = SpellsList Ranges entries bytes × (bytes ≡ bare)
IsListWithout Locations entries bytes bare =
    (locations : List (Entry × List ℕ)) × (map (λ (location : Entry × List ℕ). location.0) locations ≡ entries) × StandApart SpellsBehind locations bytes bare

-- these are the bytes of a list without its expressions and their lengths, as it stands in its contribution
pub record HasBareBytes (kind : ListKind) (s : Linkable) (list : ListRead) (entries : List Entry) (bare : List ℕ) : Type 0 where
  pub bytes : List ℕ
  pub rest : List ℕ
  pub stands : bytes_from (of_kind s kind).section (part_at (of_kind s kind) list.part) list.at ≡ bytes ++ rest
  pub without : IsListWithout kind entries bytes bare

-- The potentials are judged by what the list with a number gives in the context of its owner, and by how many bytes it has without
-- its expressions and their lengths.
pub record ArePotentialsFor (Judge : List ℕ → Context → List Bounds → List ℕ → ℕ → Type 0) (kind : ListKind) (s : Reading) (k : ℕ) (potentials : List ℕ) : Type 0 where
  pub u : ℕ
  pub owner : IsOwner s.links kind (list_at (lists_of s kind) k).at (Some u)
  pub entries : List Entry
  pub said : AreSaid kind (list_at (lists_of s kind) k).raws entries
  pub bounds : List Bounds
  pub gives : Give s.links.addresses (context_at s.links u) entries bounds
  pub bare : List ℕ
  pub stands : HasBareBytes kind s.links (list_at (lists_of s kind) k) entries bare
  pub judged : Judge s.links.addresses (context_at s.links u) bounds potentials (length bare)

-- There are potentials for each list of a kind that isn't kept, in the order of their places.
abbrev pub HavePotentials : Classes → (List ℕ → Context → List Bounds → List ℕ → ℕ → Type 0) → ListKind → Reading → List (List ℕ) → Type 0
HavePotentials classes Judge kind s all =
    (numbers : List ℕ) × AreNumbersOf (λ (k : ℕ). ¬ IsKept classes s.links kind (list_at (lists_of s kind) k)) (length (lists_of s kind)) numbers × AllZip (ArePotentialsFor Judge kind s) numbers all

-- UNITS

-- the ranks are judged by the rows and the sizes of the slots of the unit with a number
abbrev pub AreRanksFor : (List SlotRow → List ℕ → List ℕ → Type 0) → Reading → ℕ → List ℕ → Type 0
AreRanksFor Judge s u ranks = (rows : List SlotRow) × (sizes : List ℕ) × HasLayout s u rows sizes × Judge rows sizes ranks

-- there are ranks for each unit, in the order in which they stand
pub record HaveRanks (Judge : List SlotRow → List ℕ → List ℕ → Type 0) (s : Reading) (all : List (List ℕ)) : Type 0 where
  pub count : length all ≡ length s.links.units
  pub each : (u : ℕ) → u < length s.links.units → AreRanksFor Judge s u (slice_index_or all u [])

-- THE CERTIFICATE OF A FILE

-- The records are those of the line number programs, of the range lists, of the location lists, and of the units, and no others.
pub record AreRecordsOf (classes : Classes) (JudgeRuns : Head → List Row → ℕ → List Run → Type 0) (JudgePotentials : List ℕ → Context → List Bounds → List ℕ → ℕ → Type 0) (JudgeRanks : List SlotRow → List ℕ → List ℕ → Type 0) (lines : List ℕ) (s : Reading) (records : List Record) : Type 0 where
  pub runs : List (List Run)
  pub has_runs : HaveRunsIn classes JudgeRuns lines runs
  pub ranges : List (List ℕ)
  pub has_ranges : HavePotentials classes JudgePotentials Ranges s ranges
  pub locations : List (List ℕ)
  pub has_locations : HavePotentials classes JudgePotentials Locations s locations
  pub ranks : List (List ℕ)
  pub has_ranks : HaveRanks JudgeRanks s ranks
  pub whole : records ≡ map OfLines runs ++ (map OfList ranges ++ (map OfList locations ++ map OfLayout ranks))

-- The bytes are a record file of the written file whose records are each accepted: no program and no list that isn't kept, and no layout, of
-- its class is shorter.
abbrev pub IsCertificate : Classes → List ℕ → List ℕ → Type 0
IsCertificate classes written certificate =
    (s : Reading) × (records : List Record) × IsReading written s × AreRecordsOf classes AreAcceptedRuns AcceptsList AcceptsLayout (debug_line written) s records × SpellsFile classes records certificate

-- potentials that are accepted, and each is the greatest that is before those behind it
abbrev pub AreGreatestOf : List ℕ → Context → List Bounds → List ℕ → ℕ → Type 0
AreGreatestOf addresses context bounds potentials size = AcceptsList addresses context bounds potentials size × AreGreatest addresses context bounds potentials

-- ranks that are accepted, and each is the first by which its step is needed
abbrev pub AreFirstRanks : List SlotRow → List ℕ → List ℕ → Type 0
AreFirstRanks rows sizes ranks = AcceptsLayout rows sizes ranks × HasFirstRanks rows sizes ranks

-- Which of several certificates that are accepted it is: the one with the least number for each pair, the greatest potentials, and the
-- first ranks.
abbrev pub IsFirstCertificate : Classes → List ℕ → List ℕ → Type 0
IsFirstCertificate classes written certificate =
    (s : Reading) × (records : List Record) × IsReading written s × AreRecordsOf classes AreLeastRuns AreGreatestOf AreFirstRanks (debug_line written) s records × SpellsFile classes records certificate
