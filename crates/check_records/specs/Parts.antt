-- The parts of a written file for which its certificate has a record each, in the order of the records: the line number programs, unless the
-- classes keep them, the range lists and then the location lists that aren't kept, and the units (DWARF 5 sections 2.6.2, 2.17.3, 6.2 and 7.5).
use Rattle.std.specs.Prelude.{◌≡◌, ℕ, zero, suc, List, [], ◌∷◌, ◌++◌, length, map, if◌then◌else◌, ⊤}
use Rattle.std.specs.List.{AllZip}
use Rattle.dw_base.specs.declared.classes.Classes.{Classes}
use Rattle.leb_codec.specs.Records.{Record, OfLines, OfList, OfLayout, SpellsFile}
use Rattle.list_model.specs.declared.entry.ListKind.{ListKind}
use Rattle.list_model.specs.declared.entry.ListKind.TheVariants.{Ranges, Locations}
use Rattle.written_files.specs.Layouts.{AreNumbersOf}
use Rattle.written_files.specs.Kept.{IsKept}
use Rattle.value_links.specs.Reading.{Reading, lists_of, list_at}
use Rattle.value_links.specs.Whole.{IsReading}

-- the line number program with a number, the list of a kind with a number, and the unit with a number
pub data Part : Type 0 where
  AProgram : ℕ → Part
  AList : ListKind → ℕ → Part
  AUnit : ℕ → Part

-- the numbers below a count, rising
abbrev pub numbers_below : ℕ → List ℕ
numbers_below zero = []
numbers_below (suc n) = numbers_below n ++ n ∷ []

-- the numbers of the lists of a kind that aren't kept
abbrev pub AreSearched : Classes → ListKind → Reading → List ℕ → Type 0
AreSearched classes kind s numbers = AreNumbersOf (λ (k : ℕ). ¬ IsKept classes s.links kind (list_at (lists_of s kind) k)) (length (lists_of s kind)) numbers

-- how many line number programs have records
abbrev pub program_count : Classes → Reading → ℕ
program_count classes s = if classes.lines then length s.links.programs else 0

-- the parts of a file
pub record AreParts (classes : Classes) (s : Reading) (parts : List Part) : Type 0 where
  pub ranges : List ℕ
  pub searched_ranges : AreSearched classes Ranges s ranges
  pub locations : List ℕ
  pub searched_locations : AreSearched classes Locations s locations
  pub whole : parts ≡ map AProgram (numbers_below (program_count classes s)) ++ (map (AList Ranges) ranges ++ (map (AList Locations) locations ++ map AUnit (numbers_below (length s.links.units))))

-- a record is of the kind that a part has
abbrev pub IsFor : Part → Record → Type 0
IsFor (AProgram i) (OfLines runs) = ⊤
IsFor (AList kind k) (OfList potentials) = ⊤
IsFor (AUnit u) (OfLayout ranks) = ⊤
IsFor part other = ⊥

-- What is judged: the written file is read, these are its parts, and the certificate is a record file of these records.
pub record IsJudged (classes : Classes) (written certificate : List ℕ) (s : Reading) (parts : List Part) (records : List Record) : Type 0 where
  pub read : IsReading written s
  pub of_file : AreParts classes s parts
  pub spelled : SpellsFile classes records certificate

-- The certificate has a record for each part, in their order, and no others.
pub record HasRecords (classes : Classes) (written certificate : List ℕ) : Type 0 where
  pub s : Reading
  pub parts : List Part
  pub records : List Record
  pub judged : IsJudged classes written certificate s parts records
  pub each : AllZip IsFor parts records
