-- The file of records that show why each part of an output is least, and the place at which bytes break its form.
-- After eight bytes, which tell for which classes the records are, come records, one after the other, up to the file's end. Each number is a shortest unsigned
-- LEB128 number (DWARF 5 section 7.6).
use Rattle.std.specs.Prelude.{◌≡◌, ◌≢◌, ◌≤◌, ◌<◌, ◌+◌, ◌^◌, ◌⊎◌, ℕ, List, [], ◌∷◌, ◌++◌, length, if◌then◌else◌, ⊤}
use Rattle.spelled.specs.Spelled.{Joined}
use Rattle.dw_base.specs.declared.classes.Classes.{Classes}
use Rattle.dw_base.specs.declared.record.Run.{Run}
use Rattle.leb_codec.specs.Leb.{ShortestUnsigned}

-- the shortest bytes of a number that fits 64 bits
abbrev pub Number : ℕ → List ℕ → Type 0
Number value bytes = ShortestUnsigned value bytes × (value < 2 ^ 64)

-- what a record says
pub data Record : Type 0 where
  -- of a line program: runs of pairs of line_base and line_range, each with a number of different steps
  OfLines : List Run → Record
  -- of a list: a potential for each of its items, in the order of the items
  OfList : List ℕ → Record
  -- of a unit: the ranks of all steps of its slots, in the order of the slots
  OfLayout : List ℕ → Record

-- the first bytes tell for which classes the records are: "DWMIN01" and the end of a line where line number programs have all members, and
-- "DWMINP1" and the end of a line where they stay as they are
abbrev pub magic : Classes → List ℕ
magic classes = 68 ∷ 87 ∷ 77 ∷ 73 ∷ 78 ∷ (if classes.lines then 48 else 80) ∷ 49 ∷ 10 ∷ []

-- how many pairs of line_base and line_range there are: 256 times 255
abbrev pub pair_count : ℕ
pair_count = 65280

-- how many pairs the runs have together
abbrev pub pairs_of : List Run → ℕ
pairs_of [] = 0
pairs_of (run ∷ runs) = run.len + pairs_of runs

-- a run has some of the pairs, and a number below 2^32
pub record IsRun (run : Run) : Type 0 where
  pub some : 0 < run.len
  pub few : run.len ≤ pair_count
  pub narrow : run.number < 2 ^ 32

-- neighbours have different numbers
abbrev pub NeighboursDiffer : List Run → Type 0
NeighboursDiffer [] = ⊤
NeighboursDiffer (run ∷ []) = ⊤
NeighboursDiffer (run ∷ next ∷ runs) = (run.number ≢ next.number) × NeighboursDiffer (next ∷ runs)

-- a run: its length and its number
pub record SpellsRun (run : Run) (bytes : List ℕ) : Type 0 where
  pub len : List ℕ
  pub number : List ℕ
  pub len_is : Number run.len len
  pub number_is : Number run.number number
  pub run_is : IsRun run
  pub whole : bytes ≡ len ++ number

-- the runs have all pairs, and neighbours differ
pub record AreRuns (runs : List Run) : Type 0 where
  pub all : pairs_of runs ≡ pair_count
  pub differ : NeighboursDiffer runs

-- the runs of a line program: they end with the last pair
abbrev pub SpellsRuns : List Run → List ℕ → Type 0
SpellsRuns runs bytes = AreRuns runs × Joined SpellsRun runs bytes

-- how many numbers there are, and the numbers
pub record SpellsNumbers (numbers bytes : List ℕ) : Type 0 where
  pub count : List ℕ
  pub body : List ℕ
  pub count_is : Number (length numbers) count
  pub body_is : Joined Number numbers body
  pub whole : bytes ≡ count ++ body

-- a record: a byte for its kind, and what it says
abbrev pub SpellsRecord : Record → List ℕ → Type 0
SpellsRecord (OfLines runs) bytes = (body : List ℕ) × SpellsRuns runs body × (bytes ≡ 1 ∷ body)
SpellsRecord (OfList potentials) bytes = (body : List ℕ) × SpellsNumbers potentials body × (bytes ≡ 2 ∷ body)
SpellsRecord (OfLayout ranks) bytes = (body : List ℕ) × SpellsNumbers ranks body × (bytes ≡ 3 ∷ body)

-- the bytes are a file of these records, for these classes
abbrev pub SpellsFile : Classes → List Record → List ℕ → Type 0
SpellsFile classes records bytes = (body : List ℕ) × Joined SpellsRecord records body × (bytes ≡ magic classes ++ body)

-- nothing of a kind is spelled at the front of the bytes
abbrev pub HasNone : {V : Type 0} → (V → List ℕ → Type 0) → List ℕ → Type 0
HasNone {V} Spells bytes = (v : V) (a x : List ℕ) → Spells v a → bytes ≡ a ++ x → ⊥

-- the first bytes are there, and records from there on, and bytes are left, at whose front is no record
pub record BreaksRecord (classes : Classes) (bytes : List ℕ) (place : ℕ) : Type 0 where
  pub before : List Record
  pub front : List ℕ
  pub rest : List ℕ
  pub spelled : Joined SpellsRecord before front
  pub whole : bytes ≡ magic classes ++ (front ++ rest)
  pub left : 0 < length rest
  pub none : HasNone SpellsRecord rest
  pub at : place ≡ length (magic classes) + length front

-- the bytes break the form at a place: at 0 where the first bytes aren't there, else at the first byte of the first record
-- that isn't one
abbrev pub IsBroken : Classes → List ℕ → ℕ → Type 0
IsBroken classes bytes place = (((body : List ℕ) → bytes ≢ magic classes ++ body) × (place ≡ 0)) ⊎ BreaksRecord classes bytes place
