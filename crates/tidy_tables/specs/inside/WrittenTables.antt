-- The written tables of old ones, by their numbers.
use Rattle.std.specs.Prelude.{◌≡◌, ◌≢◌, ◌≤◌, ◌<◌, ◌⊎◌, ℕ, List, length, slice_index}
use Rattle.value_links.specs.declared.units.NamedTable.{NamedTable}
use Rattle.value_links.specs.World.{table_at}

-- of the first so many units whose old table has a number, this one's written table has the least number
pub record IsDueAmong (old_of new_of : List ℕ) (units number u : ℕ) : Type 0 where
  pub known : u < units
  pub names : slice_index old_of u ≡ number
  pub least : (other : ℕ) → other < units → slice_index old_of other ≡ number → slice_index new_of u ≤ slice_index new_of other

-- the old table with a number is written as that of the unit that is due among these
pub record IsWrittenAs (old_of new_of : List ℕ) (units number written : ℕ) : Type 0 where
  pub u : ℕ
  pub namer : IsDueAmong old_of new_of units number u
  pub is : written ≡ slice_index new_of u

-- no unit among these has the old table with a number
abbrev pub IsUnnamed : List ℕ → ℕ → ℕ → Type 0
IsUnnamed old_of units number = (u : ℕ) → u < units → slice_index old_of u ≢ number

-- So is each table that one of these units names; the greatest number stands for the others.
abbrev pub AreWrittenAmong : List ℕ → List ℕ → ℕ → List ℕ → Type 0
AreWrittenAmong old_of new_of units written =
    (number : ℕ) → number < length written → (IsUnnamed old_of units number × (slice_index written number ≡ 4294967295)) ⊎ IsWrittenAs old_of new_of units number (slice_index written number)

-- for each of so many old tables the number of the one as which it is written
pub record AreWrittenAs (old_of new_of : List ℕ) (count : ℕ) (written : List ℕ) : Type 0 where
  pub size : length written ≡ count
  pub each : (number : ℕ) → number < count → IsWrittenAs old_of new_of (length old_of) number (slice_index written number)

-- the place of the table with a number
abbrev pub place_in : List NamedTable → ℕ → ℕ
place_in tables number = (table_at tables number).place

-- numbers of tables
abbrev pub AreNumbersOf : List NamedTable → List ℕ → Type 0
AreNumbersOf tables numbers = (k : ℕ) → k < length numbers → slice_index numbers k < length tables

-- tables stand by rising place
abbrev pub AreByPlace : List NamedTable → Type 0
AreByPlace tables = (i j : ℕ) → i < j → j < length tables → place_in tables i < place_in tables j

-- an earlier old table is written as a later one than this
abbrev pub IsBelowEarlier : List ℕ → ℕ → Type 0
IsBelowEarlier written k = (earlier : ℕ) × (earlier < k) × (slice_index written k < slice_index written earlier)

-- the table with a number begins before an earlier one ends
abbrev pub IsInEarlier : List NamedTable → ℕ → Type 0
IsInEarlier tables k = (earlier : ℕ) × (earlier < k) × (place_in tables k < (table_at tables earlier).table.end)

-- a unit names another table than the one as which its old table is written
abbrev pub NamesOther : List ℕ → List ℕ → List ℕ → ℕ → Type 0
NamesOther written old_of new_of u = slice_index written (slice_index old_of u) ≢ slice_index new_of u
