-- What tests find ready to be written.
use Rattle.std.specs.Prelude.{◌≡◌, ◌<◌, ◌+◌, ◌*◌, ℕ, List, length}
use Rattle.std.specs.List.{All, sum_by}
use Rattle.fixed_width.specs.InitialLengths.{least_reserved}
use Rattle.list_model.specs.declared.contribution.Contribution.{Contribution}
use Rattle.list_model.specs.declared.entry.ListKind.{ListKind}
use Rattle.list_model.specs.declared.entry.RawEntry.{RawEntry}
use Rattle.list_model.specs.Contributions.{offsets_at, HoldsList}
use Rattle.list_model.specs.Entries.{Entry, Says, AreSaid}
use Rattle.list_least.specs.Shortest.{FitOperands}
use Rattle.list_write.specs.Written.{ToWrite, IsSized, full_size, front_size, part_at, list_at}
use Rattle.list_write.specs.inside.Puts.{told_at}

-- some bytes spell what is read of an entry
pub record IsEntry (kind : ListKind) (raw : RawEntry) : Type 0 where
  pub entry : Entry
  pub says : Says kind raw entry
  pub fit : FitOperands entry.kind entry.a entry.b

-- some bytes spell what is read of entries
pub record AreEntries (kind : ListKind) (raws : List RawEntry) : Type 0 where
  pub entries : List Entry
  pub said : AreSaid kind raws entries
  pub fit : All (λ (entry : Entry). FitOperands entry.kind entry.a entry.b) entries

-- lists have their sizes
abbrev pub AreSized : ListKind → List ToWrite → Type 0
AreSized kind lists = (k : ℕ) → k < length lists → IsSized kind (list_at lists k)

-- lists stand by rising places
abbrev pub AtsRise : List ToWrite → Type 0
AtsRise lists = (j k : ℕ) → j < k → k < length lists → (list_at lists j).at < (list_at lists k).at

-- a list begins in its contribution
pub record IsHeld (parts : List Contribution) (list : ToWrite) : Type 0 where
  pub known : list.part < length parts
  pub holds : HoldsList (part_at parts list.part) list.at

-- each list begins in its contribution
abbrev pub AreHeld : List Contribution → List ToWrite → Type 0
AreHeld parts lists = (k : ℕ) → k < length lists → IsHeld parts (list_at lists k)

-- a list begins at a place
abbrev pub HasList : List ToWrite → ℕ → Type 0
HasList lists at = (k : ℕ) × (k < length lists) × ((list_at lists k).at ≡ at)

-- each offset of a contribution tells a list
abbrev pub AreTold : List ℕ → Contribution → List ToWrite → Type 0
AreTold section part lists = (slot : ℕ) → slot < part.slots → HasList lists (told_at section (offsets_at part.at) (offsets_at part.at + 4 * slot))

-- all that is written fits
abbrev pub HasRoom : List Contribution → List ToWrite → Type 0
HasRoom parts lists = sum_by front_size parts + sum_by full_size lists < least_reserved
