-- What is put behind other bytes.
-- Inner functions and proofs alone need what stands here.
use Rattle.std.specs.Prelude.{◌≡◌, ◌<◌, ◌+◌, ◌-◌, ◌*◌, ℕ, List, [], ◌∷◌, ◌++◌, length, map, filter, take, Bool, true, false, not}
use Rattle.fixed_width.specs.Numbers.{number_at}
use Rattle.spelled.specs.Spelled.{IsAbsent, Joined}
use Rattle.leb_codec.specs.Digits.{Extends}
use Rattle.form_codec.specs.declared.form.Width.TheVariants.{One, Two, Four}
use Rattle.form_codec.specs.Written.{low_bytes}
use Rattle.list_model.specs.declared.contribution.Contribution.{Contribution}
use Rattle.list_model.specs.declared.entry.EntryKind.{EntryKind}
use Rattle.list_model.specs.declared.entry.ListKind.{ListKind}
use Rattle.list_model.specs.declared.entry.ListKind.TheVariants.{Ranges, Locations}
use Rattle.list_model.specs.Items.{sets_base}
use Rattle.loc_lists.specs.Locations.{SpellsExpression, entries_of}
use Rattle.loc_lists.specs.Views.{ShortestPair}
use Rattle.list_model.specs.declared.entry.Operand.{Operand}
use Rattle.list_model.specs.Contributions.{offsets_at, offset_place}
use Rattle.list_model.specs.Costs.{operand_bytes}
use Rattle.list_model.specs.Entries.{Entry, SpellsOperand}
use Rattle.list_least.specs.Plans.{ArePicks}
use Rattle.list_least.specs.Shortest.{ShortestEntry}
use Rattle.list_write.specs.declared.image.Moved.{Moved}
use Rattle.list_write.specs.declared.pieces.ListExtent.{ListExtent}
use Rattle.list_write.specs.declared.pieces.RunExtent.{RunExtent}
use Rattle.list_write.specs.Written.{Run, ToWrite, CanBeWritten, ShortestWith, behind_size, part_at, list_at, moved_at, run_at}
use Rattle.list_write.specs.inside.Places.{front_sizes, run_sizes, views_size, list_sizes, whole_at, IsFirst, AreExtentsOf}

-- the bytes spell the operand, without padding
abbrev pub ShortestOperand : Operand → ℕ → List ℕ → Type 0
ShortestOperand operand value bytes = SpellsOperand operand value bytes × (length bytes ≡ operand_bytes operand value)

-- the bytes of a contribution's header (DWARF 5 sections 7.28 and 7.29)
abbrev pub header_bytes : Contribution → List ℕ
header_bytes part = low_bytes Four (part.len - 4) ++ (low_bytes Two 5 ++ (low_bytes One 8 ++ (low_bytes One 0 ++ low_bytes Four part.slots)))

-- the bytes are an expression behind its length, which takes its fewest bytes
abbrev pub ShortestExpression : List ℕ → List ℕ → Type 0
ShortestExpression expression bytes = SpellsExpression expression bytes × (length bytes ≡ behind_size expression)

-- whether an entry of a kind has an expression behind it
abbrev pub carries : ListKind → EntryKind → Bool
carries Ranges entry = false
carries Locations entry = not (sets_base entry)

-- the bytes behind an entry: an expression and its length, or none
abbrev pub PutBehind : Bool → List ℕ → List ℕ → Type 0
PutBehind true expression bytes = ShortestExpression expression bytes
PutBehind false expression bytes = IsAbsent [] expression bytes

-- Entries one after the other, each with what stands behind it: all the bytes, and those of the entries alone.
abbrev pub PutApart : ListKind → List (Entry × List ℕ) → List ℕ → List ℕ → Type 0
PutApart kind [] bytes bare = (bytes ≡ []) × (bare ≡ [])
PutApart kind (location ∷ locations) bytes bare =
    (own : List ℕ) × (behind : List ℕ) × (rest : List ℕ) × (bare_rest : List ℕ)
    × ShortestEntry kind location.0 own × PutBehind (carries kind location.0.kind) location.1 behind × PutApart kind locations rest bare_rest
    × (bytes ≡ own ++ (behind ++ rest)) × (bare ≡ own ++ bare_rest)

-- the expressions of those entries that have one behind them
abbrev pub carried_of : ListKind → List (Entry × List ℕ) → List (List ℕ)
carried_of kind locations = map (λ (location : Entry × List ℕ). location.1) (filter (λ (location : Entry × List ℕ). carries kind location.0.kind) locations)

-- how many of the entries have an expression behind them
abbrev pub carried_count : ListKind → List Entry → ℕ
carried_count kind entries = length (filter (λ (entry : Entry). carries kind entry.kind) entries)

-- The entries are put behind other bytes with the first of the expressions, one behind each entry that has one.
pub record AreEntriesPut (kind : ListKind) (entries : List Entry) (expressions : List (List ℕ)) (next : ℕ) (old new : List ℕ) : Type 0 where
  pub locations : List (Entry × List ℕ)
  pub bytes : List ℕ
  pub bare : List ℕ
  pub of_entries : entries_of locations ≡ entries
  pub of_expressions : carried_of kind locations ≡ take next expressions
  pub counted : next ≡ carried_count kind entries
  pub apart : PutApart kind locations bytes bare
  pub whole : new ≡ old ++ bytes

-- bytes stand at a place of others
pub record StandAt (at : ℕ) (bytes all : List ℕ) : Type 0 where
  pub front : List ℕ
  pub rest : List ℕ
  pub place : length front ≡ at
  pub whole : all ≡ front ++ (bytes ++ rest)

-- the place that an offset of a contribution tells, whose offsets begin at a place
abbrev pub told_at : List ℕ → ℕ → ℕ → ℕ
told_at section offsets place = offsets + number_at 4 place section

-- a list has moved from a place, and it is one of these
pub record IsMovedFrom (lists : List Moved) (old : ℕ) (list : Moved) : Type 0 where
  pub number : ℕ
  pub within : number < length lists
  pub is : list ≡ moved_at lists number
  pub from : list.old ≡ old

-- lists stand by rising old places
abbrev pub OldRise : List Moved → Type 0
OldRise lists = (j k : ℕ) → j < k → k < length lists → (moved_at lists j).old < (moved_at lists k).old

-- a slot of a contribution, whose offsets began at a place, tells in new bytes where its list stands now
pub record IsSlotPut (section : List ℕ) (offsets new_offsets : ℕ) (lists : List Moved) (slot at : ℕ) (bytes : List ℕ) : Type 0 where
  pub list : Moved
  pub moved : IsMovedFrom lists (told_at section offsets (offsets + 4 * slot)) list
  pub stands : StandAt at (low_bytes Four (list.new - new_offsets)) bytes

-- so many slots of a contribution are put behind other bytes
pub record AreSlotsPut (section : List ℕ) (offsets new_offsets : ℕ) (lists : List Moved) (count : ℕ) (old new : List ℕ) : Type 0 where
  pub extends : Extends old new
  pub size : length new ≡ length old + 4 * count
  pub each : (slot : ℕ) → slot < count → IsSlotPut section offsets new_offsets lists slot (length old + 4 * slot) new

-- the bytes of a list stand at a place
abbrev pub ListStands : ListKind → ToWrite → ℕ → List ℕ → Type 0
ListStands kind list at bytes = (entries : List Entry) → ArePicks kind list.picks entries → (own : List ℕ) × (bare : List ℕ) × ShortestWith kind entries list.expressions own bare × StandAt at own bytes

-- the bytes of a run of view pairs stand at a place
abbrev pub RunStands : Run → ℕ → List ℕ → Type 0
RunStands run at bytes = (own : List ℕ) × Joined ShortestPair run.pairs own × StandAt at own bytes

-- so many runs of view pairs are put behind other bytes, one after the other
pub record AreRunsPut (runs : List Run) (count : ℕ) (old new : List ℕ) : Type 0 where
  pub extends : Extends old new
  pub size : length new ≡ length old + run_sizes runs count
  pub each : (i : ℕ) → i < count → RunStands (run_at runs i) (length old + run_sizes runs i) new

-- the view pairs of a list stand from a place on, and the list behind them
pub record WholeStands (kind : ListKind) (list : ToWrite) (at : ℕ) (bytes : List ℕ) : Type 0 where
  pub runs : (i : ℕ) → i < length list.views → RunStands (run_at list.views i) (at + run_sizes list.views i) bytes
  pub own : ListStands kind list (at + views_size list) bytes

-- so many lists are put behind other bytes, one after the other, each behind its view pairs
pub record AreListsPut (kind : ListKind) (lists : List ToWrite) (count : ℕ) (old new : List ℕ) : Type 0 where
  pub extends : Extends old new
  pub size : length new ≡ length old + list_sizes lists count
  pub each : (k : ℕ) → k < count → WholeStands kind (list_at lists k) (length old + list_sizes lists k) new

-- a slot of a contribution tells where its list stands now
abbrev pub SlotStands : List ℕ → List Contribution → List Contribution → List Moved → ℕ → ℕ → List ℕ → Type 0
SlotStands section parts new_parts lists p slot bytes =
    IsSlotPut section (offsets_at (part_at parts p).at) (offsets_at (part_at new_parts p).at) lists slot (offset_place (part_at new_parts p).at slot) bytes

-- so many contributions are written with their lists
pub record AreWrittenTo (kind : ListKind) (section : List ℕ) (parts : List Contribution) (lists : List ToWrite) (new_parts : List Contribution) (moved : List Moved) (p first : ℕ) (bytes : List ℕ) : Type 0 where
  pub is_first : IsFirst lists p first
  pub size : length bytes ≡ front_sizes parts p + list_sizes lists first
  pub headers : (q : ℕ) → q < p → StandAt (part_at new_parts q).at (header_bytes (part_at new_parts q)) bytes
  pub slots : (q slot : ℕ) → q < p → slot < (part_at parts q).slots → SlotStands section parts new_parts moved q slot bytes
  pub each : (k : ℕ) → k < first → WholeStands kind (list_at lists k) (whole_at parts lists k) bytes

-- lists can be written, and all are put one after the other; these are their extents
pub record AreReady (kind : ListKind) (section : List ℕ) (parts : List Contribution) (lists : List ToWrite) (extents : List ListExtent) (runs : List RunExtent) (bytes : List ℕ) : Type 0 where
  pub can : CanBeWritten kind section parts lists
  pub extents_are : AreExtentsOf lists extents runs
  pub put : AreListsPut kind lists (length lists) [] bytes

-- so many contributions are written with their lists, whose bytes end at a place among those of all lists
pub record AreCopiedTo (kind : ListKind) (section : List ℕ) (parts : List Contribution) (lists : List ToWrite) (new_parts : List Contribution) (moved : List Moved) (p from : ℕ) (bytes : List ℕ) : Type 0 where
  pub first : ℕ
  pub is : from ≡ list_sizes lists first
  pub written : AreWrittenTo kind section parts lists new_parts moved p first bytes
