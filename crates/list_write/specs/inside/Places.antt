-- Where contributions, lists and their view pairs will stand, by the sizes of the lists alone.
-- Inner functions and proofs alone need what stands here.
use Rattle.std.specs.Prelude.{◌≡◌, ◌≤◌, ◌<◌, ◌+◌, ◌^◌, ℕ, List, length, take, slice_index_or}
use Rattle.std.specs.List.{sum_by}
use Rattle.list_model.specs.declared.contribution.Contribution.{Contribution}
use Rattle.list_model.specs.Contributions.{part_end}
use Rattle.list_write.specs.declared.image.Moved.{Moved}
use Rattle.list_write.specs.declared.pieces.ListExtent.{ListExtent}
use Rattle.list_write.specs.declared.pieces.RunExtent.{RunExtent}
use Rattle.list_write.specs.Written.{Run, ToWrite, run_size, own_size, full_size, front_size, part_at, list_at, moved_at, run_at, runs_before}

-- the bytes before the lists of so many contributions
abbrev pub front_sizes : List Contribution → ℕ → ℕ
front_sizes parts count = sum_by front_size (take count parts)

-- the bytes of so many runs of view pairs, and of all that stand before a list
abbrev pub run_sizes : List Run → ℕ → ℕ
run_sizes runs count = sum_by run_size (take count runs)

abbrev pub views_size : ToWrite → ℕ
views_size list = sum_by run_size list.views

-- the bytes of a list with its view pairs
abbrev pub size_of : ToWrite → ℕ
size_of list = full_size list

-- the bytes of so many lists
abbrev pub list_sizes : List ToWrite → ℕ → ℕ
list_sizes lists count = sum_by size_of (take count lists)

-- the lists of a contribution and of those behind it begin with this number
pub record IsFirst (lists : List ToWrite) (p first : ℕ) : Type 0 where
  pub within : first ≤ length lists
  pub before : (k : ℕ) → k < first → (list_at lists k).part < p
  pub behind : (k : ℕ) → first ≤ k → k < length lists → p ≤ (list_at lists k).part

-- lists stand in the order of their contributions
abbrev pub PartsRise : List ToWrite → Type 0
PartsRise lists = (j k : ℕ) → j ≤ k → k < length lists → (list_at lists j).part ≤ (list_at lists k).part

-- each list is of one of so many contributions
abbrev pub AreKnown : List ToWrite → ℕ → Type 0
AreKnown lists count = (k : ℕ) → k < length lists → (list_at lists k).part < count

-- ---- extents

-- the extents with a number; past the end there is none, and an empty one stands for it
abbrev pub extent_at : List ListExtent → ℕ → ListExtent
extent_at extents k = slice_index_or extents k (record { part = 0; at = 0; runs = 0; size = 0 })

abbrev pub run_extent_at : List RunExtent → ℕ → RunExtent
run_extent_at extents n = slice_index_or extents n (record { at = 0; size = 0 })

-- the bytes of runs by their extents
abbrev pub extent_sizes : List RunExtent → ℕ
extent_sizes runs = sum_by (λ (run : RunExtent). run.size) runs

-- an extent is that of a list, and that of a run of view pairs
pub record IsExtentOf (list : ToWrite) (extent : ListExtent) : Type 0 where
  pub part : extent.part ≡ list.part
  pub from : extent.at ≡ list.at
  pub runs : extent.runs ≡ length list.views
  pub size : extent.size ≡ own_size list

pub record IsRunExtentOf (run : Run) (extent : RunExtent) : Type 0 where
  pub from : extent.at ≡ run.at
  pub size : extent.size ≡ run_size run

-- these are the extents of lists, and those of their runs list by list
pub record AreExtentsOf (lists : List ToWrite) (extents : List ListExtent) (runs : List RunExtent) : Type 0 where
  pub count : length extents ≡ length lists
  pub runs_count : length runs ≡ runs_before lists (length lists)
  pub each : (k : ℕ) → k < length lists → IsExtentOf (list_at lists k) (extent_at extents k)
  pub each_run : (k i : ℕ) → k < length lists → i < length (list_at lists k).views → IsRunExtentOf (run_at (list_at lists k).views i) (run_extent_at runs (runs_before lists k + i))

-- lists of these extents can get places: they stand in the order of the contributions, each in one of these, and all fits
pub record CanBePlaced (parts : List Contribution) (lists : List ToWrite) (extents : List ListExtent) (runs : List RunExtent) : Type 0 where
  pub extents_are : AreExtentsOf lists extents runs
  pub rise : PartsRise lists
  pub known : AreKnown lists (length parts)
  pub room : front_sizes parts (length parts) + list_sizes lists (length lists) < 2 ^ 32

-- ---- places

-- a run moves to behind those before it, which follow one another from a place on
abbrev pub extent_place : List RunExtent → ℕ → ℕ → Moved
extent_place runs at i = record { old = (run_extent_at runs i).at; new = at + extent_sizes (take i runs) }

-- so many things get their places, behind others that have theirs
pub record AreAppended (place : ℕ → Moved) (count : ℕ) (old new : List Moved) : Type 0 where
  pub size : length new ≡ length old + count
  pub before : (k : ℕ) → k < length old → moved_at new k ≡ moved_at old k
  pub each : (k : ℕ) → k < count → moved_at new (length old + k) ≡ place k

-- a contribution has its new place and its new length
pub record IsPlacedPart (parts : List Contribution) (lists : List ToWrite) (p : ℕ) (new : Contribution) : Type 0 where
  pub first : ℕ
  pub last : ℕ
  pub is_first : IsFirst lists p first
  pub is_last : IsFirst lists (p + 1) last
  pub begins : new.at ≡ front_sizes parts p + list_sizes lists first
  pub ends : part_end new ≡ front_sizes parts (p + 1) + list_sizes lists last
  pub slots : new.slots ≡ (part_at parts p).slots

-- where the view pairs of a list begin, and the list behind them, behind all contributions and lists before it
abbrev pub whole_at : List Contribution → List ToWrite → ℕ → ℕ
whole_at parts lists k = front_sizes parts ((list_at lists k).part + 1) + list_sizes lists k

-- a list has its new place
pub record IsPlacedList (parts : List Contribution) (lists : List ToWrite) (k : ℕ) (moved : Moved) : Type 0 where
  pub from : moved.old ≡ (list_at lists k).at
  pub to : moved.new ≡ whole_at parts lists k + views_size (list_at lists k)

-- a run of its view pairs has its new place
pub record IsPlacedRun (parts : List Contribution) (lists : List ToWrite) (k i : ℕ) (moved : Moved) : Type 0 where
  pub from : moved.old ≡ (run_at (list_at lists k).views i).at
  pub to : moved.new ≡ whole_at parts lists k + run_sizes (list_at lists k).views i

-- the first lists have their new places, and so have their view pairs
pub record AreListsPlaced (parts : List Contribution) (lists : List ToWrite) (moved views : List Moved) : Type 0 where
  pub runs_count : length views ≡ runs_before lists (length moved)
  pub each : (k : ℕ) → k < length moved → IsPlacedList parts lists k (moved_at moved k)
  pub each_run : (k i : ℕ) → k < length moved → i < length (list_at lists k).views → IsPlacedRun parts lists k i (moved_at views (runs_before lists k + i))

-- so many contributions have their new places, and so have their lists
pub record ArePlacedTo (parts : List Contribution) (lists : List ToWrite) (p at : ℕ) (new_parts : List Contribution) (moved views : List Moved) : Type 0 where
  pub count : length new_parts ≡ p
  pub first : IsFirst lists p (length moved)
  pub end : at ≡ front_sizes parts p + list_sizes lists (length moved)
  pub each_part : (q : ℕ) → q < p → IsPlacedPart parts lists q (part_at new_parts q)
  pub placed : AreListsPlaced parts lists moved views

-- So many contributions have their new places, and the first lists of the next one too, whose header begins at a place.
pub record ArePlacedWithin (parts : List Contribution) (lists : List ToWrite) (p begin at : ℕ) (new_parts : List Contribution) (moved views : List Moved) : Type 0 where
  pub count : length new_parts ≡ p
  pub first : ℕ
  pub is_first : IsFirst lists p first
  pub begins : begin ≡ front_sizes parts p + list_sizes lists first
  pub behind : first ≤ length moved
  pub within : length moved ≤ length lists
  pub before : (k : ℕ) → k < length moved → (list_at lists k).part < p + 1
  pub end : at ≡ front_sizes parts (p + 1) + list_sizes lists (length moved)
  pub each_part : (q : ℕ) → q < p → IsPlacedPart parts lists q (part_at new_parts q)
  pub placed : AreListsPlaced parts lists moved views

-- all contributions and lists have their new places
pub record ArePlaced (parts : List Contribution) (lists : List ToWrite) (new_parts : List Contribution) (moved views : List Moved) : Type 0 where
  pub parts_count : length new_parts ≡ length parts
  pub lists_count : length moved ≡ length lists
  pub runs_count : length views ≡ runs_before lists (length lists)
  pub each_part : (p : ℕ) → p < length parts → IsPlacedPart parts lists p (part_at new_parts p)
  pub each_list : (k : ℕ) → k < length lists → IsPlacedList parts lists k (moved_at moved k)
  pub each_run : (k i : ℕ) → k < length lists → i < length (list_at lists k).views → IsPlacedRun parts lists k i (moved_at views (runs_before lists k + i))
