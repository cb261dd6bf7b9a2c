-- Lists written anew in their contributions (DWARF 5 sections 7.28 and 7.29): what is to be written, and what then stands where.
use Rattle.std.specs.Prelude.{◌≡◌, ◌≤◌, ◌<◌, ◌+◌, ◌-◌, ◌*◌, ℕ, List, [], ◌∷◌, ◌++◌, length, map, flat_map, filter, take, drop, not, slice_index_or, suc}
use Rattle.std.specs.List.{AllZip, Contains, sum_by}
use Rattle.std.specs.List.Sorted.{IsStrictlyIncreasing}
use Rattle.spelled.specs.Spelled.{Joined}
use Rattle.fixed_width.specs.Numbers.{number_at}
use Rattle.fixed_width.specs.InitialLengths.{least_reserved}
use Rattle.list_model.specs.declared.contribution.Contribution.{Contribution}
use Rattle.leb_codec.specs.Leb.{least_unsigned_len}
use Rattle.list_model.specs.declared.entry.ListKind.{ListKind}
use Rattle.list_model.specs.declared.entry.ListKind.TheVariants.{Ranges, Locations}
use Rattle.list_model.specs.Contributions.{part_header_size, offset_size, offsets_at, offset_place, lists_at, part_end, HoldsList, bytes_from, ContributionsTile}
use Rattle.list_model.specs.Entries.{Entry}
use Rattle.list_model.specs.Items.{sets_base}
use Rattle.loc_lists.specs.Locations.{entries_of, item_expressions}
use Rattle.loc_lists.specs.Apart.{StandApart, ShortestBehind}
use Rattle.loc_lists.specs.declared.views.ViewPair.{ViewPair}
use Rattle.loc_lists.specs.Views.{ShortestPair}
use Rattle.list_least.specs.declared.pick.Pick.{Pick}
use Rattle.list_least.specs.Plans.{entries_bytes, ArePicks}
use Rattle.list_least.specs.Shortest.{ShortestList}
use Rattle.list_write.specs.declared.named.NamedList.{NamedList}
use Rattle.list_write.specs.declared.named.NewExpressions.{NewExpressions}
use Rattle.list_write.specs.declared.named.ViewRun.{ViewRun}
use Rattle.list_write.specs.declared.image.Moved.{Moved}

-- the contribution with a number; past the end there is none, and an empty one stands for it
abbrev pub part_at : List Contribution → ℕ → Contribution
part_at parts p = slice_index_or parts p (record { at = 0; len = 0; slots = 0 })

-- ---- what is to be written

-- a run of view pairs: where it begins, and the pairs
pub record Run : Type 0 where
  pub at : ℕ
  pub pairs : List ViewPair

-- a list: its contribution by its number, where it begins, its entries as they are picked, how many bytes these and the end are to have,
-- the expressions of its items, and the view pairs that go with it
pub record ToWrite : Type 0 where
  pub part : ℕ
  pub at : ℕ
  pub picks : List Pick
  pub size : ℕ
  pub expressions : List (List ℕ)
  pub views : List Run

-- the pieces of bytes that end at these places, each from where the one before it does; the first begins at a place
abbrev pub pieces : ℕ → List ℕ → List ℕ → List (List ℕ)
pieces from [] bytes = []
pieces from (end ∷ ends) bytes = take (end - from) (drop from bytes) ∷ pieces end ends bytes

-- the ends rise from a place on, up to so many bytes
abbrev pub EndsRise : ℕ → List ℕ → ℕ → Type 0
EndsRise from [] most = Unit {0}
EndsRise from (end ∷ ends) most = (from ≤ end) × (end ≤ most) × EndsRise end ends most

-- expressions stand one after the other
abbrev pub AreEnds : NewExpressions → Type 0
AreEnds new = EndsRise 0 new.ends.items (length new.bytes.items)

-- view pairs that go with a list
abbrev pub run_of : ViewRun → Run
run_of run = record { at = run.at; pairs = run.pairs.items }

-- a list that something names, as it is to be written
abbrev pub to_write : NamedList → ToWrite
to_write list = record { part = list.part; at = list.at; picks = list.plan.picks.items; size = list.plan.size; expressions = pieces 0 list.expressions.ends.items list.expressions.bytes.items; views = map run_of list.views.items }

-- the list with a number; past the end there is none, and an empty one stands for it
abbrev pub list_at : List ToWrite → ℕ → ToWrite
list_at lists k = slice_index_or lists k (record { part = 0; at = 0; picks = []; size = 0; expressions = []; views = [] })

-- how many bytes an expression takes behind its entry, with its length in the fewest bytes
abbrev pub behind_size : List ℕ → ℕ
behind_size expression = least_unsigned_len (length expression) + length expression

-- how many bytes a list takes with its expressions, how many view pairs do, each number in its fewest, and how many both do
abbrev pub own_size : ToWrite → ℕ
own_size list = list.size + sum_by behind_size list.expressions

abbrev pub pair_size : ViewPair → ℕ
pair_size pair = least_unsigned_len pair.first + least_unsigned_len pair.last

abbrev pub run_size : Run → ℕ
run_size run = sum_by pair_size run.pairs

abbrev pub full_size : ToWrite → ℕ
full_size list = sum_by run_size list.views + own_size list

-- how many bytes a contribution takes before its lists: its header and its offsets
abbrev pub front_size : Contribution → ℕ
front_size part = part_header_size + offset_size * part.slots

-- each item of a location list has an expression, and ranges have none
abbrev pub HasExpressions : ListKind → List Entry → List (List ℕ) → Type 0
HasExpressions Ranges entries expressions = expressions ≡ []
HasExpressions Locations entries expressions = length expressions ≡ length (filter (λ (entry : Entry). not (sets_base entry.kind)) entries)

-- a list can be written: it begins in its contribution, it has entries, they take so many bytes without padding, with the end, and its
-- items have their expressions
pub record IsToWrite (kind : ListKind) (parts : List Contribution) (list : ToWrite) : Type 0 where
  pub known : list.part < length parts
  pub holds : HoldsList (part_at parts list.part) list.at
  pub entries : List Entry
  pub picked : ArePicks kind list.picks entries
  pub bytes : list.size ≡ entries_bytes entries + 1
  pub carried : HasExpressions kind entries list.expressions

-- a list has entries, and they take so many bytes without padding, with the end; its items have their expressions
pub record IsSized (kind : ListKind) (list : ToWrite) : Type 0 where
  pub entries : List Entry
  pub picked : ArePicks kind list.picks entries
  pub bytes : list.size ≡ entries_bytes entries + 1
  pub carried : HasExpressions kind entries list.expressions

-- a slot of a contribution tells a place (DW_FORM_rnglistx and DW_FORM_loclistx count slots)
abbrev pub Tells : List ℕ → List Contribution → ℕ → ℕ → ℕ → Type 0
Tells section parts p i at = at ≡ offsets_at (part_at parts p).at + number_at 4 (offset_place (part_at parts p).at i) section

-- each slot tells where one of the lists begins
abbrev pub AllAreTold : List ℕ → List Contribution → List ToWrite → Type 0
AllAreTold section parts lists =
    (p i : ℕ) → p < length parts → i < (part_at parts p).slots → (k : ℕ) × (k < length lists) × Tells section parts p i (list_at lists k).at

-- What is to be written: contributions that fill a section, lists by rising place, each of which can be written and among which
-- are those that slots name, and few enough bytes for the 32-bit format: those of headers, offsets and lists.
pub record CanBeWritten (kind : ListKind) (section : List ℕ) (parts : List Contribution) (lists : List ToWrite) : Type 0 where
  pub tiled : ContributionsTile section parts
  pub rising : (j k : ℕ) → j < k → k < length lists → (list_at lists j).at < (list_at lists k).at
  pub each : (k : ℕ) → k < length lists → IsToWrite kind parts (list_at lists k)
  pub told : AllAreTold section parts lists
  pub room : sum_by front_size parts + sum_by full_size lists < least_reserved

-- ---- what is written

-- the list of a number that was moved; past the end there is none
abbrev pub moved_at : List Moved → ℕ → Moved
moved_at moved k = slice_index_or moved k (record { old = 0; new = 0 })

-- The bytes of a list with these entries, and those without the expressions and their lengths: each number takes its fewest bytes.
abbrev pub ShortestWith : ListKind → List Entry → List (List ℕ) → List ℕ → List ℕ → Type 0
ShortestWith Ranges entries expressions bytes bare = ShortestList Ranges entries bytes × (bare ≡ bytes)
ShortestWith Locations entries expressions bytes bare =
    (locations : List (Entry × List ℕ)) × (entries_of locations ≡ entries) × (item_expressions locations ≡ expressions)
    × StandApart ShortestBehind locations bytes bare × ShortestList Locations entries bare

-- a run of view pairs that is written: where it began, and its bytes
pub record WrittenRun : Type 0 where
  pub at : ℕ
  pub bytes : List ℕ

-- A list that is written, wherever it will stand: its contribution by its number, where it began, its bytes, and the runs of view pairs
-- that stand before it.
pub record Piece : Type 0 where
  pub part : ℕ
  pub at : ℕ
  pub bytes : List ℕ
  pub runs : List WrittenRun

-- a run of view pairs is written, each number in its fewest bytes
pub record IsWrittenRun (run : Run) (written : WrittenRun) : Type 0 where
  pub from : written.at ≡ run.at
  pub shortest : Joined ShortestPair run.pairs written.bytes

-- a list is written with its view pairs in the fewest bytes, by its entries as they are picked
pub record IsPieceOf (kind : ListKind) (list : ToWrite) (piece : Piece) : Type 0 where
  pub part : piece.part ≡ list.part
  pub from : piece.at ≡ list.at
  pub runs : AllZip IsWrittenRun list.views piece.runs
  pub own : (entries : List Entry) → ArePicks kind list.picks entries → (bare : List ℕ) × ShortestWith kind entries list.expressions piece.bytes bare

-- a list stands at a place of its contribution
pub record StandsIn (kind : ListKind) (section : List ℕ) (part : Contribution) (at : ℕ) (entries : List Entry) (expressions : List (List ℕ)) : Type 0 where
  pub holds : HoldsList part at
  pub bytes : List ℕ
  pub bare : List ℕ
  pub rest : List ℕ
  pub shortest : ShortestWith kind entries expressions bytes bare
  pub whole : bytes_from section part at ≡ bytes ++ rest

-- view pairs stand at a place of the contribution, each number in its fewest bytes
pub record StandsBefore (section : List ℕ) (part : Contribution) (at : ℕ) (pairs : List ViewPair) : Type 0 where
  pub holds : HoldsList part at
  pub bytes : List ℕ
  pub rest : List ℕ
  pub shortest : Joined ShortestPair pairs bytes
  pub whole : bytes_from section part at ≡ bytes ++ rest

-- the runs of all lists, list by list; how many those of the first lists are; and a run with a number
abbrev pub all_runs : List ToWrite → List Run
all_runs lists = flat_map (λ (list : ToWrite). list.views) lists

abbrev pub runs_before : List ToWrite → ℕ → ℕ
runs_before lists k = sum_by (λ (list : ToWrite). length list.views) (take k lists)

abbrev pub run_at : List Run → ℕ → Run
run_at runs n = slice_index_or runs n (record { at = 0; pairs = [] })

-- Stretches of bytes, each a place and a size, stand one after the other from a place up to another.
abbrev pub Follow : List (ℕ × ℕ) → ℕ → ℕ → Type 0
Follow [] from to = from ≡ to
Follow ((at, size) ∷ rest) from to = (at ≡ from) × Follow rest (from + size) to

-- runs with the places at which they stand now, from the run with a number on
abbrev pub run_stretches : List Moved → ℕ → List Run → List (ℕ × ℕ)
run_stretches views n [] = []
run_stretches views n (run ∷ runs) = ((moved_at views n).new, run_size run) ∷ run_stretches views (suc n) runs

-- a list with the place at which it stands now, directly behind its view pairs
abbrev pub stretches : List Moved → List Moved → List ToWrite → ℕ → List (ℕ × ℕ)
stretches moved views lists k = run_stretches views (runs_before lists k) (list_at lists k).views ++ ((moved_at moved k).new, own_size (list_at lists k)) ∷ []

-- these are the numbers of the lists of a contribution, rising
pub record AreNumbersOf (lists : List ToWrite) (p : ℕ) (numbers : List ℕ) : Type 0 where
  pub rising : IsStrictlyIncreasing numbers
  pub each : (k : ℕ) → Contains numbers k → (k < length lists) × ((list_at lists k).part ≡ p)
  pub all : (k : ℕ) → k < length lists → (list_at lists k).part ≡ p → Contains numbers k

-- The lists stand in the new section: as many contributions as before, with as many slots; each list once in its contribution, in
-- the order of the old places, each directly behind its view pairs, with nothing between and behind them; and each slot tells where its
-- list stands now.
pub record AreWritten (kind : ListKind) (old : List ℕ) (parts : List Contribution) (lists : List ToWrite) (section : List ℕ) (new_parts : List Contribution) (moved views : List Moved) : Type 0 where
  pub tiled : ContributionsTile section new_parts
  pub parts_count : length new_parts ≡ length parts
  pub slots : (p : ℕ) → p < length parts → (part_at new_parts p).slots ≡ (part_at parts p).slots
  pub count : length moved ≡ length lists
  pub from : (k : ℕ) → k < length lists → (moved_at moved k).old ≡ (list_at lists k).at
  pub rising : (j k : ℕ) → j < k → k < length lists → (moved_at moved j).new < (moved_at moved k).new
  pub each : (k : ℕ) → k < length lists → (entries : List Entry) → ArePicks kind (list_at lists k).picks entries → StandsIn kind section (part_at new_parts (list_at lists k).part) (moved_at moved k).new entries (list_at lists k).expressions
  pub views_count : length views ≡ length (all_runs lists)
  pub views_from : (n : ℕ) → n < length (all_runs lists) → (moved_at views n).old ≡ (run_at (all_runs lists) n).at
  pub views_each : (k i : ℕ) → k < length lists → i < length (list_at lists k).views → StandsBefore section (part_at new_parts (list_at lists k).part) (moved_at views (runs_before lists k + i)).new (run_at (list_at lists k).views i).pairs
  pub told : (p i k : ℕ) → p < length parts → i < (part_at parts p).slots → k < length lists → Tells old parts p i (list_at lists k).at → Tells section new_parts p i (moved_at moved k).new
  pub filled : (p : ℕ) → p < length parts → (numbers : List ℕ) × AreNumbersOf lists p numbers × Follow (flat_map (stretches moved views lists) numbers) (lists_at (part_at new_parts p)) (part_end (part_at new_parts p))
  pub fits : length section < least_reserved
