-- What a section of lists holds of a file that is written anew for another, and that it holds nothing else (DWARF 5 sections 7.28 and
-- 7.29).
use Rattle.std.specs.Prelude.{◌≡◌, ◌<◌, ◌+◌, ◌⊎◌, ◌++◌, ◌∷◌, ℕ, List, [], length, map, filter, nat_eq, slice_index}
use Rattle.std.specs.List.{AllZip}
use Rattle.dw_base.specs.declared.fault.Reach.TheVariants.{Wide}
use Rattle.expr_ops.specs.declared.op.Op.{Op}
use Rattle.expr_ops.specs.Expressions.{IsExpression}
use Rattle.expr_ops.specs.Ops.{all_meant}
use Rattle.expr_ops.specs.Shortest.{IsWrittenShortest}
use Rattle.list_model.specs.declared.contribution.Contribution.{Contribution}
use Rattle.list_model.specs.declared.entry.ListKind.{ListKind}
use Rattle.list_model.specs.declared.entry.ListKind.TheVariants.{Ranges, Locations}
use Rattle.list_model.specs.declared.entry.RawEntry.{RawEntry}
use Rattle.list_model.specs.Contributions.{lists_at, part_end, bytes_from}
use Rattle.list_model.specs.Entries.{Entry, SpellsList, AreSaid}
use Rattle.loc_lists.specs.Apart.{ShortestBehind, StandApart}
use Rattle.spelled.specs.Spelled.{Joined}
use Rattle.loc_lists.specs.Views.{ShortestPair}
use Rattle.value_links.specs.Reading.{ListRead, ViewRead, Reading, of_kind, lists_of, part_at, list_at, view_at}
use Rattle.value_links.specs.ListPlaces.{SlotNames}
use Rattle.value_links.specs.Linked.{IsLinked}
use Rattle.value_links.specs.Linked.Linked.{ListAt, ViewsAt}
use Rattle.value_links.specs.Lists.{expressions_at}

-- the bytes are a list with what is read of its entries, with no byte too many in the lengths of expressions
abbrev pub IsWhole : ListKind → List RawEntry → List ℕ → Type 0
IsWhole Ranges raws bytes = (entries : List Entry) × AreSaid Ranges raws entries × SpellsList Ranges entries bytes
IsWhole Locations raws bytes =
    (locations : List (Entry × List ℕ)) × (bare : List ℕ) × AreSaid Locations raws (map (λ (location : Entry × List ℕ). location.0) locations) × StandApart ShortestBehind locations bytes bare

-- Runs of view pairs stand in the contribution one after the other, from a place up to another.
abbrev pub RunsStand : List ℕ → Contribution → List ViewRead → ℕ → ℕ → Type 0
RunsStand section part [] at end = at ≡ end
RunsStand section part (run ∷ runs) at end =
    (run.at ≡ at) × ((bytes : List ℕ) × (rest : List ℕ) × Joined ShortestPair run.pairs bytes × (bytes_from section part at ≡ bytes ++ rest) × RunsStand section part runs (at + length bytes) end)

-- the view pairs that go with a list; ranges have none
abbrev pub views_with : ListKind → List ViewRead → ListRead → List ViewRead
views_with Ranges views list = []
views_with Locations views list = filter (λ (run : ViewRead). nat_eq run.list list.at) views

-- The lists stand in the contribution one after the other, each directly behind its view pairs, from a place up to the end of the
-- contribution, with nothing between and behind them.
abbrev pub Fill : ListKind → List ViewRead → List ℕ → Contribution → List ListRead → ℕ → Type 0
Fill kind views section part [] at = at ≡ part_end part
Fill kind views section part (list ∷ lists) at =
    RunsStand section part (views_with kind views list) at list.at
    × ((bytes : List ℕ) × (rest : List ℕ) × IsWhole kind list.raws bytes × (bytes_from section part list.at ≡ bytes ++ rest) × Fill kind views section part lists (list.at + length bytes))

-- The contribution with a number is its header, its offsets and its lists, each directly behind its view pairs, in the order of their
-- places, with nothing else between and behind them.
abbrev pub IsFilled : ListKind → Reading → ℕ → Type 0
IsFilled kind s p =
    Fill kind s.views (of_kind s.links kind).section (part_at (of_kind s.links kind) p) (filter (λ (list : ListRead). nat_eq list.part p) (lists_of s kind)) (lists_at (part_at (of_kind s.links kind) p))

-- Old bytes and new ones are one expression, but for its references. No number in the new ones has a byte too many, and a
-- call is a call2 where its number is below 65,536.
abbrev pub IsShort : List ℕ → List ℕ → Type 0
IsShort old new = (refs : List ℕ) × (ops : List Op) × IsExpression Wide (all_meant old ops) old × IsWrittenShortest refs old ops new

-- the expressions of the list with a number are such
abbrev pub AreShort : ListKind → Reading → Reading → ℕ → Type 0
AreShort kind r s k = AllZip IsShort (expressions_at r.links kind (list_at (lists_of r kind) k)) (expressions_at s.links kind (list_at (lists_of s kind) k))

-- A run of view pairs of the old file is one of the written file: it has the same pairs, and goes with the list that has the number there
-- of the one with which it went.
pub record IsRunMoved (r s : Reading) (old new : ViewRead) : Type 0 where
  pub list : ℕ
  pub inside : list < length r.location_lists
  pub from : old.list ≡ (list_at r.location_lists list).at
  pub to : new.list ≡ (list_at s.location_lists list).at
  pub pairs : new.pairs ≡ old.pairs

-- Each run of the old file is one of the written file, in the same order, and these are all. Runs without pairs that go with one list
-- stand at one place, and are one. Each value that names a run names this one.
pub record AreTidyViews (r s : Reading) : Type 0 where
  pub numbers : List ℕ
  pub count : length numbers ≡ length r.views
  pub inside : (k : ℕ) → k < length r.views → slice_index numbers k < length s.views
  pub order : (j k : ℕ) → j < k → k < length r.views → (slice_index numbers j < slice_index numbers k) ⊎ ((slice_index numbers j ≡ slice_index numbers k) × ((view_at r.views k).pairs ≡ []))
  pub all : (n : ℕ) → n < length s.views → (k : ℕ) × (k < length r.views) × (slice_index numbers k ≡ n)
  pub each : (k : ℕ) → k < length r.views → IsRunMoved r s (view_at r.views k) (view_at s.views (slice_index numbers k))
  pub values : (u number k : ℕ) → u < length r.links.units → k < length r.views → IsLinked r.links u number (ViewsAt (view_at r.views k).list (view_at r.views k).at) → IsLinked s.links u number (ViewsAt (view_at s.views (slice_index numbers k)).list (view_at s.views (slice_index numbers k)).at)

-- The contributions of the written file are those of the old one, with as many slots. Each list that something names in the old file
-- is the one with its number in the written file, in the contribution with the same number, so that their order stays. Each value that
-- names a list names this one, and so does each slot. Its expressions are the old ones. A contribution holds these with their view pairs, and nothing else. That the
-- numbers of a kept list's entries have no byte too many is said with the classes: its bytes are the shortest with these entries.
pub record AreTidyLists (kind : ListKind) (r s : Reading) : Type 0 where
  pub parts : length (of_kind s.links kind).parts ≡ length (of_kind r.links kind).parts
  pub slots : (p : ℕ) → p < length (of_kind r.links kind).parts → (part_at (of_kind s.links kind) p).slots ≡ (part_at (of_kind r.links kind) p).slots
  pub lists : length (lists_of s kind) ≡ length (lists_of r kind)
  pub part : (k : ℕ) → k < length (lists_of r kind) → (list_at (lists_of s kind) k).part ≡ (list_at (lists_of r kind) k).part
  pub values : (u number k : ℕ) → u < length r.links.units → k < length (lists_of r kind) → IsLinked r.links u number (ListAt kind (list_at (lists_of r kind) k).at) → IsLinked s.links u number (ListAt kind (list_at (lists_of s kind) k).at)
  pub named : (p i k : ℕ) → k < length (lists_of r kind) → SlotNames (of_kind r.links kind) p i (list_at (lists_of r kind) k).at → SlotNames (of_kind s.links kind) p i (list_at (lists_of s kind) k).at
  pub expressions : (k : ℕ) → k < length (lists_of r kind) → AreShort kind r s k
  pub filled : (p : ℕ) → p < length (of_kind s.links kind).parts → IsFilled kind s p
