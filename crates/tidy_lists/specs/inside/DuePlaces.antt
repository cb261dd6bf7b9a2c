-- Where lists and view pairs are due, as it is found by walking through the old lists.
use Rattle.std.specs.Prelude.{◌≡◌, ◌≢◌, ◌≤◌, ◌<◌, ◌+◌, ◌-◌, ◌^◌, ◌++◌, ℕ, List, [], ◌∷◌, length, filter, min, nat_eq, slice_index, slice_index_or}
use Rattle.std.specs.List.{range_with_len}
use Rattle.list_model.specs.declared.entry.ListKind.{ListKind}
use Rattle.list_model.specs.declared.entry.ListKind.TheVariants.{Ranges, Locations}
use Rattle.list_model.specs.Contributions.{lists_at}
use Rattle.list_arena.specs.Held.{HeldList, HeldViews}
use Rattle.value_links.specs.Reading.{ViewRead, Reading, of_kind, lists_of, part_at, list_at, view_at}
use Rattle.value_links.specs.World.{World, lists_held}
use Rattle.tidy_lists.specs.declared.due.Place.{Place}
use Rattle.tidy_lists.specs.declared.followers.Follower.{Follower}
use Rattle.tidy_lists.specs.inside.Pairs.{ArePairs}
use Rattle.tidy_lists.specs.Followers.{FollowsFirst, RunFollows, RunFollowsFirst}
use Rattle.tidy_lists.specs.Due.{Piece, PieceHasLength, IsRunElsewhere, runs_as_pieces, pieces_of}

-- PLACES

-- the place with a number; past the end there is none
abbrev pub place_at : List Place → ℕ → Place
place_at places i = slice_index_or places i (record { part = 0; at = 0 })

-- where a place is past all numbers of 64 bits, the last of these stands for it
abbrev pub held_place : ℕ → ℕ
held_place at = min at (2 ^ 64 - 1)

-- RUNS OF VIEW PAIRS

-- those that go with lists of a kind; range lists have none
abbrev pub runs_of : Reading → ListKind → List ViewRead
runs_of r Ranges = []
runs_of r Locations = r.views

abbrev pub runs_held : World → ListKind → List HeldViews
runs_held world Ranges = []
runs_held world Locations = world.views

-- an old run is a written one
abbrev pub KindRunFollows : ListKind → Reading → Reading → ℕ → ℕ → Type 0
KindRunFollows Ranges r s j n = ⊥
KindRunFollows Locations r s j n = RunFollows r s j n

-- the pairs are those of the runs of a kind
abbrev pub AreKindRunPairs : ListKind → Reading → Reading → List Follower → Type 0
AreKindRunPairs kind r s pairs = ArePairs (KindRunFollows kind r s) (length (runs_of r kind)) pairs

-- a run of a kind stands elsewhere than where it is due
abbrev pub IsKindRunElsewhere : ListKind → Reading → Reading → ℕ → Type 0
IsKindRunElsewhere Ranges r s at = ⊥
IsKindRunElsewhere Locations r s at = IsRunElsewhere r s at

-- the first written things that the old ones are
abbrev pub AreFirstLists : ListKind → Reading → Reading → List ℕ → Type 0
AreFirstLists kind r s firsts = (k : ℕ) → k < length (lists_of r kind) → FollowsFirst kind r s k (slice_index firsts k)

abbrev pub AreFirstRuns : ListKind → Reading → Reading → List ℕ → Type 0
AreFirstRuns kind r s firsts = (j : ℕ) → j < length (runs_of r kind) → RunFollowsFirst r s j (slice_index firsts j)

-- WHAT STANDS BEFORE

-- the lists of a contribution before the one with a number
abbrev pub lists_before : Reading → ListKind → ℕ → ℕ → List ℕ
lists_before r kind p k = filter (λ (i : ℕ). nat_eq (list_at (lists_of r kind) i).part p) (range_with_len 0 k)

-- the runs of a list before the one with a number
abbrev pub runs_before : Reading → ListKind → ℕ → ℕ → List ℕ
runs_before r kind k j = filter (λ (i : ℕ). nat_eq (view_at (runs_of r kind) i).list (list_at (lists_of r kind) k).at) (range_with_len 0 j)

-- the number of the contribution of a list, and where the lists of that one begin in the written file
abbrev pub part_of : Reading → ListKind → ℕ → ℕ
part_of r kind k = (list_at (lists_of r kind) k).part

abbrev pub start_of : Reading → Reading → ListKind → ℕ → ℕ
start_of r s kind k = lists_at (part_at (of_kind s.links kind) (part_of r kind k))

-- what its contribution holds before a list and its runs
abbrev pub pieces_before : Reading → ListKind → ℕ → List Piece
pieces_before r kind k = pieces_of r kind (lists_before r kind (part_of r kind k) k)

-- and before a run of it
abbrev pub pieces_before_run : Reading → ListKind → ℕ → ℕ → List Piece
pieces_before_run r kind k j = pieces_before r kind k ++ runs_as_pieces (runs_before r kind k j) []

-- things that stand one behind the other from a start on end at a place
abbrev pub EndsAt : ListKind → Reading → Reading → List Piece → ℕ → ℕ → Type 0
EndsAt kind r s [] start end = end ≡ start
EndsAt kind r s (first ∷ pieces) start end = (len : ℕ) × PieceHasLength kind r s first len × EndsAt kind r s pieces (start + len) end

-- WHERE THINGS ARE DUE

-- things of the contribution of a list end at a place, which is held
pub record IsHeldEnd (kind : ListKind) (r s : Reading) (k : ℕ) (pieces : List Piece) (held : Place) : Type 0 where
  pub part : held.part ≡ part_of r kind k
  pub end : ℕ
  pub ends : EndsAt kind r s pieces (start_of r s kind k) end
  pub at : held.at ≡ held_place end

-- an old list is due there
abbrev pub IsListDue : ListKind → Reading → Reading → ℕ → Place → Type 0
IsListDue kind r s k held = IsHeldEnd kind r s k (pieces_before_run r kind k (length (runs_of r kind))) held

-- an old run is due there
pub record IsRunDue (kind : ListKind) (r s : Reading) (j : ℕ) (held : Place) : Type 0 where
  pub k : ℕ
  pub inside : k < length (lists_of r kind)
  pub with : (view_at (runs_of r kind) j).list ≡ (list_at (lists_of r kind) k).at
  pub due : IsHeldEnd kind r s k (pieces_before_run r kind k j) held

abbrev pub AreListsDue : ListKind → Reading → Reading → ℕ → List Place → Type 0
AreListsDue kind r s count due = (k : ℕ) → k < count → IsListDue kind r s k (place_at due k)

abbrev pub AreRunsDue : ListKind → Reading → Reading → ℕ → List Place → Type 0
AreRunsDue kind r s count due = (j : ℕ) → j < count → IsRunDue kind r s j (place_at due j)

-- the runs before a number are due where they are held to be, and so is what follows them of a list
pub record IsNextDue (kind : ListKind) (r s : Reading) (k : ℕ) (runs : List Place) (next : Place) : Type 0 where
  pub next_due : IsHeldEnd kind r s k (pieces_before_run r kind k (length runs)) next
  pub runs_due : AreRunsDue kind r s (length runs) runs

-- The runs from a number up to another are those of a list: what follows them is none of it.
pub record AreRunsOf (kind : ListKind) (r : Reading) (k from to : ℕ) : Type 0 where
  pub inside : to ≤ length (runs_of r kind)
  pub own : (j : ℕ) → from ≤ j → j < to → (view_at (runs_of r kind) j).list ≡ (list_at (lists_of r kind) k).at
  pub other : to < length (runs_of r kind) → (view_at (runs_of r kind) to).list ≢ (list_at (lists_of r kind) k).at

-- the same of what is held
pub record AreRunsHeld (world : World) (kind : ListKind) (k from to : ℕ) : Type 0 where
  pub more : from ≤ to
  pub inside : to ≤ length (runs_held world kind)
  pub own : (j : ℕ) (list : HeldList) (run : HeldViews) → from ≤ j → j < to → (slice_index_or (runs_held world kind) j run).list ≡ (slice_index_or (lists_held world kind) k list).at
  pub other : (list : HeldList) (run : HeldViews) → to < length (runs_held world kind) → (slice_index_or (runs_held world kind) to run).list ≢ (slice_index_or (lists_held world kind) k list).at

-- So many lists are passed, with their runs.
pub record ArePassed (kind : ListKind) (r : Reading) (lists runs : ℕ) : Type 0 where
  pub inside : runs ≤ length (runs_of r kind)
  pub passed : (j : ℕ) → j < runs → (k : ℕ) × (k < lists) × ((view_at (runs_of r kind) j).list ≡ (list_at (lists_of r kind) k).at)
  pub ahead : (j k : ℕ) → runs ≤ j → j < length (runs_of r kind) → k < lists → (list_at (lists_of r kind) k).at < (view_at (runs_of r kind) j).list

-- these are due where they are held to be
pub record AreDue (kind : ListKind) (r s : Reading) (lists runs : List Place) : Type 0 where
  pub lists_due : AreListsDue kind r s (length lists) lists
  pub runs_due : AreRunsDue kind r s (length runs) runs
  pub passed : ArePassed kind r (length lists) (length runs)

-- WHERE THINGS STAND

abbrev pub standing : HeldList → Place
standing list = record { part = list.part; at = list.at }

-- a written list stands there
pub record StandsList (kind : ListKind) (s : Reading) (m : ℕ) (held : Place) : Type 0 where
  pub part : held.part ≡ part_of s kind m
  pub at : held.at ≡ (list_at (lists_of s kind) m).at

-- the list at a place is of the contribution with a number
pub record IsPartOfList (kind : ListKind) (s : Reading) (at part : ℕ) : Type 0 where
  pub k : ℕ
  pub inside : k < length (lists_of s kind)
  pub list : (list_at (lists_of s kind) k).at ≡ at
  pub part_is : part_of s kind k ≡ part

-- a written run stands there
pub record StandsRun (kind : ListKind) (s : Reading) (n : ℕ) (held : Place) : Type 0 where
  pub part : IsPartOfList kind s (view_at (runs_of s kind) n).list held.part
  pub at : held.at ≡ (view_at (runs_of s kind) n).at

abbrev pub StandLists : ListKind → Reading → ℕ → List Place → Type 0
StandLists kind s count stands = (m : ℕ) → m < count → StandsList kind s m (place_at stands m)

abbrev pub StandRuns : ListKind → Reading → ℕ → List Place → Type 0
StandRuns kind s count stands = (n : ℕ) → n < count → StandsRun kind s n (place_at stands n)
