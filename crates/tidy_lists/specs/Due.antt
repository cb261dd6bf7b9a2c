-- Where the lists and view pairs of a file that is written anew for another are due, and where they aren't (DWARF 5 sections 7.28 and 7.29). A
-- contribution of the written file is its header, its offsets, and then the lists of the old contribution in the order of their old places,
-- each directly behind its view pairs, which stand in the order of theirs. Places count from the first byte of the section.
use Rattle.std.specs.Prelude.{◌≡◌, ◌≢◌, ◌≤◌, ◌<◌, ◌+◌, ◌⊎◌, ℕ, List, [], ◌∷◌, length, filter, nat_eq}
use Rattle.std.specs.List.{range_with_len}
use Rattle.list_model.specs.declared.entry.ListKind.{ListKind}
use Rattle.list_model.specs.declared.entry.ListKind.TheVariants.{Ranges, Locations}
use Rattle.list_model.specs.Contributions.{lists_at, part_end}
use Rattle.value_links.specs.Reading.{Reading, of_kind, lists_of, part_at, list_at, view_at}
use Rattle.tidy_lists.specs.Followers.{Follows, FollowsFirst, RunFollows, RunFollowsFirst, HasLength, IsPartOfRun, RunHasLength}

-- WHAT A CONTRIBUTION IS TO HOLD

-- the numbers of the lists of a contribution, in the order of their places
abbrev pub lists_in : Reading → ListKind → ℕ → List ℕ
lists_in r kind p = filter (λ (k : ℕ). nat_eq (list_at (lists_of r kind) k).part p) (range_with_len 0 (length (lists_of r kind)))

-- the numbers of the runs of view pairs that go with a list, in the order of their places; ranges have none
abbrev pub runs_with : Reading → ListKind → ℕ → List ℕ
runs_with r Ranges k = []
runs_with r Locations k = filter (λ (j : ℕ). nat_eq (view_at r.views j).list (list_at r.location_lists k).at) (range_with_len 0 (length r.views))

-- a thing that a contribution is to hold: a run of view pairs, or a list, by its number in the old file
pub data Piece : Type 0 where
  ARun : ℕ → Piece
  AList : ℕ → Piece

abbrev pub runs_as_pieces : List ℕ → List Piece → List Piece
runs_as_pieces [] after = after
runs_as_pieces (j ∷ js) after = ARun j ∷ runs_as_pieces js after

-- each list behind its runs
abbrev pub pieces_of : Reading → ListKind → List ℕ → List Piece
pieces_of r kind [] = []
pieces_of r kind (k ∷ ks) = runs_as_pieces (runs_with r kind k) (AList k ∷ pieces_of r kind ks)

-- what the contribution with a number is to hold
abbrev pub pieces_in : Reading → ListKind → ℕ → List Piece
pieces_in r kind p = pieces_of r kind (lists_in r kind p)

-- the first written thing that is this one has so many bytes
abbrev pub PieceHasLength : ListKind → Reading → Reading → Piece → ℕ → Type 0
PieceHasLength kind r s (ARun j) len = (n : ℕ) × RunFollowsFirst r s j n × RunHasLength s (view_at s.views n) len
PieceHasLength kind r s (AList k) len = (m : ℕ) × FollowsFirst kind r s k m × HasLength kind s (list_at (lists_of s kind) m) len

-- Things are due one behind the other, from a start on; this one is due at a place.
abbrev pub IsDueAmong : ListKind → Reading → Reading → List Piece → ℕ → Piece → ℕ → Type 0
IsDueAmong kind r s [] start piece at = ⊥
IsDueAmong kind r s (first ∷ pieces) start piece at =
    ((piece ≡ first) × (at ≡ start)) ⊎ ((len : ℕ) × PieceHasLength kind r s first len × IsDueAmong kind r s pieces (start + len) piece at)

-- a thing is due at a place of the contribution with a number
abbrev pub IsDue : ListKind → Reading → Reading → ℕ → Piece → ℕ → Type 0
IsDue kind r s p piece at = IsDueAmong kind r s (pieces_in r kind p) (lists_at (part_at (of_kind s.links kind) p)) piece at

-- WHAT IS AMISS

-- A list stands elsewhere than where an old one is due that it is, or in another contribution.
pub record IsListElsewhere (kind : ListKind) (r s : Reading) (at : ℕ) : Type 0 where
  pub k : ℕ
  pub m : ℕ
  pub follows : Follows kind r s k m
  pub due : ℕ
  pub is_due : IsDue kind r s (list_at (lists_of r kind) k).part (AList k) due
  pub place : at ≡ (list_at (lists_of s kind) m).at
  pub elsewhere : (at ≢ due) ⊎ ((list_at (lists_of s kind) m).part ≢ (list_at (lists_of r kind) k).part)

-- A run of view pairs stands elsewhere than where an old one is due that it is, or in another contribution.
pub record IsRunElsewhere (r s : Reading) (at : ℕ) : Type 0 where
  pub j : ℕ
  pub n : ℕ
  pub follows : RunFollows r s j n
  pub p : ℕ
  pub part : IsPartOfRun r (view_at r.views j) p
  pub due : ℕ
  pub is_due : IsDue Locations r s p (ARun j) due
  pub place : at ≡ (view_at s.views n).at
  pub elsewhere : (at ≢ due) ⊎ (¬ IsPartOfRun s (view_at s.views n) p)

abbrev pub IsElsewhere : ListKind → Reading → Reading → ℕ → Type 0
IsElsewhere Ranges r s at = IsListElsewhere Ranges r s at
IsElsewhere Locations r s at = IsListElsewhere Locations r s at ⊎ IsRunElsewhere r s at

-- a list has the byte at a place
abbrev pub HasListByte : ListKind → Reading → ℕ → Type 0
HasListByte kind s x = (m : ℕ) × (len : ℕ) × (m < length (lists_of s kind)) × HasLength kind s (list_at (lists_of s kind) m) len × ((list_at (lists_of s kind) m).at ≤ x) × (x < (list_at (lists_of s kind) m).at + len)

-- a run of view pairs has it
abbrev pub HasRunByte : Reading → ℕ → Type 0
HasRunByte s x = (n : ℕ) × (len : ℕ) × (n < length s.views) × RunHasLength s (view_at s.views n) len × ((view_at s.views n).at ≤ x) × (x < (view_at s.views n).at + len)

-- a byte of a contribution, behind its offsets, that no list has and no run of view pairs
pub record IsLoose (kind : ListKind) (s : Reading) (x : ℕ) : Type 0 where
  pub p : ℕ
  pub known : p < length (of_kind s.links kind).parts
  pub from : lists_at (part_at (of_kind s.links kind) p) ≤ x
  pub to : x < part_end (part_at (of_kind s.links kind) p)
  pub no_list : HasListByte kind s x → ⊥
  pub no_run : kind ≡ Locations → HasRunByte s x → ⊥

-- THE ROWS

-- the rows of what may be amiss, in the order in which they are looked at
pub data Row : Type 0 where
  OfList : Row
  OfLooseByte : Row

abbrev pub order_of : Row → ℕ
order_of OfList = 0
order_of OfLooseByte = 1

-- a row holds at a place of the section of lists of a kind
abbrev pub HoldsAt : Row → ListKind → Reading → Reading → ℕ → Type 0
HoldsAt OfList kind r s at = IsElsewhere kind r s at
HoldsAt OfLooseByte kind r s at = IsLoose kind s at
