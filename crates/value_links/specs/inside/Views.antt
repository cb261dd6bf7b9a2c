-- View pairs that values name, as they are gathered, counted and read.
-- Inner functions and proofs alone need what stands here.
use Rattle.std.specs.Prelude.{◌≡◌, ◌<◌, ◌≤◌, ◌+◌, ◌⊎◌, ◌∷◌, ◌++◌, ℕ, List, [], length, map, filter, nat_eq, if◌then◌else◌, Bool, Option, Some, None}
use Rattle.std.specs.List.{All, Contains, list_any, sum_by}
use Rattle.std.specs.List.Sorted.{IsPermutation}
use Rattle.dw_base.specs.declared.fault.Kind.{Kind}
use Rattle.dw_base.specs.declared.fault.Kind.TheVariants.{Limit}
use Rattle.dw_base.specs.declared.fault.Fault.{Fault}
use Rattle.form_codec.specs.Forms.{Meaning}
use Rattle.form_codec.specs.Values.{meant_in}
use Rattle.abbrev_tables.specs.declared.decl.Spec.{Spec}
use Rattle.abbrev_tables.specs.Listings.{spec_at}
use Rattle.entry_arena.specs.Arena.{value_at}
use Rattle.list_model.specs.declared.entry.ListKind.TheVariants.{Locations}
use Rattle.list_model.specs.declared.entry.RawEntry.{RawEntry}
use Rattle.loc_lists.specs.Views.{IsRunAt, FaultRun, view_limit}
use Rattle.list_arena.specs.Held.{HeldList, HeldViews}
use Rattle.value_links.specs.declared.parts.Parts.{Parts}
use Rattle.value_links.specs.Parts.{HoldsParts}
use Rattle.value_links.specs.Attributes.{gnu_locviews}
use Rattle.value_links.specs.Reading.{ListSection, Linkable, ListRead, unit_at, part_at}
use Rattle.value_links.specs.Values.{entry_of, declaration_of}
use Rattle.value_links.specs.ListPlaces.{IsListPlace}
use Rattle.value_links.specs.Linked.{Links}
use Rattle.value_links.specs.Linked.Linked.{ViewsAt}
use Rattle.value_links.specs.Lists.{AreListsOf, AreViewsNamed}
use Rattle.value_links.specs.World.{HoldLists}
use Rattle.value_links.specs.inside.Namings.{AreInOrder}

-- WHAT IS GATHERED

-- A viewing is the place of view pairs and that of the list with which they go. The value of an attribute names it.
abbrev pub IsViewing : Linkable → ℕ → ℕ → ℕ → Meaning → ℕ × ℕ → Type 0
IsViewing r u id name meaning viewing = Links r u id name meaning (ViewsAt viewing.1 viewing.0)

-- the one that it names, or none
abbrev pub IsViewingFound : Linkable → ℕ → ℕ → ℕ → Meaning → Option (ℕ × ℕ) → Type 0
IsViewingFound r u id name meaning (Some viewing) = IsViewing r u id name meaning viewing × ((other : ℕ × ℕ) → IsViewing r u id name meaning other → other ≡ viewing)
IsViewingFound r u id name meaning None = (other : ℕ × ℕ) → ¬ IsViewing r u id name meaning other

-- the value of a column of an entry names it
abbrev pub IsColumnViewing : Linkable → ℕ → ℕ → ℕ → ℕ × ℕ → Type 0
IsColumnViewing r u id column viewing = IsViewing r u id (spec_at (declaration_of (unit_at r u) id).columns column).name (meant_in (unit_at r u).forest.section (value_at (unit_at r u).forest.values ((entry_of (unit_at r u) id).first + column))) viewing

-- one of the columns of a declaration is that of view pairs
abbrev pub HaveViews : List Spec → Type 0
HaveViews columns = (column : Spec) × Contains columns column × (column.name ≡ gnu_locviews)

-- one of the first columns of an entry does
abbrev pub IsEntryViewing : Linkable → ℕ → ℕ → ℕ → ℕ × ℕ → Type 0
IsEntryViewing r u id n viewing = (column : ℕ) × (column < n) × IsColumnViewing r u id column viewing

-- one of the first entries of a unit does
abbrev pub IsUnitViewing : Linkable → ℕ → ℕ → ℕ × ℕ → Type 0
IsUnitViewing r u n viewing = (id : ℕ) × (id < n) × IsEntryViewing r u id (entry_of (unit_at r u) id).count viewing

-- one of the first units does
abbrev pub IsSomeViewing : Linkable → ℕ → ℕ × ℕ → Type 0
IsSomeViewing r n viewing = (u : ℕ) × (u < n) × IsUnitViewing r u (length (unit_at r u).forest.entries) viewing

-- a viewing stands before another: by the first place, then by the second
abbrev pub IsBefore : ℕ × ℕ → ℕ × ℕ → Type 0
IsBefore x y = (x.0 < y.0) ⊎ ((x.0 ≡ y.0) × (x.1 < y.1))

-- These are all that values name.
pub record AreViewings (r : Linkable) (viewings : List (ℕ × ℕ)) : Type 0 where
  pub named : (viewing : ℕ × ℕ) → Contains viewings viewing → AreViewsNamed r viewing.1 viewing.0
  pub all : (list at : ℕ) → AreViewsNamed r list at → Contains viewings (at, list)

-- WHAT IS COUNTED

-- the location lists that something names are held
abbrev pub AreLocationsHeld : Parts → List HeldList → Type 0
AreLocationsHeld parts held = (file : List ℕ) × (r : Linkable) × (read : List ListRead) × HoldsParts file r parts × AreListsOf r Locations read × HoldLists r Locations read held

-- a list is one of these and begins at a place
abbrev pub IsListFrom : List HeldList → ℕ → HeldList → Type 0
IsListFrom lists place list = Contains lists list × (list.at ≡ place)

-- one of them does
abbrev pub HasListFrom : List HeldList → ℕ → Type 0
HasListFrom lists place = (list : HeldList) × IsListFrom lists place list

-- each viewing goes with one of the lists
abbrev pub HaveLists : List (ℕ × ℕ) → List HeldList → Type 0
HaveLists viewings lists = All (λ (viewing : ℕ × ℕ). HasListFrom lists viewing.1) viewings

-- how many pairs go with entries of a location list, by their codes (DWARF 5 section 7.7.3): one with each that is an item from a start up to
-- an end
abbrev pub is_bounded_code : ℕ → Bool
is_bounded_code code = list_any (nat_eq code) (2 ∷ 3 ∷ 4 ∷ 7 ∷ 8 ∷ [])

abbrev pub raw_pairs : List RawEntry → ℕ
raw_pairs raws = length (filter (λ (raw : RawEntry). is_bounded_code raw.code) raws)

-- how many go with the first list that begins at a place
abbrev pub pairs_from : List HeldList → ℕ → ℕ
pairs_from [] place = 0
pairs_from (list ∷ lists) place = if nat_eq list.at place then raw_pairs list.raw else pairs_from lists place

-- with the list of a viewing
abbrev pub pairs_for : List HeldList → ℕ × ℕ → ℕ
pairs_for lists viewing = pairs_from lists viewing.1

abbrev pub total_for : List HeldList → List (ℕ × ℕ) → ℕ
total_for lists viewings = sum_by (pairs_for lists) viewings

-- With some viewing all up to it have more pairs than a file may have. It is said of the place of its pairs.
pub record PassesWith (viewings : List (ℕ × ℕ)) (lists : List HeldList) (origin : ℕ) (fault : Fault) : Type 0 where
  pub kind : fault.kind ≡ Limit
  pub viewing : ℕ × ℕ
  pub front : List (ℕ × ℕ)
  pub rest : List (ℕ × ℕ)
  pub parts : viewings ≡ front ++ viewing ∷ rest
  pub within : total_for lists front ≤ view_limit
  pub past : view_limit < total_for lists front + pairs_for lists viewing
  pub here : fault.place ≡ origin + viewing.0

-- WHAT IS READ

-- the place of a list and that of view pairs, where they stood the other way
abbrev pub turn : ℕ × ℕ → ℕ × ℕ
turn viewing = (viewing.1, viewing.0)

-- these are the viewings by the places of their lists, and those of one list by their own
pub record AreTurned (viewings turned : List (ℕ × ℕ)) : Type 0 where
  pub moved : IsPermutation (map turn viewings) turned
  pub order : AreInOrder turned

-- Pairs behind the place of a list are to be read: one of these lists begins there, its contribution has the place of the pairs, and they
-- are few.
pub record IsWanted (section : ListSection) (lists : List HeldList) (turned : ℕ × ℕ) : Type 0 where
  pub known : HasListFrom lists turned.0
  pub stands : (list : HeldList) → IsListFrom lists turned.0 list → IsListPlace section list.part turned.1
  pub few : (list : HeldList) → IsListFrom lists turned.0 list → raw_pairs list.raw ≤ view_limit

-- one of them isn't whole, or doesn't fit
abbrev pub FaultWanted : ListSection → List HeldList → List (ℕ × ℕ) → Kind → ℕ → Type 0
FaultWanted section lists turned kind place = (y : ℕ × ℕ) × Contains turned y × (list : HeldList) × IsListFrom lists y.0 list × FaultRun section.section (part_at section list.part) y.1 (raw_pairs list.raw) kind place

-- the pairs at a place that go with a list are read
pub record IsRunRead (section : ListSection) (list : HeldList) (place : ℕ) (run : HeldViews) : Type 0 where
  pub list_is : run.list ≡ list.at
  pub at_is : run.at ≡ place
  pub counted : length run.pairs ≡ raw_pairs list.raw
  pub read : IsRunAt section.section (part_at section list.part) place run.pairs

-- they are those of one of the lists
abbrev pub IsRunOf : ListSection → List HeldList → HeldViews → Type 0
IsRunOf section lists run = (list : HeldList) × Contains lists list × IsRunRead section list run.at run

-- the place of the list of pairs that are read, and their own
abbrev pub run_place : HeldViews → ℕ × ℕ
run_place run = (run.list, run.at)

-- these are read of the first of some
pub record AreRunsRead (section : ListSection) (lists : List HeldList) (turned : List (ℕ × ℕ)) (runs : List HeldViews) : Type 0 where
  pub places : map run_place runs ≡ turned
  pub each : All (IsRunOf section lists) runs
