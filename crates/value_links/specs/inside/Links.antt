-- What a link says of a value, and where it is looked up in what is held.
-- Inner functions and proofs alone need what stands here.
use Rattle.std.specs.Prelude.{◌≤◌, ◌<◌, ◌+◌, ◌^◌, ℕ, List, [], length, slice_index_or, Option, Some, None}
use Rattle.line_machine.specs.declared.head.Head.{Head}
use Rattle.entry_arena.specs.declared.entry.Target.{Target}
use Rattle.entry_arena.specs.declared.entry.Target.TheVariants.{Entry as TheEntry, ChainEnd as TheEnd}
use Rattle.entry_arena.specs.Arena.{Arena}
use Rattle.entry_arena.specs.Order.{IsInOrder}
use Rattle.entry_read.specs.Units.{HeadAndForest}
use Rattle.value_links.specs.declared.link.Link.{Link}
use Rattle.value_links.specs.declared.link.Link.TheVariants.{Place}
use Rattle.list_model.specs.declared.entry.ListKind.{ListKind}
use Rattle.list_model.specs.declared.entry.ListKind.TheVariants.{Ranges, Locations}
use Rattle.value_links.specs.Attributes.{OffsetClass}
use Rattle.value_links.specs.Attributes.OffsetClass.{RngListsPtr, LocListsPtr}
use Rattle.value_links.specs.Reading.{no_program}
use Rattle.value_links.specs.declared.operations.OpLink.{OpLink}
use Rattle.value_links.specs.declared.operations.OpLink.TheVariants.{Entry as AnEntry}
use Rattle.value_links.specs.Linked.{IsTargetAt}
use Rattle.value_links.specs.Links.{held_at}

-- WHAT IS HELD

-- the header of the line number program with a number; past the end there is none, and an empty one stands for it
abbrev pub program_among : List Head → ℕ → Head
program_among programs p = slice_index_or programs p no_program.head

-- Units that numbers of 32 bits name, each of which ends no later than a later one begins, and holds its targets in order.
pub record AreUnitsApart (units : List HeadAndForest) : Type 0 where
  pub few : length units < 2 ^ 32
  pub rising : (i j : ℕ) → i < j → j < length units → (held_at units i).head.at + (held_at units i).head.len ≤ (held_at units j).head.at
  pub order : (i : ℕ) → i < length units → IsInOrder (held_at units i).forest
  pub from : (i : ℕ) (target : Target) (place : ℕ) → i < length units → IsTargetAt (held_at units i).forest target place → (held_at units i).head.at ≤ place
  pub to : (i : ℕ) (target : Target) (place : ℕ) → i < length units → IsTargetAt (held_at units i).forest target place → place < (held_at units i).head.at + (held_at units i).head.len

-- Line number programs that numbers of 32 bits name, each of which begins before a later one.
pub record AreProgramsApart (programs : List Head) : Type 0 where
  pub few : length programs < 2 ^ 32
  pub rising : (i j : ℕ) → i < j → j < length programs → (program_among programs i).at < (program_among programs j).at

-- the class of the section offsets that name contributions of a kind
abbrev pub base_class : ListKind → OffsetClass
base_class Ranges = RngListsPtr
base_class Locations = LocListsPtr

-- WHAT IS FOUND

-- the last of some things that begins at a place or before it
abbrev pub IsLastOf : {X : Type 0} → (X → ℕ) → X → List X → ℕ → Option ℕ → Type 0
IsLastOf at d xs place (Some i) = (i < length xs) × (at (slice_index_or xs i d) ≤ place) × ((j : ℕ) → i < j → j < length xs → place < at (slice_index_or xs j d))
IsLastOf at d xs place None = (j : ℕ) → j < length xs → place < at (slice_index_or xs j d)

-- the last unit that does
abbrev pub IsLastFrom : List HeadAndForest → ℕ → Option ℕ → Type 0
IsLastFrom units place found = IsLastOf (λ (u : HeadAndForest). u.head.at) (held_at [] 0) units place found

-- what stands at a place of a unit
abbrev pub IsTargetFound : Arena → ℕ → Option Target → Type 0
IsTargetFound forest place (Some target) = IsTargetAt forest target place
IsTargetFound forest place None = (target : Target) → IsTargetAt forest target place → ⊥

-- what stands at a place of some unit
abbrev pub IsSectionTargetFound : List HeadAndForest → ℕ → Option Link → Type 0
IsSectionTargetFound units place (Some (Place unit target)) = (unit < length units) × IsTargetAt (held_at units unit).forest target place
IsSectionTargetFound units place (Some link) = ⊥
IsSectionTargetFound units place None = (unit : ℕ) (target : Target) → unit < length units → IsTargetAt (held_at units unit).forest target place → ⊥

-- an entry of a unit, as what an operation names; the end of a chain is none
abbrev pub entry_link : ℕ → Target → Option OpLink
entry_link unit (TheEntry id) = Some (AnEntry unit id)
entry_link unit (TheEnd id) = None
