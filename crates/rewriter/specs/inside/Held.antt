-- What parts of the rewriter of units know of a file that is held, and of what they have made of it.
use Rattle.std.specs.Prelude.{◌≡◌, ◌≢◌, ◌≤◌, ◌<◌, ◌+◌, ◌^◌, ◌++◌, ℕ, List, length, slice_index, slice_index_or, take, Some}
use Rattle.std.specs.List.{All, AllZip}
use Rattle.spelled.specs.Spelled.{Appends}
use Rattle.leb_codec.specs.Records.{OfLayout, SpellsRecord}
use Rattle.form_codec.specs.declared.value.Value.{Value}
use Rattle.form_codec.specs.declared.value.Value.TheVariants as value
use Rattle.form_codec.specs.Values.{meant_in}
use Rattle.expr_ops.specs.declared.op.Op.{Op}
use Rattle.expr_ops.specs.declared.names.Named.{Named}
use Rattle.expr_ops.specs.declared.names.Named.TheVariants.{SectionEntry}
use Rattle.expr_ops.specs.Expressions.{Operation}
use Rattle.expr_ops.specs.Slots.{Aim}
use Rattle.expr_ops.specs.Drafts.{op_at}
use Rattle.expr_ops.specs.Names.{named_by}
use Rattle.abbrev_tables.specs.Tables.{Declared}
use Rattle.abbrev_tables.specs.Listings.{Listing, decl_at, spec_at}
use Rattle.entry_arena.specs.declared.entry.Entry.{Entry}
use Rattle.entry_arena.specs.Arena.{Arena, entry_at, value_at}
use Rattle.fixed_width.specs.InitialLengths.{least_reserved}
use Rattle.entry_read.specs.Heads.{type_unit}
use Rattle.entry_read.specs.Units.{HeadAndForest}
use Rattle.entry_read.specs.Slots.{aims_before, meaning_at}
use Rattle.unit_write.specs.declared.places.Places.{Places}
use Rattle.unit_write.specs.declared.slots.Spot.{Spot}
use Rattle.unit_write.specs.Slots.{IsSpotFor}
use Rattle.unit_write.specs.declared.write.NewNumbers.{NewNumbers}
use Rattle.unit_write.specs.Placing.{IsRenumbered}
use Rattle.unit_write.specs.Moved.{IsPlacedAt, IsWrittenAnew, new_values, lens_anew}
use Rattle.list_model.specs.declared.contribution.Contribution.{Contribution}
use Rattle.list_model.specs.declared.entry.ListKind.{ListKind}
use Rattle.list_model.specs.Contributions.{offsets_at}
use Rattle.list_write.specs.declared.image.Moved.{Moved}
use Rattle.list_write.specs.Written.{moved_at}
use Rattle.list_arena.specs.Held.{HeldList, HeldViews}
use Rattle.value_links.specs.Reading.{Reading, lists_of, unit_at, list_at, view_at}
use Rattle.value_links.specs.declared.link.Link.{Link}
use Rattle.value_links.specs.Linked.{Linked, Links}
use Rattle.value_links.specs.Linked.Linked.{ListAt, ViewsAt}
use Rattle.value_links.specs.Links.{IsLinkFound}
use Rattle.value_links.specs.Operations.{OpTarget, Names}
use Rattle.value_links.specs.World.{World, contributions_held, lists_held, table_at, operations_at, Holds}
use Rattle.rewriter.specs.declared.tables.NewTable.{NewTable}
use Rattle.rewriter.specs.declared.new_places.ListPlaces.{ListPlaces}
use Rattle.rewriter.specs.declared.new_places.MovedViews.{MovedViews}
use Rattle.rewriter.specs.declared.new_places.NewPlaces.{NewPlaces}
use Rattle.rewriter.specs.inside.NewPlaces.{moved_lists, moved_views_at, ViewsRise}
use Rattle.rewriter.specs.inside.Tables.{new_table_at}
use Rattle.rewriter.specs.inside.Placed.{PlacesAnew, places_anew, places_at, unit_in, written_in, IsPlacedBy, PlacesFollow}
use Rattle.rewriter.specs.inside.Numbers.{MovesEntry, IsNewNumber, IsNewReference, AreNewNumbers}

-- the unit with a number has a table, which is also written anew
pub record HasTable (world : World) (tables : List NewTable) (u : ℕ) : Type 0 where
  pub known : u < length world.units
  pub numbered : u < length world.table_of
  pub old : slice_index world.table_of u < length world.tables
  pub new : slice_index world.table_of u < length tables

-- The unit with a number stands at these places, from this one on. Its record stands behind others.
pub record IsPlacedFrom (world : World) (tables : List NewTable) (u start : ℕ) (old new : List ℕ) (places : Places) : Type 0 where
  pub begins : places.start ≡ start
  pub placed : IsPlacedBy world tables u (places_anew places)
  pub fits : places.end < least_reserved
  pub recorded : Appends SpellsRecord (OfLayout placed.ranks) old new

-- each entry and each code 0 of a unit has a place, which isn't before the unit
pub record HavePlaces (f : Arena) (places : PlacesAnew) : Type 0 where
  pub entries : length places.entries ≡ length f.entries
  pub ends : length places.ends ≡ length f.ends
  pub entries_after : (k : ℕ) → k < length places.entries → places.start ≤ slice_index places.entries k
  pub ends_after : (k : ℕ) → k < length places.ends → places.start ≤ slice_index places.ends k

-- this holds of each unit
pub record AllHavePlaces (world : World) (places : List Places) : Type 0 where
  pub count : length places ≡ length world.units
  pub each : (u : ℕ) → u < length world.units → HavePlaces (unit_in world.units u).forest (places_at places u)

-- Each list of a kind that is held was moved, each contribution has a new place, and all fit 32 bits.
pub record AreListPlaces (world : World) (kind : ListKind) (places : ListPlaces) : Type 0 where
  pub parts : length places.parts.items ≡ length (contributions_held world kind)
  pub parts_fit : All (λ (part : Contribution). offsets_at part.at < 2 ^ 32) places.parts.items
  pub lists : length places.lists.items ≡ length (lists_held world kind)
  pub from : (k : ℕ) (d : HeldList) → k < length (lists_held world kind) → (moved_at places.lists.items k).old ≡ (slice_index_or (lists_held world kind) k d).at
  pub rising : (j k : ℕ) → j < k → k < length places.lists.items → (moved_at places.lists.items j).old < (moved_at places.lists.items k).old
  pub lists_fit : All (λ (list : Moved). list.new < 2 ^ 32) places.lists.items

-- the view pairs that are held have new places, which fit 32 bits
pub record AreViewPlaces (world : World) (moved : List MovedViews) : Type 0 where
  pub count : length moved ≡ length world.views
  pub each : (k : ℕ) (d : HeldViews) → k < length world.views → ((moved_views_at moved k).list ≡ (slice_index_or world.views k d).list) × ((moved_views_at moved k).old ≡ (slice_index_or world.views k d).at)
  pub rising : ViewsRise moved
  pub fit : All (λ (views : MovedViews). views.new < 2 ^ 32) moved

-- each line number program has a new place, which fits 32 bits, and so have the contributions, the lists and the view pairs
pub record AreNewPlaces (world : World) (new_places : NewPlaces) : Type 0 where
  pub programs : length new_places.programs.items ≡ length world.programs
  pub programs_fit : All (λ (start : ℕ). start < 2 ^ 32) new_places.programs.items
  pub lists : (kind : ListKind) → AreListPlaces world kind (moved_lists new_places kind)
  pub views : AreViewPlaces world new_places.views.items

-- a section offset has the 4 bytes of the 32-bit format (DWARF 5 section 7.4)
abbrev pub FitsOffset : Value → Type 0
FitsOffset (value.Offset n) = n < 2 ^ 32
FitsOffset other = Unit {0}

-- Something that is read of the file says what the value of an attribute of an entry refers to. A list to which it refers is read, and so
-- are view pairs.
pub record MeansSomething (world : World) (u id name : ℕ) (v : Value) : Type 0 where
  pub file : List ℕ
  pub r : Reading
  pub holds : Holds file world r
  pub linked : Linked
  pub links : Links r.links u id name (meant_in (unit_at r.links u).forest.section v) linked
  pub listed : (kind : ListKind) (n : ℕ) → Links r.links u id name (meant_in (unit_at r.links u).forest.section v) (ListAt kind n) → (k : ℕ) × (k < length (lists_of r kind)) × ((list_at (lists_of r kind) k).at ≡ n)
  pub viewed : (list n : ℕ) → Links r.links u id name (meant_in (unit_at r.links u).forest.section v) (ViewsAt list n) → (k : ℕ) × (k < length r.views) × ((view_at r.views k).list ≡ list) × ((view_at r.views k).at ≡ n)
  pub fits : FitsOffset v

-- such a value has this link
abbrev pub IsLinkFor : World → ℕ → ℕ → ℕ → Value → Link → Type 0
IsLinkFor world u id name v link =
    (file : List ℕ) (r : Reading) → Holds file world r → IsLinkFound r.links u id name (meant_in (unit_at r.links u).forest.section v) (Some link)

-- and this new number
abbrev pub IsNumberOf : World → List Places → NewPlaces → ℕ → ℕ → ℕ → Value → ℕ → Type 0
IsNumberOf world places new_places u id name v new =
    (file : List ℕ) (r : Reading) → Holds file world r → IsNewNumber r.links places new_places u id name (meant_in (unit_at r.links u).forest.section v) new

-- the table of a unit, an entry, the name of one of its attributes, and its value
abbrev pub table_for : World → ℕ → Listing
table_for world u = (table_at world.tables (slice_index world.table_of u)).table

abbrev pub entry_in : World → ℕ → ℕ → Entry
entry_in world u id = entry_at (unit_in world.units u).forest.entries id

abbrev pub name_in : World → ℕ → ℕ → ℕ → ℕ
name_in world u id column = (spec_at (table_for world u).specs ((decl_at (table_for world u).decls (entry_in world u id).decl).first + column)).name

abbrev pub value_in : World → HeadAndForest → ℕ → ℕ → ℕ → Value
value_in world own u id column = value_at own.forest.values ((entry_in world u id).first + column)

-- The entry is there with its declaration, its columns and its values, and each of these means something. `own` is its unit as it is
-- written.
pub record EntryMeans (world : World) (own : HeadAndForest) (u id : ℕ) : Type 0 where
  pub unit : u < length world.units
  pub numbered : u < length world.table_of
  pub table : slice_index world.table_of u < length world.tables
  pub entry : id < length (unit_in world.units u).forest.entries
  pub declared : (entry_in world u id).decl < length (table_for world u).decls
  pub counted : (entry_in world u id).count ≡ (decl_at (table_for world u).decls (entry_in world u id).decl).count
  pub columns : (decl_at (table_for world u).decls (entry_in world u id).decl).first + (entry_in world u id).count ≤ length (table_for world u).specs
  pub values : (entry_in world u id).first + (entry_in world u id).count ≤ length own.forest.values
  pub means : (column : ℕ) → column < (entry_in world u id).count → MeansSomething world u id (name_in world u id column) (value_in world own u id column)

-- Numbers for the first columns of an entry follow others.
pub record AreNumbersUpTo (world : World) (own : HeadAndForest) (places : List Places) (new_places : NewPlaces) (u id : ℕ) (old new : List ℕ) (count : ℕ) : Type 0 where
  pub size : length new ≡ length old + count
  pub front : (k : ℕ) → k < length old → slice_index new k ≡ slice_index old k
  pub fit : (k : ℕ) → length old ≤ k → k < length new → slice_index new k < 2 ^ 32
  pub each : (column : ℕ) → column < count → IsNumberOf world places new_places u id (name_in world u id column) (value_in world own u id column) (slice_index new (length old + column))

abbrev pub AreNumbersOf : World → HeadAndForest → List Places → NewPlaces → ℕ → ℕ → List ℕ → List ℕ → Type 0
AreNumbersOf world own places new_places u id old new = AreNumbersUpTo world own places new_places u id old new (entry_in world u id).count

-- Each value is one of an entry, and the entries have them one after the other.
pub record HaveAllValues (f : Arena) : Type 0 where
  pub some : 0 < length f.entries
  pub first : (entry_at f.entries 0).first ≡ 0
  pub adjacent : (id : ℕ) → id + 1 < length f.entries → (entry_at f.entries (id + 1)).first ≡ (entry_at f.entries id).first + (entry_at f.entries id).count
  pub last : (id : ℕ) → id + 1 ≡ length f.entries → (entry_at f.entries id).first + (entry_at f.entries id).count ≡ length f.values

-- all entries of a unit are there, with values that mean something
pub record UnitMeans (world : World) (own : HeadAndForest) (u : ℕ) : Type 0 where
  pub known : u < length world.units
  pub values : HaveAllValues own.forest
  pub same : own.forest.entries ≡ (unit_in world.units u).forest.entries
  pub entries : (id : ℕ) → id < length (unit_in world.units u).forest.entries → EntryMeans world own u id

-- An entry that is named in an expression of the unit `u` has a place, which isn't before what its reference counts from.
pub record IsEntryPlaced (places : List Places) (u : ℕ) (named : Named) (other id : ℕ) : Type 0 where
  pub own : u < length places
  pub unit : other < length places
  pub entry : id < length (places_at places other).entries
  pub after : named ≢ SectionEntry → (places_at places u).start ≤ slice_index (places_at places other).entries id

-- the number counts from the first byte of .debug_info, or of the unit `u`, to the new place of an entry
abbrev pub IsCounted : List Places → ℕ → Named → ℕ → ℕ → ℕ → Type 0
IsCounted places u SectionEntry other id new = slice_index (places_at places other).entries id ≡ new
IsCounted places u named other id new = slice_index (places_at places other).entries id ≡ (places_at places u).start + new

-- the new number of the reference of an operation in an expression of the unit `u`, where it names something that it may
abbrev pub IsReferenceOf : World → List Places → ℕ → Op → ℕ → Type 0
IsReferenceOf world places u op new =
    (file : List ℕ) (r : Reading) (target : OpTarget) → Holds file world r → Names r.links u op.code op.a target → IsNewReference r.links places u (named_by op.code) op.code op.a new

-- those of the first operations of a unit
pub record AreOperationsUpTo (world : World) (places : List Places) (u : ℕ) (numbers : List ℕ) (count : ℕ) : Type 0 where
  pub size : length numbers ≡ count
  pub fit : (k : ℕ) → k < length numbers → slice_index numbers k < 2 ^ 32
  pub each : (k : ℕ) → k < count → IsReferenceOf world places u (op_at (operations_at world.operations u).ops k) (slice_index numbers k)

abbrev pub AreOperationsNumbered : World → List Places → ℕ → List ℕ → Type 0
AreOperationsNumbered world places u numbers = AreOperationsUpTo world places u numbers (length (operations_at world.operations u).ops)

-- the new numbers of the values of the first entries
pub record AreNumberedUpTo (world : World) (own : HeadAndForest) (places : List Places) (new_places : NewPlaces) (u : ℕ) (held : List ℕ) (count : ℕ) : Type 0 where
  pub size : (count < length (unit_in world.units u).forest.entries → length held ≡ (entry_in world u count).first) × (count ≡ length (unit_in world.units u).forest.entries → length held ≡ length own.forest.values)
  pub fit : (k : ℕ) → k < length held → slice_index held k < 2 ^ 32
  pub inside : (id : ℕ) → id < count → (entry_in world u id).first + (entry_in world u id).count ≤ length held
  pub each : (id column : ℕ) → id < count → column < (entry_in world u id).count → IsNumberOf world places new_places u id (name_in world u id column) (value_in world own u id column) (slice_index held ((entry_in world u id).first + column))

abbrev pub AreNumbered : World → HeadAndForest → List Places → NewPlaces → ℕ → List ℕ → Type 0
AreNumbered world own places new_places u held = AreNumberedUpTo world own places new_places u held (length (unit_in world.units u).forest.entries)

-- the reference of an operation in an expression of the unit `u` names what it may, if it has one
abbrev pub OperationNames : World → ℕ → Op → Type 0
OperationNames world u op = (file : List ℕ) (r : Reading) → Holds file world r → (target : OpTarget) × Names r.links u op.code op.a target

-- what the slots with these aims name is added behind others
pub record AddsSpots (unit : HeadAndForest) (aims : List Aim) (old new : List Spot) : Type 0 where
  pub spots : List Spot
  pub behind : new ≡ old ++ spots
  pub are : AllZip (IsSpotFor unit.forest unit.head.at) aims spots

-- what the slots of a unit name, of the values before one
abbrev pub AreSpotsUpTo : HeadAndForest → (ℕ → List Operation) → List Spot → ℕ → Type 0
AreSpotsUpTo unit ops spots count = AllZip (IsSpotFor unit.forest unit.head.at) (aims_before (meaning_at unit.forest) ops count) spots

-- The entry of a type unit's type stands in the unit.
abbrev pub HasType : HeadAndForest → Type 0
HasType unit =
    unit.head.kind ≡ type_unit → (id : ℕ) × (id < length unit.forest.entries) × ((entry_at unit.forest.entries id).at ≡ unit.head.at + unit.head.type_at)

-- the new type_offset of a unit
pub record IsTypeMoved (unit : HeadAndForest) (places : PlacesAnew) (new : ℕ) : Type 0 where
  pub entry : unit.head.kind ≡ type_unit → MovesEntry unit.forest places (unit.head.at + unit.head.type_at) (places.start + new)
  pub none : unit.head.kind ≢ type_unit → new ≡ 0
  pub fits : new < 2 ^ 32

-- The unit with a number stands anew at the end of a section, with its new numbers. Each of its slots is as long as its number
-- needs, and so it has its places.
pub record IsUnitBehind (world : World) (tables : List NewTable) (places : List Places) (new_places : NewPlaces) (u : ℕ) (section : List ℕ) : Type 0 where
  pub numbers : NewNumbers
  pub numbered : (file : List ℕ) (r : Reading) → Holds file world r → AreNewNumbers world r.links tables places new_places u numbers
  pub placed : IsPlacedAt (written_in world tables u) (table_for world u) (new_table_at tables (slice_index world.table_of u)).columns (new_table_at tables (slice_index world.table_of u)).numbers (lens_anew (written_in world tables u).forest (new_values numbers)) (places_at places u).start (places_at places u).entries (places_at places u).ends (places_at places u).end
  pub written : (ds : List Declared) → IsRenumbered (table_for world u) (new_table_at tables (slice_index world.table_of u)).columns (new_table_at tables (slice_index world.table_of u)).numbers ds → IsWrittenAnew (written_in world tables u) (table_for world u) (new_table_at tables (slice_index world.table_of u)).columns (new_table_at tables (slice_index world.table_of u)).numbers ds numbers.table numbers.type_offset (new_values numbers) (places_at places u).start section

-- The first units stand anew in a section, each at its place.
pub record StandAnew (world : World) (tables : List NewTable) (places : List Places) (new_places : NewPlaces) (section : List ℕ) (count : ℕ) : Type 0 where
  pub size : (count < length world.units → length section ≡ (places_at places count).start) × (count ≡ length world.units → PlacesFollow places 0 (length section))
  pub fits : length section < least_reserved
  pub inside : (u : ℕ) → u < count → (places_at places u).end ≤ length section
  pub each : (u : ℕ) → u < count → IsUnitBehind world tables places new_places u (take (places_at places u).end section)
