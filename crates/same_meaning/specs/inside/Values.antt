-- What values and entries are compared by: what their links mean, and where it is held.
use Rattle.std.specs.Prelude.{◌≡◌, ◌<◌, ◌↔◌, ℕ, List, length, slice_index_or, Bool, IsTrue}
use Rattle.std.specs.List.{Contains}
use Rattle.form_codec.specs.declared.value.Value.{Value}
use Rattle.form_codec.specs.Forms.{Meaning}
use Rattle.form_codec.specs.Forms.Meaning.{Address}
use Rattle.form_codec.specs.Values.{meant_in}
use Rattle.abbrev_tables.specs.Listings.{spec_at}
use Rattle.entry_arena.specs.declared.entry.Entry.{Entry}
use Rattle.entry_arena.specs.Arena.{entry_at, value_at}
use Rattle.entry_arena.specs.Forests.{Described}
use Rattle.loc_lists.specs.declared.views.ViewPair.{ViewPair}
use Rattle.value_links.specs.declared.link.Link.{Link}
use Rattle.value_links.specs.declared.link.Link.TheVariants.{Plain, Place, Lines, List as AtList, Slot, Base, Views, Kept as KeptPlace}
use Rattle.list_arena.specs.Held.{HeldViews}
use Rattle.value_links.specs.Debug.{MeansSlot, MeansAttribute}
use Rattle.value_links.specs.Values.{declaration_of, described_at}
use Rattle.value_links.specs.Links.{held_at}
use Rattle.value_links.specs.Reading.{Reading, unit_at}
use Rattle.value_links.specs.Resolved.{Resolved, ListMeaning, MeansList, Resolves}
use Rattle.value_links.specs.Resolved.Resolved.{Itself, Refers, Program, AList, Indexed, PartOf, Pairs, Kept}
use Rattle.value_links.specs.Whole.{IsReading}
use Rattle.value_links.specs.World.{World, Holds, contributions_held, contribution_at}
use Rattle.same_meaning.specs.inside.Compared.{OfBoth, MeanOne, HasListAt, StandsIn}

-- this holds of what is read of a file
abbrev pub OfReading : World → (Reading → Type 0) → Type 0
OfReading world P = (r : Reading) → IsReading world.image r → Holds world.image world r → P r

-- LINKS

-- what a value means that is no expression and has a link
abbrev pub MeansLink : Reading → Meaning → Link → Resolved → Type 0
MeansLink r meaning Plain value = value ≡ Itself meaning
MeansLink r meaning (Place unit target) value = value ≡ Refers unit target
MeansLink r meaning (Lines program) value = value ≡ Program program
MeansLink r meaning (AtList kind at) value = (list : ListMeaning) × MeansList r kind at list × (value ≡ AList list)
MeansLink r meaning (Slot kind part slot) value = (list : ListMeaning) × MeansSlot r kind part slot list × (value ≡ Indexed slot list)
MeansLink r meaning (Base kind part) value = value ≡ PartOf kind part
MeansLink r meaning (Views list at) value = (pairs : List ViewPair) × Contains r.views (record { list = list; at = at; pairs = pairs }) × (value ≡ Pairs pairs)
MeansLink r meaning (KeptPlace place) value = value ≡ Kept place

-- this is what the link tells of a value of an attribute with a name, in an entry of a unit
abbrev pub IsTold : Reading → ℕ → ℕ → ℕ → Meaning → Link → Type 0
IsTold r u id name meaning link = (value : Resolved) → Resolves r u id name meaning value ↔ MeansLink r meaning link value

-- whether two links tell the same, whatever the values are that have them
abbrev pub TellSame : World → World → Link → Link → Bool → Type 0
TellSame a b first second same = OfBoth a b (λ r s. (m n : Meaning) → IsTrue same ↔ MeanOne (MeansLink r m first) (MeansLink s n second))

-- view pairs are held that go with the location list at a place, and stand at another
pub record HoldsPairs (views : List HeldViews) (list at : ℕ) (pairs : List ViewPair) : Type 0 where
  pub run : HeldViews
  pub one : Contains views run
  pub with : run.list ≡ list
  pub here : run.at ≡ at
  pub pairs_are : pairs ≡ run.pairs

-- what a link tells is held
abbrev pub IsThere : World → Link → Type 0
IsThere world (AtList kind at) = HasListAt world kind at
IsThere world (Slot kind part slot) = (part < length (contributions_held world kind)) × (slot < (contribution_at world kind part).slots)
IsThere world (Views list at) = (pairs : List ViewPair) × HoldsPairs world.views list at pairs
IsThere world link = Unit {0}

-- VALUES

-- the bytes of the section in which the unit with a number stands
abbrev pub section_at : World → ℕ → List ℕ
section_at world u = (held_at world.units u).forest.section

-- the value is that of an attribute with a name, in an entry of the unit with a number
pub record IsValueOf (world : World) (u id name : ℕ) (v : Value) : Type 0 where
  pub number : ℕ
  pub is : v ≡ value_at (held_at world.units u).forest.values number
  pub stands : OfReading world (λ r. StandsIn r u id name number)

-- what it means
abbrev pub MeansHeld : Reading → ℕ → ℕ → ℕ → Value → Resolved → Type 0
MeansHeld r u id name v value = Resolves r u id name (meant_in (unit_at r.links u).forest.section v) value

-- ATTRIBUTES

-- the entry with a number, as it is held
abbrev pub entry_held : World → ℕ → ℕ → Entry
entry_held world u id = entry_at (held_at world.units u).forest.entries id

-- the attribute with a number of an entry, as it stands; past the end there is none, and an empty one stands for it
abbrev pub attribute_in : Reading → ℕ → ℕ → ℕ → ℕ × Meaning
attribute_in r u id column = slice_index_or (described_at (unit_at r.links u) id).attributes column (0, Address 0)

-- what it means
abbrev pub MeansColumn : Reading → ℕ → ℕ → ℕ → ℕ × Resolved → Type 0
MeansColumn r u id column attribute = MeansAttribute r u id (attribute_in r u id column) attribute

-- an attribute of an entry has this name
pub record IsNamedColumn (r : Reading) (u id column name : ℕ) : Type 0 where
  pub inside : column < length (declaration_of (unit_at r.links u) id).columns
  pub name_is : (spec_at (declaration_of (unit_at r.links u) id).columns column).name ≡ name

-- ENTRIES

-- an entry stands so deep, has this tag, and has children or none
pub record HasShape (entry : Described) (depth tag : ℕ) (children : Bool) : Type 0 where
  pub depth_is : depth ≡ entry.depth
  pub tag_is : tag ≡ entry.tag
  pub children_are : children ≡ entry.children
