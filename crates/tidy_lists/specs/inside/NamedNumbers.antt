-- Which lists and runs of view pairs values and slots name, by their numbers, and the pairs of those of two files.
use Rattle.std.specs.Prelude.{◌≡◌, ◌<◌, ◌⊎◌, ◌↔◌, ℕ, List, length}
use Rattle.std.specs.List.{Contains}
use Rattle.list_model.specs.declared.entry.ListKind.{ListKind}
use Rattle.value_links.specs.declared.link.Link.{Link}
use Rattle.value_links.specs.declared.link.Link.TheVariants.{List as AtList, Views}
use Rattle.value_links.specs.Linked.{Linked, IsLinked}
use Rattle.value_links.specs.Linked.Linked.{ListAt, ViewsAt}
use Rattle.value_links.specs.ListPlaces.{SlotNames}
use Rattle.value_links.specs.Reading.{Reading, of_kind, lists_of, list_at, view_at}
use Rattle.value_links.specs.Whole.{IsReading}
use Rattle.value_links.specs.World.{World, Holds}
use Rattle.tidy_lists.specs.declared.followers.Follower.{Follower}
use Rattle.tidy_lists.specs.declared.followers.named.Sought.{Sought}
use Rattle.tidy_lists.specs.declared.followers.named.Sought.TheVariants.{Lists, Runs}

-- this holds of what is read of a file
abbrev pub OfReading : World → (Reading → Type 0) → Type 0
OfReading world P = (r : Reading) → IsReading world.image r → Holds world.image world r → P r

-- WHAT IS NAMED

-- how many lists or runs there are
abbrev pub count_of : Sought → Reading → ℕ
count_of (Lists kind) r = length (lists_of r kind)
count_of Runs r = length r.views

-- what a value refers to that names the one with a number by its place
abbrev pub linked_to : Sought → Reading → ℕ → Linked
linked_to (Lists kind) r k = ListAt kind (list_at (lists_of r kind) k).at
linked_to Runs r k = ViewsAt (view_at r.views k).list (view_at r.views k).at

-- the link that tells this
abbrev pub link_to : Sought → Reading → ℕ → Link
link_to (Lists kind) r k = AtList kind (list_at (lists_of r kind) k).at
link_to Runs r k = Views (view_at r.views k).list (view_at r.views k).at

-- a list of a kind begins at a place, and it has this number
abbrev pub IsListNumber : Reading → ListKind → ℕ → ℕ → Type 0
IsListNumber r kind place k = (k < length (lists_of r kind)) × ((list_at (lists_of r kind) k).at ≡ place)

-- a run of view pairs goes with the list at a place and stands at another, and it has this number
abbrev pub IsRunNumber : Reading → ℕ → ℕ → ℕ → Type 0
IsRunNumber r list place k = (k < length r.views) × ((view_at r.views k).list ≡ list) × ((view_at r.views k).at ≡ place)

-- the list or run that a link tells was read
abbrev pub IsThere : Reading → Link → Type 0
IsThere r (AtList kind place) = (k : ℕ) × IsListNumber r kind place k
IsThere r (Views list place) = (k : ℕ) × IsRunNumber r list place k
IsThere r link = Unit {0}

-- the link tells the list or run with a number
abbrev pub IsToldBy : Sought → Reading → Link → ℕ → Type 0
IsToldBy sought r link k = (k < count_of sought r) × (link ≡ link_to sought r k)

-- the value with a number among those of a unit names it by its place
abbrev pub IsNamedBy : Sought → Reading → ℕ → ℕ → ℕ → Type 0
IsNamedBy sought r u number k = (k < count_of sought r) × IsLinked r.links u number (linked_to sought r k)

-- a slot of a contribution names the list with a number
abbrev pub IsNamedBySlot : ListKind → Reading → ℕ → ℕ → ℕ → Type 0
IsNamedBySlot kind r p i k = (k < length (lists_of r kind)) × SlotNames (of_kind r.links kind) p i (list_at (lists_of r kind) k).at

-- PAIRS

-- pairs are those of before, and those of which something holds
abbrev pub Adds : (ℕ → ℕ → Type 0) → List Follower → List Follower → Type 0
Adds Holds before after =
    (k m : ℕ) → Contains after (record { old = k; new = m }) ↔ (Contains before (record { old = k; new = m }) ⊎ Holds k m)

-- something holds of two numbers at one below another, or at any
abbrev pub Below : (ℕ → ℕ → ℕ → Type 0) → ℕ → ℕ → ℕ → Type 0
Below HoldsAt n k m = (i : ℕ) × (i < n) × HoldsAt i k m

abbrev pub Somewhere : (ℕ → ℕ → ℕ → Type 0) → ℕ → ℕ → Type 0
Somewhere HoldsAt k m = (i : ℕ) × HoldsAt i k m

-- the same value of both files names them
abbrev pub ArePairedBy : Sought → Reading → Reading → ℕ → ℕ → ℕ → ℕ → Type 0
ArePairedBy sought r s u number k m = IsNamedBy sought r u number k × IsNamedBy sought s u number m

-- some value of a unit does, or of any
abbrev pub ArePairedIn : Sought → Reading → Reading → ℕ → ℕ → ℕ → Type 0
ArePairedIn sought r s u k m = Somewhere (ArePairedBy sought r s u) k m

abbrev pub ArePairedByValues : Sought → Reading → Reading → ℕ → ℕ → Type 0
ArePairedByValues sought r s k m = Somewhere (ArePairedIn sought r s) k m

-- the same slot of both files names them
abbrev pub ArePairedBySlot : ListKind → Reading → Reading → ℕ → ℕ → ℕ → ℕ → Type 0
ArePairedBySlot kind r s p i k m = IsNamedBySlot kind r p i k × IsNamedBySlot kind s p i m

-- some slot of a contribution does, or of any
abbrev pub ArePairedInPart : ListKind → Reading → Reading → ℕ → ℕ → ℕ → Type 0
ArePairedInPart kind r s p k m = Somewhere (ArePairedBySlot kind r s p) k m

abbrev pub ArePairedBySlots : ListKind → Reading → Reading → ℕ → ℕ → Type 0
ArePairedBySlots kind r s k m = Somewhere (ArePairedInPart kind r s) k m
