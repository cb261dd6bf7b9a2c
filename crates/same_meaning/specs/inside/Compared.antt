-- What the parts of two files are compared by.
use Rattle.std.specs.Prelude.{◌≡◌, ◌<◌, ◌⊎◌, ℕ, List, length, slice_index_or, Option, MatchOption}
use Rattle.std.specs.List.{All, AllZip, Contains}
use Rattle.dw_base.specs.declared.fault.Reach.{Reach}
use Rattle.expr_ops.specs.declared.op.Op.{Op}
use Rattle.expr_ops.specs.Ops.{all_meant}
use Rattle.form_codec.specs.Forms.{Meaning}
use Rattle.list_model.specs.declared.entry.ListKind.{ListKind}
use Rattle.list_model.specs.declared.entry.ListKind.TheVariants.{Ranges, Locations}
use Rattle.form_codec.specs.Values.{meant_in}
use Rattle.loc_lists.specs.Locations.{expressions_of}
use Rattle.entry_arena.specs.Arena.{value_at}
use Rattle.entry_arena.specs.Forests.{Described}
use Rattle.list_arena.specs.Held.{HeldList}
use Rattle.value_links.specs.World.{World, Holds, IsWorldOf, lists_held}
use Rattle.value_links.specs.Reading.{Reading, Linkable, unit_at}
use Rattle.value_links.specs.Values.{HasValueAt, described_at}
use Rattle.value_links.specs.Whole.{IsReading}
use Rattle.value_links.specs.Operations.{LinkedOperation, LinksOperation, LinksExpression}
use Rattle.value_links.specs.Resolved.{Resolved, MeansList, Resolves}
use Rattle.value_links.specs.Debug.{Debug, Means, EntryMeaning, MeansEntry, MeansAttribute, MeansType, described}
use Rattle.same_meaning.specs.declared.same_lists.SameLists.{SameLists}

-- what the header of a unit means
pub record HeadMeaning : Type 0 where
  pub unit_type : ℕ
  pub signature : ℕ
  pub type_entry : Option ℕ

-- the world is that of some valid file
abbrev pub IsSomeWorld : World → Type 0
IsSomeWorld world = (reach : Reach) × IsWorldOf world.image reach world

-- this holds of what is read of both files
abbrev pub OfBoth : World → World → (Reading → Reading → Type 0) → Type 0
OfBoth a b P =
    (r s : Reading) → IsReading a.image r → Holds a.image a r → IsReading b.image s → Holds b.image b s → P r s

-- this holds of what both files mean
abbrev pub OfMeanings : World → World → (Debug → Debug → Type 0) → Type 0
OfMeanings a b P = (c d : Debug) → Means a.image c → Means b.image d → P c d

-- two things mean one and the same
abbrev pub MeanOne : {A : Type 0} → (A → Type 0) → (A → Type 0) → Type 0
MeanOne {A} IsFirst IsSecond = (meaning : A) × IsFirst meaning × IsSecond meaning

-- it is the first number of which something holds
abbrev pub IsFirst : (ℕ → Type 0) → ℕ → Type 0
IsFirst P i = P i × ((j : ℕ) → j < i → P j → ⊥)

-- the first number of which something holds, or none exactly where it holds of no number
abbrev pub IsFirstFound : (ℕ → Type 0) → Option ℕ → Type 0
IsFirstFound P found = MatchOption found ((i : ℕ) → P i → ⊥) (IsFirst P)

-- the same of pairs, by the first number and then by the second
abbrev pub IsPairBefore : ℕ × ℕ → ℕ × ℕ → Type 0
IsPairBefore (i, j) (k, l) = (i < k) ⊎ ((i ≡ k) × (j < l))

abbrev pub IsFirstPair : (ℕ → ℕ → Type 0) → ℕ × ℕ → Type 0
IsFirstPair P at = P at.0 at.1 × ((i j : ℕ) → IsPairBefore (i, j) at → P i j → ⊥)

abbrev pub IsFirstPairFound : (ℕ → ℕ → Type 0) → Option (ℕ × ℕ) → Type 0
IsFirstPairFound P found = MatchOption found ((i j : ℕ) → P i j → ⊥) (IsFirstPair P)

-- OPERATIONS

-- held operations of an expression of a unit, with the bytes of the expression, name these things
abbrev pub AreLinkedTo : Linkable → ℕ → List ℕ → List Op → List LinkedOperation → Type 0
AreLinkedTo r u bytes ops linked = AllZip (LinksOperation r u) (all_meant bytes ops) linked

-- each operation names what it may
abbrev pub AreAllLinked : Linkable → ℕ → List ℕ → List Op → Type 0
AreAllLinked r u bytes ops = (linked : List LinkedOperation) × AreLinkedTo r u bytes ops linked

-- an expression of a unit is some operations, and each names what it may
abbrev pub IsLinkedSomehow : Linkable → ℕ → List ℕ → Type 0
IsLinkedSomehow r u bytes = (linked : List LinkedOperation) × LinksExpression r u bytes linked

-- LISTS

-- a list of a kind that something names begins at a place
abbrev pub HasListAt : World → ListKind → ℕ → Type 0
HasListAt world kind at = (list : HeldList) × Contains (lists_held world kind) list × (list.at ≡ at)

-- the lists of a kind at two places, the first of one file and the second of another, mean the same
abbrev pub MeanSameList : World → World → ListKind → ℕ × ℕ → Type 0
MeanSameList a b kind at = OfBoth a b (λ r s. MeanOne (MeansList r kind at.0) (MeansList s kind at.1))

-- so do all that are kept
pub record AreSameLists (a b : World) (lists : SameLists) : Type 0 where
  pub ranges : All (MeanSameList a b Ranges) lists.ranges.keys
  pub locations : All (MeanSameList a b Locations) lists.locations.keys

-- the expressions of the items of a held list, in the bytes of its section
abbrev pub held_expressions : List ℕ → HeldList → List (List ℕ)
held_expressions section list = expressions_of section list.raw

-- two lists of expressions, each in the unit that owns its list, mean the same
abbrev pub MeanSameExpressions : Linkable → ℕ → List (List ℕ) → Linkable → ℕ → List (List ℕ) → Type 0
MeanSameExpressions r u xs s v ys = MeanOne (λ (all : List (List LinkedOperation)). AllZip (LinksExpression r u) xs all) (λ (all : List (List LinkedOperation)). AllZip (LinksExpression s v) ys all)

-- VALUES

-- the value with a number stands in an entry of the unit `u` as that of an attribute with a name
abbrev pub StandsIn : Reading → ℕ → ℕ → ℕ → ℕ → Type 0
StandsIn r u id name number = (u < length r.links.units) × ((meaning : Meaning) × (place : ℕ) × HasValueAt (unit_at r.links u) id number name meaning place)

-- what the value with a number means
abbrev pub MeansValue : Reading → ℕ → ℕ → ℕ → ℕ → Resolved → Type 0
MeansValue r u id name number value = Resolves r u id name (meant_in (unit_at r.links u).forest.section (value_at (unit_at r.links u).forest.values number)) value

-- what the entry with a number means
abbrev pub MeansEntryAt : Reading → ℕ → ℕ → EntryMeaning → Type 0
MeansEntryAt r u id entry = (d : Described) → MeansEntry r u id (slice_index_or (described (unit_at r.links u)) id d) entry

-- what the attributes of the entry with a number mean
abbrev pub MeanAttributesAt : Reading → ℕ → ℕ → List (ℕ × Resolved) → Type 0
MeanAttributesAt r u id attributes = AllZip (MeansAttribute r u id) (described_at (unit_at r.links u) id).attributes attributes

-- what the header of the unit with a number means
pub record MeansHead (r : Reading) (u : ℕ) (head : HeadMeaning) : Type 0 where
  pub unit_type : head.unit_type ≡ (unit_at r.links u).head.kind
  pub signature : head.signature ≡ (unit_at r.links u).head.extra
  pub type_entry : MeansType r.links u head.type_entry
