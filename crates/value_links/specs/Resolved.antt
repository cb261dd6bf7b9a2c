-- What the values of attributes mean, with no place of the file left in them (DWARF 5 sections 2.3, 2.6.2, 2.17.3 and 7.5.5).
use Rattle.std.specs.Prelude.{◌≡◌, ℕ, List, Option, Some, None}
use Rattle.std.specs.List.{All, AllZip, Contains}
use Rattle.form_codec.specs.Forms.{Meaning}
use Rattle.entry_arena.specs.declared.entry.Target.{Target}
use Rattle.list_model.specs.declared.entry.ListKind.{ListKind}
use Rattle.list_model.specs.Entries.{Entry, AreSaid}
use Rattle.list_model.specs.Items.{Bounds, Give, Fits}
use Rattle.value_links.specs.Reading.{ListRead, Linkable, Reading, lists_of, of_kind, context_at}
use Rattle.value_links.specs.ListPlaces.{SlotNames}
use Rattle.loc_lists.specs.declared.views.ViewPair.{ViewPair}
use Rattle.value_links.specs.Linked.{Linked, Links}
use Rattle.value_links.specs.Linked.Linked.{Itself as LinkItself, Operates as LinkOperates, Refers as LinkRefers, Program as LinkProgram, ListAt, SlotAt, BaseOf, ViewsAt, Kept as LinkKept}
use Rattle.value_links.specs.Operations.{LinkedOperation, LinksExpression}
use Rattle.value_links.specs.Lists.{IsOwner, IsFrozen, owner_unit, expressions_at}

-- LISTS

-- a list means its items or, where it is frozen, its entries
pub data Content : Type 0 where
  Items : List Bounds → Content
  Entries : List Entry → Content

-- and of each item, in their order, the operations of its expression; ranges have none
pub record ListMeaning : Type 0 where
  pub kind : ListKind
  pub content : Content
  pub expressions : List (List LinkedOperation)

-- a list that belongs to a unit and isn't frozen means its items in the unit's context
abbrev pub MeansItems : Linkable → Option ℕ → List Entry → List Bounds → Type 0
MeansItems r (Some u) entries bounds = Give r.addresses (context_at r u) entries bounds × All Fits bounds
MeansItems r None entries bounds = ⊥

abbrev pub MeansContent : Linkable → ListKind → ListRead → Option ℕ → List Entry → Content → Type 0
MeansContent r kind list owner entries (Items bounds) = (¬ IsFrozen r kind list) × MeansItems r owner entries bounds
MeansContent r kind list owner entries (Entries kept) = IsFrozen r kind list × (kept ≡ entries)

-- the list of a kind at a place means this
pub record MeansList (r : Reading) (kind : ListKind) (at : ℕ) (meaning : ListMeaning) : Type 0 where
  pub list : ListRead
  pub one : Contains (lists_of r kind) list
  pub here : list.at ≡ at
  pub owner : Option ℕ
  pub owned : IsOwner r.links kind at owner
  pub entries : List Entry
  pub said : AreSaid kind list.raws entries
  pub same : meaning.kind ≡ kind
  pub content : MeansContent r.links kind list owner entries meaning.content
  pub expressions : AllZip (LinksExpression r.links (owner_unit r.links owner)) (expressions_at r.links kind list) meaning.expressions

-- VALUES

-- A resolved value: the value itself; the operations of an expression, with what they name; an entry, or the end of the children of an entry, in the unit
-- with a number; the number of a line number program; a list; an index and the list that it names; the number of a contribution to
-- the section of lists of a kind; view pairs; or a section offset that is kept as the number that it is. Units, entries, programs and
-- contributions are numbered from 0 in their order.
pub data Resolved : Type 0 where
  Itself : Meaning → Resolved
  Operates : List LinkedOperation → Resolved
  Refers : ℕ → Target → Resolved
  Program : ℕ → Resolved
  AList : ListMeaning → Resolved
  Indexed : ℕ → ListMeaning → Resolved
  PartOf : ListKind → ℕ → Resolved
  Pairs : List ViewPair → Resolved
  Kept : ℕ → Resolved

-- what a value means that refers to this
abbrev pub ResolvesLink : Reading → Linked → Resolved → Type 0
ResolvesLink r (LinkItself meaning) value = value ≡ Itself meaning
ResolvesLink r (LinkOperates operations) value = value ≡ Operates operations
ResolvesLink r (LinkRefers unit target) value = value ≡ Refers unit target
ResolvesLink r (LinkProgram p) value = value ≡ Program p
ResolvesLink r (ListAt kind at) value = (meaning : ListMeaning) × MeansList r kind at meaning × (value ≡ AList meaning)
ResolvesLink r (SlotAt kind p i) value = (at : ℕ) × (meaning : ListMeaning) × SlotNames (of_kind r.links kind) p i at × MeansList r kind at meaning × (value ≡ Indexed i meaning)
ResolvesLink r (BaseOf kind p) value = value ≡ PartOf kind p
ResolvesLink r (ViewsAt list n) value = (pairs : List ViewPair) × Contains r.views (record { list = list; at = n; pairs = pairs }) × (value ≡ Pairs pairs)
ResolvesLink r (LinkKept n) value = value ≡ Kept n

-- What the value of an attribute with a name means in an entry `id` of the unit `u`, both by their numbers: what that means to
-- which it refers.
pub record Resolves (r : Reading) (u id name : ℕ) (meaning : Meaning) (value : Resolved) : Type 0 where
  pub linked : Linked
  pub links : Links r.links u id name meaning linked
  pub resolves : ResolvesLink r linked value
