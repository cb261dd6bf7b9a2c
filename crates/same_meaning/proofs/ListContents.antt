-- What lists that are held mean, but for their expressions.
use Rattle.std.proofs.Common.{◌≡◌, ◌<◌, ◌∙◌, ℕ, List, [], ◌∷◌, length, map, sym, ap, subst, refl, inl, inr, arith}
use Rattle.std.specs.Prelude.{Option, Some, None}
use Rattle.std.specs.List.{All, AllZip, Contains}
use Rattle.std.proofs.lemmas.Bool.{cases_lt}
use Rattle.std.proofs.lemmas.List.{get_or_default}
use Rattle.dw_base.specs.declared.fault.Span.{Span}
use Rattle.list_model.specs.declared.context.Context.{Context}
use Rattle.list_model.specs.declared.entry.ListKind.{ListKind}
use Rattle.list_model.specs.declared.entry.ListKind.TheVariants.{Ranges, Locations}
use Rattle.list_model.specs.declared.entry.RawEntry.{RawEntry}
use Rattle.list_model.specs.declared.item.Item.{Item}
use Rattle.list_model.specs.declared.item.Meaning.{Meaning}
use Rattle.list_model.specs.declared.item.Meaning.TheVariants.{Live, Dead}
use Rattle.list_model.specs.Entries.{Entry, AreSaid, no_expr}
use Rattle.list_model.specs.Items.{Bounds, Give, Fits, item_of}
use Rattle.list_model.specs.Items.Bounds.{between, elsewhere}
use Rattle.list_model.proofs.WalkLaws.{one_saying, one_walk}
use Rattle.loc_lists.specs.Locations.{AreItems, items_among}
use Rattle.list_arena.specs.Held.{HeldList}
use Rattle.value_links.specs.Reading.{ListRead, Linkable, Reading, of_kind, lists_of, list_at, context_at}
use Rattle.value_links.specs.Lists.{IsOwner, owner_unit, expressions_in, expressions_at}
use Rattle.value_links.specs.Operations.{LinkedOperation, LinksExpression}
use Rattle.value_links.specs.Resolved.{Content, ListMeaning, MeansItems, MeansContent, MeansList}
use Rattle.value_links.specs.Resolved.Content.{Items, Entries}
use Rattle.value_links.specs.Whole.{IsReading}
use Rattle.value_links.specs.World.{World, lists_held, IsMeaningOf, HoldsMeaning, HoldsList, Holds}
use Rattle.same_meaning.specs.inside.Compared.{MeanOne}
use Rattle.same_meaning.specs.inside.Lists.{AreItemsOf, HasContent}

-- ---- items

-- an item says where its expression lies
item_place : (expr : Span) (b : Bounds) → item_of expr b ≡ item_of (item_of expr b).expr b
item_place expr (between start end) = refl
item_place expr elsewhere = refl

ranges_are : (bounds : List Bounds) → AreItemsOf bounds (map (item_of no_expr) bounds)
ranges_are [] = tt
ranges_are (b ∷ bounds) = (item_place no_expr b, ranges_are bounds)

locations_are : (raws : List RawEntry) (bounds : List Bounds) (items : List Item) → AreItems raws bounds items → AreItemsOf bounds items
locations_are [] [] [] are = tt
locations_are [] [] (i ∷ items) are = absurd are
locations_are [] (b ∷ bounds) items are = absurd are
locations_are (r ∷ raws) [] items are = absurd are
locations_are (r ∷ raws) (b ∷ bounds) [] are = absurd are
locations_are (r ∷ raws) (b ∷ bounds) (i ∷ items) (is, are) = (is ∙ item_place r.expr b ∙ ap (λ (z : Item). item_of z.expr b) (sym is), locations_are raws bounds items are)

-- what a list says that is held by its items
record SaysItems (kind : ListKind) (addr : List ℕ) (context : Context) (raws : List RawEntry) (items : List Item) : Type 0 where
  pub entries : List Entry
  pub bounds : List Bounds
  pub said : AreSaid kind raws entries
  pub gives : Give addr context entries bounds
  pub fit : All Fits bounds
  pub are : AreItemsOf bounds items

says_items : (kind : ListKind) (addr : List ℕ) (context : Context) (raws : List RawEntry) (items : List Item) → IsMeaningOf kind addr context raws (Live items) → SaysItems kind addr context raws items
says_items Ranges addr context raws items is = record {
  entries = is.entries;
  bounds = is.bounds;
  said = is.said;
  gives = is.gives;
  fit = is.means.0;
  are = subst (λ (z : List Item). AreItemsOf is.bounds z) (sym is.means.1) (ranges_are is.bounds);
}
says_items Locations addr context raws items is = record {
  entries = is.entries;
  bounds = is.bounds;
  said = is.said;
  gives = is.gives;
  fit = is.means.0;
  are = locations_are (items_among raws) is.bounds items is.means.1;
}

-- it gives no other bounds
other_bounds : (kind : ListKind) (addr : List ℕ) (context : Context) (raws : List RawEntry) (items : List Item) → IsMeaningOf kind addr context raws (Live items) → (entries : List Entry) (bounds : List Bounds) → AreSaid kind raws entries → Give addr context entries bounds → AreItemsOf bounds items
other_bounds kind addr context raws items is entries bounds said gives =
    let says = says_items kind addr context raws items is in
    let same : says.entries ≡ entries = one_saying kind raws says.entries entries says.said said in
    let walk : says.bounds ≡ bounds = one_walk addr context entries says.bounds bounds (subst (λ (z : List Entry). Give addr context z says.bounds) same says.gives) gives in
    subst (λ (z : List Bounds). AreItemsOf z items) walk says.are

-- ---- owners

-- one unit owns a list, or none does
pub owner_same : (r : Linkable) (kind : ListKind) (at : ℕ) (a b : Option ℕ) → IsOwner r kind at a → IsOwner r kind at b → a ≡ b
owner_same r kind at (Some u) (Some v) (here, first) (there, other) = elim (cases_lt u v) [
  | inl less ↦ absurd (other u less here)
  | inr rest ↦ elim (cases_lt v u) [
    | inl less ↦ absurd (first v less there)
    | inr more ↦ let same : u ≡ v = omega arith in ap (λ (z : ℕ). Some z) same
  ]
]
owner_same r kind at (Some u) None (here, first) none = absurd (none u here)
owner_same r kind at None (Some v) none (there, other) = absurd (none v there)
owner_same r kind at None None p q = refl

-- ---- contents

-- what a list means that a unit owns, or none
pub record Told (r : Linkable) (kind : ListKind) (list : ListRead) (owner : Option ℕ) : Type 0 where
  pub entries : List Entry
  pub content : Content
  pub said : AreSaid kind list.raws entries
  pub means : MeansContent r kind list owner entries content

module _ (r : Linkable) (kind : ListKind) (list : ListRead) (held : HeldList) (holds : HoldsList r kind list held) where
  content_of : (meaning : Meaning) → held.meaning ≡ meaning → HoldsMeaning r kind list held.owner meaning → (entries : List Entry) → AreSaid kind list.raws entries → (content : Content) → MeansContent r kind list held.owner entries content → HasContent kind held content
  content_of (Live items) is (thawed, (u, owned, says)) entries said (Items bounds) (other, means) =
      let there : MeansItems r (Some u) entries bounds = subst (λ (z : Option ℕ). MeansItems r z entries bounds) owned means in
      (items, is, other_bounds kind r.addresses (context_at r u) list.raws items says entries bounds said there.0)
  content_of (Live items) is (thawed, says) entries said (Entries kept) (frozen, same) = absurd (thawed frozen)
  content_of Dead is frozen entries said (Items bounds) (thawed, means) = absurd (thawed frozen)
  content_of Dead is frozen entries said (Entries kept) (other, same) =
      (is, subst (λ (z : List Entry). AreSaid kind held.raw z) (sym same) (subst (λ (z : List RawEntry). AreSaid kind z entries) (sym holds.raws) said))

  -- what the list means is what is held
  pub content_held : (entries : List Entry) → AreSaid kind list.raws entries → (content : Content) → MeansContent r kind list held.owner entries content → HasContent kind held content
  content_held entries said content means = content_of held.meaning refl holds.meaning entries said content means

  -- it means something
  told_by : (meaning : Meaning) → HoldsMeaning r kind list held.owner meaning → Told r kind list held.owner
  told_by (Live items) (thawed, (u, owned, is)) =
      let says = says_items kind r.addresses (context_at r u) list.raws items is in
      record {
        entries = says.entries;
        content = Items says.bounds;
        said = says.said;
        means = (thawed, subst (λ (z : Option ℕ). MeansItems r z says.entries says.bounds) (sym owned) (says.gives, says.fit));
      }
  told_by Dead (entries, said, why) = record { entries = entries; content = Entries entries; said = said; means = ((entries, said, why), refl) }

  pub told : Told r kind list held.owner
  told = told_by held.meaning holds.meaning

-- ---- lists that are held, as they are read

pub record IsReadAs (r : Reading) (kind : ListKind) (held : HeldList) : Type 0 where
  pub k : ℕ
  pub inside : k < length (lists_of r kind)
  pub holds : HoldsList r.links kind (list_at (lists_of r kind) k) held

pub list_read : (file : List ℕ) (world : World) (r : Reading) → Holds file world r → (kind : ListKind) (held : HeldList) → Contains (lists_held world kind) held → IsReadAs r kind held
list_read file world r holds kind held (k, inside, same) =
    let count : length (lists_held world kind) ≡ length (lists_of r kind) = (holds.lists kind).count in
    let known : k < length (lists_of r kind) = omega (arith, inside, count) in
    record { k = k; inside = known; holds = subst (λ (z : HeldList). HoldsList r.links kind (list_at (lists_of r kind) k) z) same ((holds.lists kind).each k held known) }

-- one list begins at a place, where their places rise
one_list : (lists : List ListRead) → ((j k : ℕ) → j < k → k < length lists → (list_at lists j).at < (list_at lists k).at) → (k : ℕ) → k < length lists → (a : ListRead) → Contains lists a → a.at ≡ (list_at lists k).at → a ≡ list_at lists k
one_list lists rising k k_in a (i, i_in, i_is) same =
    let none : ListRead = record { at = 0; part = 0; raws = [] } in
    let first : list_at lists i ≡ a = get_or_default lists i none a i_in ∙ i_is in
    let first_at : (list_at lists i).at ≡ a.at = ap (λ (z : ListRead). z.at) first in
    elim (cases_lt i k) [
      | inl less ↦ let apart : (list_at lists i).at < (list_at lists k).at = rising i k less k_in in absurd (omega arith)
      | inr rest ↦ elim (cases_lt k i) [
        | inl less ↦ let apart : (list_at lists k).at < (list_at lists i).at = rising k i less i_in in absurd (omega arith)
        | inr more ↦ let number : i ≡ k = omega arith in sym first ∙ ap (λ (z : ℕ). list_at lists z) number
      ]
    ]

-- the expressions of a list that is held, in a section, are these operations in the unit that owns it
abbrev pub LinkExpressions : Linkable → ListKind → HeldList → List (List LinkedOperation) → Type 0
LinkExpressions r kind held all = AllZip (LinksExpression r (owner_unit r held.owner)) (expressions_in kind (of_kind r kind).section held.raw) all

-- what a list means, in terms of what is held
pub record MeansHeld (r : Linkable) (kind : ListKind) (held : HeldList) (meaning : ListMeaning) : Type 0 where
  pub kind_is : meaning.kind ≡ kind
  pub content : HasContent kind held meaning.content
  pub expressions : LinkExpressions r kind held meaning.expressions

module _ (file : List ℕ) (r : Reading) (read : IsReading file r) (kind : ListKind) (held : HeldList) (is : IsReadAs r kind held) where
  abbrev the_list : ListRead
  the_list = list_at (lists_of r kind) is.k

  pub means_held : (meaning : ListMeaning) → MeansList r kind held.at meaning → MeansHeld r.links kind held meaning
  means_held meaning m =
      let same : m.list ≡ the_list = one_list (lists_of r kind) (read.lists kind).rising is.k is.inside m.list m.one (m.here ∙ is.holds.at) in
      let owned : IsOwner r.links kind held.at held.owner = subst (λ (z : ℕ). IsOwner r.links kind z held.owner) (sym is.holds.at) is.holds.owner in
      let owner : m.owner ≡ held.owner = owner_same r.links kind held.at m.owner held.owner m.owned owned in
      let said : AreSaid kind the_list.raws m.entries = subst (λ (z : ListRead). AreSaid kind z.raws m.entries) same m.said in
      let means : MeansContent r.links kind the_list held.owner m.entries meaning.content = subst (λ (z : Option ℕ). MeansContent r.links kind the_list z m.entries meaning.content) owner (subst (λ (z : ListRead). MeansContent r.links kind z m.owner m.entries meaning.content) same m.content) in
      let raws : m.list.raws ≡ held.raw = ap (λ (z : ListRead). z.raws) same ∙ sym is.holds.raws in
      record {
        kind_is = m.same;
        content = content_held r.links kind the_list held is.holds m.entries said meaning.content means;
        expressions =
            subst (λ (z : List RawEntry). AllZip (LinksExpression r.links (owner_unit r.links held.owner)) (expressions_in kind (of_kind r.links kind).section z) meaning.expressions) raws
            (subst (λ (z : Option ℕ). AllZip (LinksExpression r.links (owner_unit r.links z)) (expressions_at r.links kind m.list) meaning.expressions) owner m.expressions);
      }

  abbrev pub held_content : Content
  held_content = (told r.links kind the_list held is.holds).content

  pub has_content : HasContent kind held held_content
  has_content =
      let t = told r.links kind the_list held is.holds in
      content_held r.links kind the_list held is.holds t.entries t.said t.content t.means

  pub held_means : (all : List (List LinkedOperation)) → LinkExpressions r.links kind held all → MeansList r kind held.at (record { kind = kind; content = held_content; expressions = all })
  held_means all link =
      let t = told r.links kind the_list held is.holds in
      record {
        list = the_list;
        one = (is.k, is.inside, get_or_default (lists_of r kind) is.k the_list (record { at = 0; part = 0; raws = [] }) is.inside);
        here = sym is.holds.at;
        owner = held.owner;
        owned = subst (λ (z : ℕ). IsOwner r.links kind z held.owner) (sym is.holds.at) is.holds.owner;
        entries = t.entries;
        said = t.said;
        same = refl;
        content = t.means;
        expressions = subst (λ (z : List RawEntry). AllZip (LinksExpression r.links (owner_unit r.links held.owner)) (expressions_in kind (of_kind r.links kind).section z) all) is.holds.raws link;
      }

-- ---- two lists

module _ (file other : List ℕ) (r s : Reading) (read : IsReading file r) (again : IsReading other s) (kind : ListKind) (old new : HeldList) (is : IsReadAs r kind old) (was : IsReadAs s kind new) where
  -- they mean one thing only where they have one content, and their expressions mean one thing
  pub one_content : MeanOne (MeansList r kind old.at) (MeansList s kind new.at) → (content : Content) × HasContent kind old content × HasContent kind new content
  one_content (meaning, first, second) = (meaning.content, (means_held file r read kind old is meaning first).content, (means_held other s again kind new was meaning second).content)

  pub one_link : MeanOne (MeansList r kind old.at) (MeansList s kind new.at) → MeanOne (LinkExpressions r.links kind old) (LinkExpressions s.links kind new)
  one_link (meaning, first, second) = (meaning.expressions, (means_held file r read kind old is meaning first).expressions, (means_held other s again kind new was meaning second).expressions)

  -- and they do where it is so
  pub mean_one : ((a b : Content) → HasContent kind old a → HasContent kind new b → b ≡ a) → MeanOne (LinkExpressions r.links kind old) (LinkExpressions s.links kind new) → MeanOne (MeansList r kind old.at) (MeansList s kind new.at)
  mean_one same (all, first, second) =
      let a : Content = held_content file r read kind old is in
      let b : Content = held_content other s again kind new was in
      let one : b ≡ a = same a b (has_content file r read kind old is) (has_content other s again kind new was) in
      (record { kind = kind; content = a; expressions = all }, held_means file r read kind old is all first, subst (λ (z : Content). MeansList s kind new.at (record { kind = kind; content = z; expressions = all })) one (held_means other s again kind new was all second))
