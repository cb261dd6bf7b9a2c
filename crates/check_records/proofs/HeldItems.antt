-- A list that is held by its items.
use Rattle.std.proofs.Common.{◌≡◌, ◌≤◌, ◌∙◌, ℕ, suc, List, [], ◌∷◌, length, map, cond, Bool, true, false, inl, inr, sym, ap, refl, subst, arith}
use Rattle.std.specs.Prelude.{Option, Some, None, not, filter}
use Rattle.std.proofs.lemmas.Bool.{cases_lt}
use Rattle.std.proofs.lemmas.List.{length-map}
use Rattle.std.proofs.lemmas.Option.{none-some, same_Some}
use Rattle.dw_base.specs.declared.fault.Span.{Span}
use Rattle.list_model.specs.declared.context.Context.{Context}
use Rattle.list_model.specs.declared.entry.EntryKind.{EntryKind}
use Rattle.list_model.specs.declared.entry.EntryKind.TheVariants.{BaseAddressx, BaseAddress}
use Rattle.list_model.specs.declared.entry.ListKind.{ListKind}
use Rattle.list_model.specs.declared.entry.ListKind.TheVariants.{Ranges, Locations}
use Rattle.list_model.specs.declared.entry.RawEntry.{RawEntry}
use Rattle.list_model.specs.declared.item.Item.{Item}
use Rattle.list_model.specs.declared.item.Meaning.{Meaning}
use Rattle.list_model.specs.declared.item.Meaning.TheVariants.{Live}
use Rattle.list_model.specs.Entries.{Entry, AreSaid, no_expr}
use Rattle.list_model.specs.Items.{Bounds, SetsBase, HasBounds, GiveFrom, Give, sets_base, item_of}
use Rattle.list_model.specs.Items.Bounds.{between, elsewhere}
use Rattle.list_least.specs.Plans.{bounds_of}
use Rattle.loc_lists.specs.Locations.{items_among, AreItems}
use Rattle.list_arena.specs.Held.{HeldList}
use Rattle.value_links.specs.Reading.{ListRead, Linkable, context_at}
use Rattle.value_links.specs.Lists.{IsOwner, item_count}
use Rattle.value_links.specs.World.{IsMeaningOf, HoldsMeaning, HoldsList}

-- ---- counts

setter_sets : (addr : List ℕ) (context : Context) (kind : EntryKind) (a base : ℕ) → SetsBase addr context kind a base → sets_base kind ≡ true
setter_sets addr context BaseAddressx a base f = refl
setter_sets addr context BaseAddress a base f = refl
setter_sets addr context _ a base f = absurd f

item_sets_none : (addr : List ℕ) (context : Context) (base : ℕ) (kind : EntryKind) (a b : ℕ) (item : Bounds) → HasBounds addr context base kind a b item → sets_base kind ≡ false
item_sets_none addr context base BaseAddressx a b item f = absurd f
item_sets_none addr context base BaseAddress a b item f = absurd f
item_sets_none addr context base _ a b item f = refl

items_in : List Entry → List Entry
items_in entries = filter (λ (entry : Entry). not (sets_base entry.kind)) entries

-- entries give as many items as they have entries that don't set the base
items_counted : (addr : List ℕ) (context : Context) (base : ℕ) (entries : List Entry) (bounds : List Bounds) → GiveFrom addr context base entries bounds → length bounds ≡ item_count entries
unfolding items_in
items_counted addr context base [] bounds gives = ap length gives
items_counted addr context base (entry ∷ entries) bounds (inl (next, sets, rest)) =
    items_counted addr context next entries bounds rest
    ∙ sym (ap (λ (b : Bool). length (cond (not b) (entry ∷ items_in entries) (items_in entries))) (setter_sets addr context entry.kind entry.a next sets))
items_counted addr context base (entry ∷ entries) bounds (inr (item, rest, has, is, more)) =
    ap length is ∙ ap (λ (n : ℕ). suc n) (items_counted addr context base entries rest more)
    ∙ sym (ap (λ (b : Bool). length (cond (not b) (entry ∷ items_in entries) (items_in entries))) (item_sets_none addr context base entry.kind entry.a entry.b item has))

-- ---- items

bounds_back : (expr : Span) (bounds : Bounds) → bounds_of (item_of expr bounds) ≡ bounds
bounds_back expr (between start end) = refl
bounds_back expr elsewhere = refl

all_back : (bounds : List Bounds) → map bounds_of (map (item_of no_expr) bounds) ≡ bounds
all_back [] = refl
all_back (b ∷ bounds) = ap (λ (z : Bounds). z ∷ map bounds_of (map (item_of no_expr) bounds)) (bounds_back no_expr b) ∙ ap (λ (z : List Bounds). b ∷ z) (all_back bounds)

-- likewise with the expression of each
each_back : (raws : List RawEntry) (bounds : List Bounds) (items : List Item) → AreItems raws bounds items → map bounds_of items ≡ bounds
each_back [] [] [] are = refl
each_back [] [] (i ∷ items) are = absurd are
each_back [] (b ∷ bounds) items are = absurd are
each_back (r ∷ raws) [] items are = absurd are
each_back (r ∷ raws) (b ∷ bounds) [] are = absurd are
each_back (r ∷ raws) (b ∷ bounds) (i ∷ items) (is, more) =
    ap (λ (z : Bounds). z ∷ map bounds_of items) (ap bounds_of is ∙ bounds_back r.expr b) ∙ ap (λ (z : List Bounds). b ∷ z) (each_back raws bounds items more)

-- what a list of any kind says that has items: its entries give their bounds
pub record SaysItems (kind : ListKind) (addr : List ℕ) (context : Context) (raws : List RawEntry) (items : List Item) : Type 0 where
  pub entries : List Entry
  pub bounds : List Bounds
  pub said : AreSaid kind raws entries
  pub gives : Give addr context entries bounds
  pub are : map bounds_of items ≡ bounds

says_items : (kind : ListKind) (addr : List ℕ) (context : Context) (raws : List RawEntry) (items : List Item) → IsMeaningOf kind addr context raws (Live items) → SaysItems kind addr context raws items
says_items Ranges addr context raws items m = record {
  entries = m.entries;
  bounds = m.bounds;
  said = m.said;
  gives = m.gives;
  are = ap (λ (z : List Item). map bounds_of z) m.means.1 ∙ all_back m.bounds;
}
says_items Locations addr context raws items m = record {
  entries = m.entries;
  bounds = m.bounds;
  said = m.said;
  gives = m.gives;
  are = each_back (items_among raws) m.bounds items m.means.1;
}

-- ---- a list that isn't frozen

module _ (r : Linkable) (kind : ListKind) (list : ListRead) (held : HeldList) (holds : HoldsList r kind list held) (items : List Item) (live : held.meaning ≡ Live items) where
  meant : HoldsMeaning r kind list held.owner (Live items)
  meant = subst (λ (z : Meaning). HoldsMeaning r kind list held.owner z) live holds.meaning

  -- a unit owns it
  pub has_owner : held.owner ≡ None → ⊥
  has_owner none = none-some meant.1.0 (sym none ∙ meant.1.1)

  module _ (owner : ℕ) (owner_is : held.owner ≡ Some owner) where
    pub owned : IsOwner r kind list.at (Some owner)
    owned = subst (λ (z : Option ℕ). IsOwner r kind list.at z) owner_is holds.owner

    same_owner : meant.1.0 ≡ owner
    same_owner = same_Some meant.1.0 owner (sym meant.1.1 ∙ owner_is)

    -- its entries give its items
    pub items_said : SaysItems kind r.addresses (context_at r owner) list.raws items
    items_said = subst (λ (u : ℕ). SaysItems kind r.addresses (context_at r u) list.raws items) same_owner (says_items kind r.addresses (context_at r meant.1.0) list.raws items meant.1.2)

    -- it isn't long
    pub few_items : length items ≤ 16384
    few_items =
        let count : length items ≡ item_count items_said.entries = sym (length-map items bounds_of) ∙ ap length items_said.are ∙ items_counted r.addresses (context_at r owner) (context_at r owner).base items_said.entries items_said.bounds items_said.gives in
        elim (cases_lt 16384 (item_count items_said.entries)) [
          | inl long ↦ absurd (meant.0 (items_said.entries, items_said.said, inr (inr (inr long))))
          | inr few ↦ omega (arith, count)
        ]
