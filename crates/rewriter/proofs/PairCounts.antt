-- How many view pairs go with the entries of a list: as many as before, where it is written anew.
use Rattle.std.proofs.Common.{◌≡◌, ◌<◌, ◌∙◌, ℕ, suc, List, [], ◌∷◌, length, cond, Bool, true, false, inl, inr, sym, ap, refl, subst}
use Rattle.std.specs.Prelude.{Option, Some, None, filter}
use Rattle.dw_base.specs.declared.classes.Classes.{Classes}
use Rattle.list_model.specs.declared.context.Context.{Context}
use Rattle.list_model.specs.declared.entry.EntryKind.{EntryKind}
use Rattle.list_model.specs.declared.entry.EntryKind.TheVariants.{BaseAddressx, StartxEndx, StartxLength, OffsetPair, DefaultLocation, BaseAddress, StartEnd, StartLength}
use Rattle.list_model.specs.declared.entry.ListKind.{ListKind}
use Rattle.list_model.specs.Entries.{Entry, AreSaid}
use Rattle.list_model.specs.Items.{Bounds, SetsBase, HasBounds, GiveFrom, Give}
use Rattle.list_model.specs.Items.Bounds.{between, elsewhere}
use Rattle.list_model.proofs.WalkLaws.{one_saying}
use Rattle.value_links.specs.Reading.{Reading, lists_of, list_at, context_at}
use Rattle.value_links.specs.Lists.{IsOwner, IsFrozen, IsTold, AreListsOf, is_bounded, pair_count}
use Rattle.rewriter.specs.inside.Lists.{MeanTheSame}

-- whether an item has a start and an end
abbrev has_ends : Bounds → Bool
has_ends (between start end) = true
has_ends elsewhere = false

abbrev ends_count : List Bounds → ℕ
ends_count bounds = length (filter has_ends bounds)

setter_unbounded : (addr : List ℕ) (context : Context) (kind : EntryKind) (a base : ℕ) → SetsBase addr context kind a base → is_bounded kind ≡ false
setter_unbounded addr context BaseAddressx a base is = refl
setter_unbounded addr context BaseAddress a base is = refl
setter_unbounded addr context _ a base is = absurd is

-- an entry has a pair exactly where its item has a start and an end
item_bounded : (addr : List ℕ) (context : Context) (base : ℕ) (kind : EntryKind) (a b : ℕ) (item : Bounds) → HasBounds addr context base kind a b item → is_bounded kind ≡ has_ends item
item_bounded addr context base StartxEndx a b item (s, e, i, j, is) = sym (ap has_ends is)
item_bounded addr context base StartxLength a b item (s, i, is) = sym (ap has_ends is)
item_bounded addr context base OffsetPair a b item is = sym (ap has_ends is)
item_bounded addr context base DefaultLocation a b item is = sym (ap has_ends is)
item_bounded addr context base StartEnd a b item is = sym (ap has_ends is)
item_bounded addr context base StartLength a b item is = sym (ap has_ends is)
item_bounded addr context base BaseAddressx a b item is = absurd is
item_bounded addr context base BaseAddress a b item is = absurd is

-- an entry is counted, or it isn't
counted : (entry : Entry) (entries : List Entry) (bounded : Bool) → is_bounded entry.kind ≡ bounded → pair_count (entry ∷ entries) ≡ (cond bounded (suc (pair_count entries)) (pair_count entries))
counted entry entries true is = ap (λ (b : Bool). length (cond b (entry ∷ filter (λ (e : Entry). is_bounded e.kind) entries) (filter (λ (e : Entry). is_bounded e.kind) entries))) is
counted entry entries false is = ap (λ (b : Bool). length (cond b (entry ∷ filter (λ (e : Entry). is_bounded e.kind) entries) (filter (λ (e : Entry). is_bounded e.kind) entries))) is

item_counted : (item : Bounds) (rest : List Bounds) → ends_count (item ∷ rest) ≡ cond (has_ends item) (suc (ends_count rest)) (ends_count rest)
item_counted (between start end) rest = refl
item_counted elsewhere rest = refl

-- so as many pairs go with entries as they give items with a start and an end
pairs_counted : (addr : List ℕ) (context : Context) (base : ℕ) (entries : List Entry) (bounds : List Bounds) → GiveFrom addr context base entries bounds → pair_count entries ≡ ends_count bounds
pairs_counted addr context base [] bounds none = sym (ap ends_count none)
pairs_counted addr context base (entry ∷ entries) bounds (inl (next, sets, rest)) =
    counted entry entries false (setter_unbounded addr context entry.kind entry.a next sets) ∙ pairs_counted addr context next entries bounds rest
pairs_counted addr context base (entry ∷ entries) bounds (inr (item, rest, has, is, more)) =
    counted entry entries (has_ends item) (item_bounded addr context base entry.kind entry.a entry.b item has)
    ∙ ap (λ (n : ℕ). cond (has_ends item) (suc n) n) (pairs_counted addr context base entries rest more)
    ∙ sym (item_counted item rest)
    ∙ sym (ap ends_count is)

-- entries that give the same items have as many pairs
pub same_pairs : (addr : List ℕ) (context : Context) (old new : List Entry) (bounds : List Bounds) → Give addr context old bounds → Give addr context new bounds → pair_count new ≡ pair_count old
same_pairs addr context old new bounds before now = pairs_counted addr context context.base new bounds now ∙ sym (pairs_counted addr context context.base old bounds before)

module _ {classes : Classes} (r : Reading) (kind : ListKind) (lists : AreListsOf r.links kind (lists_of r kind)) (k : ℕ) (inside : k < length (lists_of r kind)) (old new : List Entry) (said : AreSaid kind (list_at (lists_of r kind) k).raws old) (same : MeanTheSame classes r kind (list_at (lists_of r kind) k) old new) where
  live_pairs : (¬ IsFrozen r.links kind (list_at (lists_of r kind) k)) → (owner : Option ℕ) → IsOwner r.links kind (list_at (lists_of r kind) k).at owner → pair_count new ≡ pair_count old
  live_pairs live (Some u) owned =
      let (entries, bounds, says, gives) = lists.looked k u inside owned.0 in
      let own : Give r.links.addresses (context_at r.links u) old bounds = subst (λ (z : List Entry). Give r.links.addresses (context_at r.links u) z bounds) (one_saying kind (list_at (lists_of r kind) k).raws entries old says said) gives in
      same_pairs r.links.addresses (context_at r.links u) old new bounds own (same.live live u bounds owned own)
  live_pairs live None none = absurd (live (old, said, inr (inr (inl none))))

  -- entries that mean what the old ones mean have as many pairs
  pub pairs_stay : IsTold r.links kind (list_at (lists_of r kind) k) → pair_count new ≡ pair_count old
  pairs_stay told = elim told.frozen [
    | inl kept ↦ ap pair_count (same.kept (inr kept))
    | inr live ↦ live_pairs live told.owner told.owned
  ]
