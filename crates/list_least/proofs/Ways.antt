-- Entries that are picked on the way from the first item to the last.
use Rattle.std.proofs.Common.{◌≡◌, ◌≤◌, ◌<◌, ◌+◌, ◌-◌, ◌*◌, ◌∙◌, ◌⊎◌, ℕ, zero, suc, List, [], ◌∷◌, ◌++◌, length, drop, get_or, sym, ap, refl, subst, arith, inl, inr}
use Rattle.std.specs.Prelude.{min, map, Some, None}
use Rattle.std.proofs.lemmas.List.{drop_more, drop_all, append_assoc, append-nil, length-append, length-map}
use Rattle.leb_codec.specs.LineCosts.{IsLeastCost}
use Rattle.list_model.specs.declared.context.Context.{Context}
use Rattle.list_model.specs.declared.item.Item.{Item}
use Rattle.list_model.specs.declared.entry.EntryKind.{EntryKind}
use Rattle.list_model.specs.declared.entry.EntryKind.TheVariants.{BaseAddressx, StartxEndx, StartxLength, OffsetPair, DefaultLocation, BaseAddress, StartEnd, StartLength}
use Rattle.list_model.specs.declared.entry.ListKind.{ListKind}
use Rattle.list_model.specs.declared.entry.ListKind.TheVariants.{Ranges, Locations}
use Rattle.list_model.specs.Entries.{Entry}
use Rattle.list_model.specs.Items.{Bounds, HasBounds, GiveFrom}
use Rattle.list_model.specs.Items.Bounds.{elsewhere}
use Rattle.list_model.specs.Costs.{entry_bytes, ItemWithin}
use Rattle.list_model.specs.Potentials.{OnFrom, AreGreatest}
use Rattle.list_least.specs.Plans.{bounds_of, entries_bytes, ArePicks, IsItemOf, IsPlanned}
use Rattle.list_least.specs.inside.Search.{IsChosen, AreChosen}
use Rattle.list_least.specs.inside.Ways.{AddsPick, HasCode, IsPlaced, IsBasePicked, IsOnWay, IsLeftUnder, IsSearched, IsWay, as_entry, left_from}
use Rattle.list_least.specs.declared.pick.Pick.{Pick}
use Rattle.list_least.specs.declared.pick.Chosen.{Chosen}
use Rattle.list_least.specs.declared.cheapest.Choice.{Choice}
use Rattle.list_least.specs.declared.costs.Costs.{Costs}
use Rattle.list_least.specs.declared.fill.Left.{Left}
use Rattle.std.proofs.lemmas.Bool.{cases_lt}
use Rattle.list_least.proofs.Pushing.{item_first_least}
use Rattle.list_least.proofs.Filling.{filled_step, filled_last, potential_there, potential_end}

-- ---- codes

default_code : (list : ListKind) (item : Bounds) → item ≡ elsewhere → IsItemOf list item → HasCode list DefaultLocation
default_code list item e fits =
    let l : list ≡ Locations = subst (IsItemOf list) e fits in
    subst (λ (z : ListKind). HasCode z DefaultLocation) (sym l) (5, refl)

pub item_code : (list : ListKind) (addr : List ℕ) (context : Context) (base : ℕ) (kind : EntryKind) (a b : ℕ) (item : Bounds) → IsItemOf list item → HasBounds addr context base kind a b item → HasCode list kind
item_code list addr context base DefaultLocation a b item fits has = default_code list item has fits
item_code Ranges addr context base StartxEndx a b item fits has = (2, refl)
item_code Ranges addr context base StartxLength a b item fits has = (3, refl)
item_code Ranges addr context base OffsetPair a b item fits has = (4, refl)
item_code Ranges addr context base StartEnd a b item fits has = (6, refl)
item_code Ranges addr context base StartLength a b item fits has = (7, refl)
item_code Locations addr context base StartxEndx a b item fits has = (2, refl)
item_code Locations addr context base StartxLength a b item fits has = (3, refl)
item_code Locations addr context base OffsetPair a b item fits has = (4, refl)
item_code Locations addr context base StartEnd a b item fits has = (7, refl)
item_code Locations addr context base StartLength a b item fits has = (8, refl)
item_code list addr context base BaseAddressx a b item fits has = absurd has
item_code list addr context base BaseAddress a b item fits has = absurd has

address_code : (list : ListKind) → HasCode list BaseAddress
address_code Ranges = (5, refl)
address_code Locations = (6, refl)

indexed_code : (list : ListKind) → HasCode list BaseAddressx
indexed_code Ranges = (1, refl)
indexed_code Locations = (1, refl)

pub address_known : (list : ListKind) (chosen : Chosen) (base : ℕ) → chosen ≡ record { kind = BaseAddress; a = base; b = 0 } → HasCode list chosen.kind
address_known list chosen base e = subst (λ (z : Chosen). HasCode list z.kind) (sym e) (address_code list)

pub indexed_known : (list : ListKind) (chosen : Chosen) (index : ℕ) → chosen ≡ record { kind = BaseAddressx; a = index; b = 0 } → HasCode list chosen.kind
indexed_known list chosen index e = subst (λ (z : Chosen). HasCode list z.kind) (sym e) (indexed_code list)

pub address_picked : (list : ListKind) (addr : List ℕ) (context : Context) (base : ℕ) (chosen : Chosen) (old new : List Pick) → chosen ≡ record { kind = BaseAddress; a = base; b = 0 } → AddsPick list old (as_entry chosen) new → IsBasePicked list addr context None base old new
address_picked list addr context base chosen old new e adds = record {
  entry = record { kind = BaseAddress; a = base; b = 0 };
  sets = λ bytes is. (refl, omega (arith, is));
  adds = subst (λ (z : Chosen). AddsPick list old (as_entry z) new) e adds;
}

pub indexed_picked : (list : ListKind) (addr : List ℕ) (context : Context) (index base : ℕ) (chosen : Chosen) (old new : List Pick) → chosen ≡ record { kind = BaseAddressx; a = index; b = 0 } → AddsPick list old (as_entry chosen) new → IsBasePicked list addr context (Some index) base old new
indexed_picked list addr context index base chosen old new e adds = record {
  entry = record { kind = BaseAddressx; a = index; b = 0 };
  sets = λ bytes is. (is.0, omega (arith, is.1));
  adds = subst (λ (z : Chosen). AddsPick list old (as_entry z) new) e adds;
}

-- ---- one item more

bytes_push : (entries : List Entry) (entry : Entry) → entries_bytes (entries ++ entry ∷ []) ≡ entries_bytes entries + entry_bytes entry.kind entry.a entry.b
bytes_push [] entry = omega arith
bytes_push (e ∷ es) entry = let h = bytes_push es entry in omega (arith, h)

items_here : (items : List Item) (i : ℕ) (d : Item) → i < length items → map bounds_of (drop i items) ≡ bounds_of (get_or items i d) ∷ map bounds_of (drop (i + 1) items)
items_here items i d lt = ap (map bounds_of) (drop_more items i d lt)

-- under the same base
on_kept : (list : ListKind) (addr : List ℕ) (context : Context) (items : List Item) (i base : ℕ) (d : Item) (picks new : List Pick) (here next bytes size : ℕ) → i < length items → next + bytes ≤ here → ItemWithin addr context base (bounds_of (get_or items i d)) bytes → IsPlaced list addr context base (bounds_of (get_or items i d)) picks new → IsOnWay list addr context items i base picks here size → IsOnWay list addr context items (i + 1) base new next size
on_kept list addr context items i base d picks new here next bytes size lt le one placed on =
    let e : Entry = placed.entry in
    record {
      entries = on.entries ++ e ∷ [];
      picked = placed.adds on.entries on.picked;
      gives = λ more h.
          let g = on.gives (e ∷ more) (inr (bounds_of (get_or items i d), map bounds_of (drop (i + 1) items), placed.is.has, items_here items i d lt, h)) in
          subst (λ (z : List Entry). GiveFrom addr context context.base z (map bounds_of items)) (sym (append_assoc on.entries (e ∷ []) more)) g;
      sum = omega (arith, bytes_push on.entries e, placed.is.least.least bytes one, on.sum, le);
      few = omega (arith, on.few, length-append on.entries (e ∷ []));
    }

-- under a base that is set
on_set : (list : ListKind) (addr : List ℕ) (context : Context) (items : List Item) (potentials : List ℕ) (i base : ℕ) (d : Item) (choice : Choice) (picks mid new : List Pick) (here next size : ℕ) → i < length items → choice.bytes ≤ here → IsChosen addr context (bounds_of (get_or items i d)) (map bounds_of (drop (i + 1) items)) potentials choice → IsBasePicked list addr context choice.index choice.base picks mid → IsPlaced list addr context choice.base (bounds_of (get_or items i d)) mid new → IsLeastCost (OnFrom addr context choice.base (map bounds_of (drop (i + 1) items)) potentials) next → IsOnWay list addr context items i base picks here size → IsOnWay list addr context items (i + 1) choice.base new next size
on_set list addr context items potentials i base d choice picks mid new here next size lt le chosen picked placed rest on =
    let e : Entry = placed.entry in
    let b : Entry = picked.entry in
    let s = picked.sets chosen.set chosen.is in
    let bytes : ℕ = entry_bytes e.kind e.a e.b in
    let f = item_first_least addr context choice.base (bounds_of (get_or items i d)) (map bounds_of (drop (i + 1) items)) potentials bytes next placed.is.least rest in
    let few : next + bytes ≤ chosen.left = f.least chosen.left chosen.behind.enough in
    record {
      entries = (on.entries ++ b ∷ []) ++ e ∷ [];
      picked = placed.adds (on.entries ++ b ∷ []) (picked.adds on.entries on.picked);
      gives = λ more h.
          let g = on.gives (b ∷ e ∷ more) (inl (choice.base, s.0, inr (bounds_of (get_or items i d), map bounds_of (drop (i + 1) items), placed.is.has, items_here items i d lt, h))) in
          subst (λ (z : List Entry). GiveFrom addr context context.base z (map bounds_of items)) (sym (append_assoc (on.entries ++ b ∷ []) (e ∷ []) more ∙ append_assoc on.entries (b ∷ []) (e ∷ more))) g;
      sum = omega (arith, bytes_push (on.entries ++ b ∷ []) e, bytes_push on.entries b, s.1, chosen.sum, few, on.sum, le);
      few = omega (arith, on.few, length-append (on.entries ++ b ∷ []) (e ∷ []), length-append on.entries (b ∷ []));
    }

-- what was chosen for an item
chosen_suc : (addr : List ℕ) (context : Context) (items : List Item) (potentials : List ℕ) (choices : List Choice) (i : ℕ) (d : Item) (c : Choice) → i < length items → AreChosen addr context (map bounds_of items) potentials choices → IsChosen addr context (bounds_of (get_or items i d)) (map bounds_of (drop (suc i) items)) (drop (suc i) potentials) (get_or choices i c) × ((get_or choices i c).bytes ≡ get_or potentials i 0)
chosen_suc addr context [] potentials choices i d c lt all = absurd (omega (arith, lt))
chosen_suc addr context (item ∷ items) [] choices i d c lt all = absurd all
chosen_suc addr context (item ∷ items) (p ∷ ps) [] i d c lt all = absurd all
chosen_suc addr context (item ∷ items) (p ∷ ps) (choice ∷ choices) zero d c lt all = (all.1, all.0)
chosen_suc addr context (item ∷ items) (p ∷ ps) (choice ∷ choices) (suc i) d c lt all = chosen_suc addr context items ps choices i d c (omega (arith, lt)) all.2

pub chosen_nth : (addr : List ℕ) (context : Context) (items : List Item) (potentials : List ℕ) (choices : List Choice) (i : ℕ) (d : Item) (c : Choice) → i < length items → AreChosen addr context (map bounds_of items) potentials choices → IsChosen addr context (bounds_of (get_or items i d)) (map bounds_of (drop (i + 1) items)) (drop (i + 1) potentials) (get_or choices i c) × ((get_or choices i c).bytes ≡ get_or potentials i 0)
chosen_nth addr context items potentials choices i d c lt all =
    let h = chosen_suc addr context items potentials choices i d c lt all in
    let e : suc i ≡ i + 1 = omega arith in
    (subst (λ (n : ℕ). IsChosen addr context (bounds_of (get_or items i d)) (map bounds_of (drop n items)) (drop n potentials) (get_or choices i c)) e h.0, h.1)

-- ---- the way goes on

pub way_start : (list : ListKind) (addr : List ℕ) (context : Context) (items : List Item) (potentials : List ℕ) (base : ℕ) (picks : List Pick) (left : Left) → context.base ≡ base → AreGreatest addr context (map bounds_of items) potentials → picks ≡ [] → IsLeftUnder addr context base items potentials 0 left → IsWay list addr context items potentials 0 base picks left
way_start list addr context items potentials base picks left first greatest e under = record {
  from = 0;
  behind = omega arith;
  before = omega arith;
  under = under;
  on = λ size least. record {
    entries = [];
    picked = subst (λ (z : List Pick). ArePicks list z []) (sym e) tt;
    gives = λ more h. subst (λ (z : ℕ). GiveFrom addr context z more (map bounds_of items)) (sym first) h;
    sum =
        let one : OnFrom addr context base (map bounds_of items) potentials size = subst (λ (z : ℕ). OnFrom addr context z (map bounds_of items) potentials size) first least.enough in
        omega (arith, (under.least greatest).least size one);
    few = omega arith;
  };
}

module _ (list : ListKind) (addr : List ℕ) (context : Context) (items : List Item) (costs : List Costs) (potentials : List ℕ) (choices : List Choice) (i base : ℕ) (d : Item) (c : Choice) (picks : List Pick) (left : Left) (known : IsSearched addr context items costs potentials choices) (same : length potentials ≡ length items) (lt : i < length items) (way : IsWay list addr context items potentials i base picks left) where
  abbrev here : ℕ
  here = left_from left i

  abbrev next : ℕ
  next = left_from left (i + 1)

  chosen : IsChosen addr context (bounds_of (get_or items i d)) (map bounds_of (drop (i + 1) items)) (drop (i + 1) potentials) (get_or choices i c) × ((get_or choices i c).bytes ≡ get_or potentials i 0)
  chosen = chosen_nth addr context items potentials choices i d c lt known.chosen

  -- a base is set, or the item's entry is under the one before
  pub either_way : (bytes : ℕ) → i < left.to → IsLeastCost (ItemWithin addr context base (bounds_of (get_or items i d))) bytes → ((get_or choices i c).bytes ≤ here) ⊎ (next + bytes ≤ here)
  either_way bytes less one =
      let k : left.to - i - 1 ≡ left.to - (i + 1) = omega arith in
      let s : here ≡ min (get_or potentials i 0) (next + bytes) = filled_step addr context base items potentials left.bytes.items way.from left.to i d bytes way.under.filled way.behind less way.under.inside same one ∙ ap (λ (n : ℕ). min (get_or potentials i 0) (get_or left.bytes.items n 0 + bytes)) k in
      elim (cases_lt (get_or potentials i 0) (next + bytes)) [ inl few ↦ inl (omega (arith, s, few, chosen.1)) | inr ge ↦ inr (omega (arith, s, ge)) ]

  -- a base is set before the last of the items that are known under the one before
  pub last_way : i ≡ left.to → (get_or choices i c).bytes ≤ here
  last_way e = omega (arith, filled_last addr context base items potentials left.bytes.items way.from left.to i way.under.filled way.behind e, potential_there potentials i (omega (arith, lt, same)), chosen.1)

  pub way_kept : (new : List Pick) (bytes : ℕ) → i < left.to → IsLeastCost (ItemWithin addr context base (bounds_of (get_or items i d))) bytes → next + bytes ≤ here → IsPlaced list addr context base (bounds_of (get_or items i d)) picks new → IsWay list addr context items potentials (i + 1) base new left
  way_kept new bytes less one le placed = record {
    from = way.from;
    behind = omega (arith, way.behind);
    before = omega (arith, less);
    under = way.under;
    on = λ size least. on_kept list addr context items i base d picks new here next bytes size lt le one.enough placed (way.on size least);
  }

  pub way_set : (mid new : List Pick) (after : Left) → (get_or choices i c).bytes ≤ here → IsBasePicked list addr context (get_or choices i c).index (get_or choices i c).base picks mid → IsPlaced list addr context (get_or choices i c).base (bounds_of (get_or items i d)) mid new → IsLeftUnder addr context (get_or choices i c).base items potentials (i + 1) after → IsWay list addr context items potentials (i + 1) (get_or choices i c).base new after
  way_set mid new after le picked placed under = record {
    from = i + 1;
    behind = omega arith;
    before = under.order;
    under = under;
    on = λ size least. on_set list addr context items (drop (i + 1) potentials) i base d (get_or choices i c) picks mid new here (left_from after (i + 1)) size lt le chosen.0 picked placed (under.least known.greatest) (way.on size least);
  }

-- ---- and ends

pub way_end : (list : ListKind) (addr : List ℕ) (context : Context) (items : List Item) (potentials : List ℕ) (i base : ℕ) (picks : List Pick) (left : Left) → i ≡ length items → length potentials ≡ length items → IsWay list addr context items potentials i base picks left → (size : ℕ) → IsLeastCost (OnFrom addr context context.base (map bounds_of items) potentials) size → IsPlanned list addr context (map bounds_of items) picks size
way_end list addr context items potentials i base picks left e same way size least =
    let on = way.on size least in
    let last = filled_last addr context base items potentials left.bytes.items way.from left.to i way.under.filled way.behind (omega (arith, e, way.before, way.under.inside)) in
    record {
      entries = on.entries;
      picked = on.picked;
      gives = subst (λ (z : List Entry). GiveFrom addr context context.base z (map bounds_of items)) (append-nil on.entries) (on.gives [] (ap (map bounds_of) (drop_all i items (omega (arith, e)))));
      bytes = omega (arith, on.sum, last, potential_end potentials i (omega (arith, e, same)));
      few = omega (arith, on.few, e, length-map items bounds_of);
    }

-- as many are picked as there are entries
picked_count : (list : ListKind) (picks : List Pick) (entries : List Entry) → ArePicks list picks entries → length picks ≡ length entries
picked_count list [] [] are = refl
picked_count list [] (entry ∷ entries) are = absurd are
picked_count list (pick ∷ picks) [] are = absurd are
picked_count list (pick ∷ picks) (entry ∷ entries) are = ap suc (picked_count list picks entries are.1)

pub planned_few : (list : ListKind) (addr : List ℕ) (context : Context) (items : List Item) (picks : List Pick) (size : ℕ) → IsPlanned list addr context (map bounds_of items) picks size → length picks ≤ 2 * length items
planned_few list addr context items picks size planned = omega (arith, planned.few, picked_count list picks planned.entries planned.picked, length-map items bounds_of)

-- ---- what is read of the bytes left

pub read_at : (after : List ℕ) (n x : ℕ) → n < length after → x ≡ get_or after n x → x ≡ get_or after n 0
read_at [] n x lt e = absurd (omega (arith, lt))
read_at (a ∷ more) zero x lt e = e
read_at (a ∷ more) (suc n) x lt e = read_at more n x (omega (arith, lt)) e

pub read_next : (left : Left) (i x : ℕ) → left.to - i < length left.bytes.items → x ≡ get_or left.bytes.items (left.to - i - 1) x → x ≡ left_from left (i + 1)
read_next left i x lt e =
    let k : left.to - i - 1 ≡ left.to - (i + 1) = omega arith in
    read_at left.bytes.items (left.to - i - 1) x (omega (arith, lt)) e ∙ ap (λ (n : ℕ). get_or left.bytes.items n 0) k

pub way_same : (list : ListKind) (addr : List ℕ) (context : Context) (items : List Item) (potentials : List ℕ) (i base base2 : ℕ) (picks : List Pick) (left left2 : Left) → base2 ≡ base → left2 ≡ left → IsWay list addr context items potentials i base picks left → IsWay list addr context items potentials i base2 picks left2
way_same list addr context items potentials i base base2 picks left left2 e f way = subst (λ (z : ℕ). IsWay list addr context items potentials i z picks left2) (sym e) (subst (λ (z : Left). IsWay list addr context items potentials i base picks z) (sym f) way)

pub placed_same : (list : ListKind) (addr : List ℕ) (context : Context) (base base2 : ℕ) (item : Bounds) (picks picks2 new : List Pick) → base2 ≡ base → picks2 ≡ picks → IsPlaced list addr context base2 item picks2 new → IsPlaced list addr context base item picks new
placed_same list addr context base base2 item picks picks2 new e f placed = subst (λ (z : ℕ). IsPlaced list addr context z item picks new) e (subst (λ (z : List Pick). IsPlaced list addr context base2 item z new) f placed)
