-- Plans of lists that are held.
use Rattle.std.proofs.Common.{◌≡◌, ◌≤◌, ◌<◌, ◌+◌, ◌*◌, ◌^◌, ◌∙◌, ℕ, suc, List, [], ◌∷◌, length, get_or, map, cond, Bool, true, false, Result, Ok, Err, inl, inr, sym, ap, refl, subst, arith}
use Rattle.std.specs.Prelude.{◌⊎◌, Option, Some, None, IfOk, not, filter}
use Rattle.std.specs.List.{All, Contains}
use Rattle.std.proofs.lemmas.Bool.{cases_lt}
use Rattle.std.proofs.lemmas.Option.{none-some, same_Some}
use Rattle.std.proofs.lemmas.List.{get_or-map, length-map}
use Rattle.std.proofs.lemmas.List.Elements.{All-nil, All-cons}
use Rattle.dw_base.specs.declared.classes.Classes.{Classes}
use Rattle.dw_base.specs.declared.fault.Reach.{Reach}
use Rattle.dw_base.specs.declared.fault.Span.{Span}
use Rattle.spelled.specs.Spelled.{AreBytes}
use Rattle.fixed_width.proofs.Numbers.{number_small}
use Rattle.leb_codec.proofs.Lens.{least_below}
use Rattle.list_model.specs.declared.context.Context.{Context}
use Rattle.list_model.specs.declared.contribution.Contribution.{Contribution}
use Rattle.list_model.specs.declared.entry.EntryKind.{EntryKind}
use Rattle.list_model.specs.declared.entry.EntryKind.TheVariants.{BaseAddressx, StartxEndx, StartxLength, OffsetPair, DefaultLocation, BaseAddress, StartEnd, StartLength}
use Rattle.list_model.specs.declared.entry.ListKind.{ListKind}
use Rattle.list_model.specs.declared.entry.ListKind.TheVariants.{Ranges, Locations}
use Rattle.list_model.specs.declared.entry.Operand.{Operand}
use Rattle.list_model.specs.declared.entry.Operand.TheVariants.{Absent, Number, Address}
use Rattle.list_model.specs.declared.entry.RawEntry.{RawEntry}
use Rattle.list_model.specs.declared.item.Item.{Item}
use Rattle.list_model.specs.declared.item.Meaning.{Meaning}
use Rattle.list_model.specs.declared.item.Meaning.TheVariants.{Live, Dead}
use Rattle.list_model.specs.Costs.{operand_bytes, entry_bytes}
use Rattle.list_model.specs.Entries.{Entry, SpellsEntry, SpellsOperand, AreSaid, code_of, first_operand, second_operand, no_expr}
use Rattle.list_model.specs.Items.{Bounds, SetsBase, HasBounds, GiveFrom, Give, sets_base, item_of}
use Rattle.list_model.specs.Items.Bounds.{between, elsewhere}
use Rattle.list_model.specs.Laws.{OneSaying, OneWalk}
use Rattle.list_model.specs.Members.{IsLeastList, IsLeastFrozen}
use Rattle.list_model.specs.Potentials.{AcceptsList, AreGreatest}
use Rattle.list_model.specs.Reading.{AreReadFrom}
use Rattle.list_least.specs.declared.pick.Pick.{Pick}
use Rattle.list_least.specs.declared.plan.Plan.{Plan}
use Rattle.list_least.specs.Laws.{ShortestLists, PlannedLeast, FrozenLeast}
use Rattle.list_least.specs.Plans.{bounds_of, entries_bytes, ArePicks, IsPlanned, IsItemOf, item_at}
use Rattle.list_least.specs.Shortest.{FitsOperand, FitOperands}
use Rattle.list_write.specs.declared.named.NamedList.{NamedList}
use Rattle.list_write.specs.Written.{ToWrite, to_write}
use Rattle.loc_lists.specs.Locations.{items_among, entries_of, AreItems}
use Rattle.loc_lists.specs.Locations.{IsRead as IsLocationRead}
use Rattle.range_lists.specs.Ranges.{IsRead as IsRangeRead}
use Rattle.list_arena.specs.Held.{HeldList}
use Rattle.value_links.specs.Reading.{ListRead, Linkable, Reading, of_kind, lists_of, part_at, list_at, context_at}
use Rattle.value_links.specs.Lists.{IsOwner, IsFrozen, IsListOf, item_count, AreListsOf}
use Rattle.written_files.specs.Classes.{AreLeastBytes}
use Rattle.written_files.specs.Kept.{IsKept}
use Rattle.value_links.specs.World.{World, lists_held, IsMeaningOf, HoldsMeaning, HoldsList, Holds, IsWorldOf}
use Rattle.list_lookup.specs.Maps.{IsContextIn}
use Rattle.list_lookup.proofs.AddressTables.{context_same}
use Rattle.rewriter.specs.inside.Plans.{with_plan, IsPlanOf}
use Rattle.rewriter.specs.inside.Lists.{IsPlannedFor, IsRecordedFor}
use Rattle.rewriter.proofs.Standing.{held_count}

-- ---- counts

-- what is read of entries says as many
pub said_count : (list : ListKind) (raws : List RawEntry) (entries : List Entry) → AreSaid list raws entries → length raws ≡ length entries
said_count list [] [] said = refl
said_count list [] (e ∷ es) said = absurd said
said_count list (r ∷ raws) [] said = absurd said
said_count list (r ∷ raws) (e ∷ es) said = ap (λ (n : ℕ). suc n) (said_count list raws es said.1)

picks_count : (list : ListKind) (picks : List Pick) (entries : List Entry) → ArePicks list picks entries → length picks ≡ length entries
picks_count list [] [] picked = refl
picks_count list [] (e ∷ es) picked = absurd picked
picks_count list (p ∷ picks) [] picked = absurd picked
picks_count list (p ∷ picks) (e ∷ es) picked = ap (λ (n : ℕ). suc n) (picks_count list picks es picked.1)

setter_sets : (addr : List ℕ) (context : Context) (kind : EntryKind) (a base : ℕ) → SetsBase addr context kind a base → sets_base kind ≡ true
setter_sets addr context BaseAddressx a base f = refl
setter_sets addr context BaseAddress a base f = refl
setter_sets addr context _ a base f = absurd f

item_sets_none : (addr : List ℕ) (context : Context) (base : ℕ) (kind : EntryKind) (a b : ℕ) (item : Bounds) → HasBounds addr context base kind a b item → sets_base kind ≡ false
item_sets_none addr context base BaseAddressx a b item f = absurd f
item_sets_none addr context base BaseAddress a b item f = absurd f
item_sets_none addr context base _ a b item f = refl

items_in : List Entry → List Entry
items_in entries = filter (λ (entry : Entry). not (sets_base entry.kind)) entries

-- entries give as many items as they have entries that don't set the base
pub items_counted : (addr : List ℕ) (context : Context) (base : ℕ) (entries : List Entry) (bounds : List Bounds) → GiveFrom addr context base entries bounds → length bounds ≡ item_count entries
unfolding items_in
items_counted addr context base [] bounds gives = ap length gives
items_counted addr context base (entry ∷ entries) bounds (inl (next, sets, rest)) =
    items_counted addr context next entries bounds rest
    ∙ sym (ap (λ (b : Bool). length (cond (not b) (entry ∷ items_in entries) (items_in entries))) (setter_sets addr context entry.kind entry.a next sets))
items_counted addr context base (entry ∷ entries) bounds (inr (item, rest, has, is, more)) =
    ap length is ∙ ap (λ (n : ℕ). suc n) (items_counted addr context base entries rest more)
    ∙ sym (ap (λ (b : Bool). length (cond (not b) (entry ∷ items_in entries) (items_in entries))) (item_sets_none addr context base entry.kind entry.a entry.b item has))

cond_most : (b : Bool) (x : Entry) (xs : List Entry) → length (cond (not b) (x ∷ xs) xs) ≤ suc (length xs)
cond_most true x xs = omega arith
cond_most false x xs = omega arith

items_most : (entries : List Entry) → item_count entries ≤ length entries
unfolding items_in
items_most [] = omega arith
items_most (entry ∷ entries) = omega (arith, cond_most (sets_base entry.kind) entry (items_in entries), items_most entries)

-- ---- items

bounds_back : (expr : Span) (bounds : Bounds) → bounds_of (item_of expr bounds) ≡ bounds
bounds_back expr (between start end) = refl
bounds_back expr elsewhere = refl

pub all_back : (bounds : List Bounds) → map bounds_of (map (item_of no_expr) bounds) ≡ bounds
all_back [] = refl
all_back (b ∷ bounds) = ap (λ (z : Bounds). z ∷ map bounds_of (map (item_of no_expr) bounds)) (bounds_back no_expr b) ∙ ap (λ (z : List Bounds). b ∷ z) (all_back bounds)

-- likewise with the expression of each
each_back : (raws : List RawEntry) (bounds : List Bounds) (items : List Item) → AreItems raws bounds items → map bounds_of items ≡ bounds
each_back [] [] [] are = refl
each_back [] [] (i ∷ items) are = absurd are
each_back [] (b ∷ bounds) items are = absurd are
each_back (r ∷ raws) [] items are = absurd are
each_back (r ∷ raws) (b ∷ bounds) [] are = absurd are
each_back (r ∷ raws) (b ∷ bounds) (i ∷ items) (is, more) =
    ap (λ (z : Bounds). z ∷ map bounds_of items) (ap bounds_of is ∙ bounds_back r.expr b) ∙ ap (λ (z : List Bounds). b ∷ z) (each_back raws bounds items more)

-- no entry of a range list is a default location
range_item : (addr : List ℕ) (context : Context) (base : ℕ) (kind : EntryKind) (a b code : ℕ) (item : Bounds) → code_of Ranges kind ≡ Some code → HasBounds addr context base kind a b item → IsItemOf Ranges item
range_item addr context base StartxEndx a b code item known (s, e, i, j, is) = subst (λ (z : Bounds). IsItemOf Ranges z) (sym is) tt
range_item addr context base StartxLength a b code item known (s, i, is) = subst (λ (z : Bounds). IsItemOf Ranges z) (sym is) tt
range_item addr context base OffsetPair a b code item known is = subst (λ (z : Bounds). IsItemOf Ranges z) (sym is) tt
range_item addr context base DefaultLocation a b code item known is = absurd (none-some code known)
range_item addr context base StartEnd a b code item known is = subst (λ (z : Bounds). IsItemOf Ranges z) (sym is) tt
range_item addr context base StartLength a b code item known is = subst (λ (z : Bounds). IsItemOf Ranges z) (sym is) tt
range_item addr context base BaseAddressx a b code item known is = absurd is
range_item addr context base BaseAddress a b code item known is = absurd is

range_items : (addr : List ℕ) (context : Context) (base : ℕ) (raws : List RawEntry) (entries : List Entry) (bounds : List Bounds) → AreSaid Ranges raws entries → GiveFrom addr context base entries bounds → All (IsItemOf Ranges) bounds
range_items addr context base [] [] bounds said gives = subst (λ (z : List Bounds). All (IsItemOf Ranges) z) (sym gives) (All-nil (IsItemOf Ranges))
range_items addr context base [] (e ∷ es) bounds said gives = absurd said
range_items addr context base (r ∷ raws) [] bounds said gives = absurd said
range_items addr context base (r ∷ raws) (e ∷ es) bounds said (inl (next, sets, rest)) = range_items addr context next raws es bounds said.1 rest
range_items addr context base (r ∷ raws) (e ∷ es) bounds said (inr (item, rest, has, is, more)) =
    subst (λ (z : List Bounds). All (IsItemOf Ranges) z) (sym is) (All-cons (IsItemOf Ranges) item rest (range_item addr context base e.kind e.a e.b r.code item said.0.of_code has) (range_items addr context base raws es rest said.1 more))

-- a location list may have items of all sorts
location_item : (item : Bounds) → IsItemOf Locations item
location_item elsewhere = refl
location_item (between start end) = tt

-- what a list of any kind says that has items: its entries give their bounds, which are those that a list of the kind may have
record SaysItems (kind : ListKind) (addr : List ℕ) (context : Context) (raws : List RawEntry) (items : List Item) : Type 0 where
  pub entries : List Entry
  pub bounds : List Bounds
  pub said : AreSaid kind raws entries
  pub gives : Give addr context entries bounds
  pub are : map bounds_of items ≡ bounds
  pub fit : All (IsItemOf kind) bounds

says_items : (kind : ListKind) (addr : List ℕ) (context : Context) (raws : List RawEntry) (items : List Item) → IsMeaningOf kind addr context raws (Live items) → SaysItems kind addr context raws items
says_items Ranges addr context raws items m = record {
  entries = m.entries;
  bounds = m.bounds;
  said = m.said;
  gives = m.gives;
  are = ap (λ (z : List Item). map bounds_of z) m.means.1 ∙ all_back m.bounds;
  fit = range_items addr context context.base raws m.entries m.bounds m.said m.gives;
}
says_items Locations addr context raws items m = record {
  entries = m.entries;
  bounds = m.bounds;
  said = m.said;
  gives = m.gives;
  are = each_back (items_among raws) m.bounds items m.means.1;
  fit = λ i d less. location_item (get_or m.bounds i d);
}

-- ---- bytes

operand_most : (operand : Operand) (value : ℕ) → FitsOperand operand value → operand_bytes operand value ≤ 10
operand_most Absent value fits = omega arith
operand_most Number value fits = least_below value 10 (record { some = omega arith; below = omega (arith, fits) })
operand_most Address value fits = omega arith

entry_most : (entry : Entry) → FitOperands entry.kind entry.a entry.b → entry_bytes entry.kind entry.a entry.b ≤ 21
entry_most entry fit = omega (arith, operand_most (first_operand entry.kind) entry.a fit.first, operand_most (second_operand entry.kind) entry.b fit.second)

picked_most : (list : ListKind) (picks : List Pick) (entries : List Entry) → ArePicks list picks entries → entries_bytes entries ≤ 21 * length entries
picked_most list [] [] picked = omega arith
picked_most list [] (e ∷ es) picked = absurd picked
picked_most list (p ∷ picks) [] picked = absurd picked
picked_most list (p ∷ picks) (e ∷ es) picked = omega (arith, entry_most e picked.0.operands, picked_most list picks es picked.1)

-- ---- owners

pub one_owner : (r : Linkable) (kind : ListKind) (at u v : ℕ) → IsOwner r kind at (Some u) → IsOwner r kind at (Some v) → u ≡ v
one_owner r kind at u v (named, first) (too, other) = elim (cases_lt u v) [
  | inl less ↦ absurd (other u less named)
  | inr most ↦ elim (cases_lt v u) [
    | inl less ↦ absurd (first v less too)
    | inr least ↦ omega arith
  ]
]

-- ---- a list that isn't kept

-- where the classes have other entries a list that isn't frozen isn't kept
pub not_kept : (classes : Classes) (r : Linkable) (kind : ListKind) (list : ListRead) → classes.lists ≡ true → (¬ IsFrozen r kind list) → ¬ IsKept classes r kind list
not_kept classes r kind list lists live kept = elim kept [
  | inl all ↦ absurd (cc (lists, all))
  | inr frozen ↦ live frozen
]

module _ (r : Reading) (kind : ListKind) (old : ListRead) (list : HeldList) (held : HoldsList r.links kind old list) (items : List Item) (live : list.meaning ≡ Live items) where
  meant : HoldsMeaning r.links kind old list.owner (Live items)
  meant = subst (λ (z : Meaning). HoldsMeaning r.links kind old list.owner z) live held.meaning

  meaning : SaysItems kind r.links.addresses (context_at r.links meant.1.0) old.raws items
  meaning = says_items kind r.links.addresses (context_at r.links meant.1.0) old.raws items meant.1.2

  owned : IsOwner r.links kind old.at (Some meant.1.0)
  owned = subst (λ (z : Option ℕ). IsOwner r.links kind old.at z) meant.1.1 held.owner

  -- a unit owns it
  pub owner_known : (u : ℕ) → list.owner ≡ Some u → u < length r.links.units
  owner_known u is = (subst (λ (z : Option ℕ). IsOwner r.links kind old.at z) is held.owner).0.known

  pub has_owner : list.owner ≡ None → ⊥
  has_owner none = none-some meant.1.0 (sym none ∙ meant.1.1)

  items_count : length items ≡ item_count meaning.entries
  items_count = sym (length-map items bounds_of) ∙ ap length meaning.are ∙ items_counted r.links.addresses (context_at r.links meant.1.0) (context_at r.links meant.1.0).base meaning.entries meaning.bounds meaning.gives

  -- it isn't long
  pub few_items : length items ≤ 16384
  few_items = elim (cases_lt 16384 (item_count meaning.entries)) [
    | inl long ↦ absurd (meant.0 (meaning.entries, meaning.said, inr (inr (inr long))))
    | inr few ↦ omega (arith, items_count)
  ]

  -- its items are those of a list of its kind
  pub are_of_kind : (i : ℕ) → i < length items → IsItemOf kind (bounds_of (item_at items i))
  are_of_kind i less =
      let within : i < length meaning.bounds = omega (arith, ap length meaning.are, length-map items bounds_of) in
      let same : get_or meaning.bounds i elsewhere ≡ bounds_of (item_at items i) = ap (λ (z : List Bounds). get_or z i elsewhere) (sym meaning.are) ∙ get_or-map bounds_of items i (item_at [] 0) elsewhere less in
      subst (λ (z : Bounds). IsItemOf kind z) same (meaning.fit i elsewhere within)

  module _ (saying : OneSaying) (walk : OneWalk) (shortest : ShortestLists) (planned : PlannedLeast) (small : AreBytes r.links.addresses) (owner : ℕ) (owner_is : list.owner ≡ Some owner) (potentials : List ℕ) (plan : Plan) (is : IsPlanned kind r.links.addresses (context_at r.links owner) (map bounds_of items) plan.picks.items plan.size) (accepted : AcceptsList r.links.addresses (context_at r.links owner) (map bounds_of items) potentials plan.size) where
    same_owner : meant.1.0 ≡ owner
    same_owner = same_Some meant.1.0 owner (sym meant.1.1 ∙ owner_is)

    -- what the entries give in the context of the owner is what the plan gives
    gives_same : (u : ℕ) (before : List Entry) (bounds : List Bounds) → IsOwner r.links kind old.at (Some u) → AreSaid kind old.raws before → Give r.links.addresses (context_at r.links u) before bounds → (owner ≡ u) × (map bounds_of items ≡ bounds)
    gives_same u before bounds own said gives =
        let here : meant.1.0 ≡ u = one_owner r.links kind old.at meant.1.0 u owned own in
        let entries : meaning.entries ≡ before = saying kind old.raws meaning.entries before meaning.said said in
        let there = subst (λ (z : List Entry). Give r.links.addresses (context_at r.links u) z bounds) (sym entries) gives in
        let given = subst (λ (z : ℕ). Give r.links.addresses (context_at r.links z) meaning.entries bounds) (sym here) there in
        (sym same_owner ∙ here, meaning.are ∙ walk r.links.addresses (context_at r.links meant.1.0) meaning.entries meaning.bounds bounds meaning.gives given)

    -- some bytes are the shortest of its entries
    size_is : plan.size ≡ entries_bytes is.entries + 1
    size_is =
        let some = shortest.of_picks kind plan.picks.items is.entries is.picked in
        let least = planned kind r.links.addresses (context_at r.links owner) (map bounds_of items) potentials plan.size plan.picks.items is.entries some.0 small accepted is is.picked some.1 in
        sym least.1 ∙ shortest.size kind is.entries some.0 some.1

    pub live_planned : {classes : Classes} → classes.lists ≡ true → length plan.picks.items ≤ 2 * length items → (other : NamedList) → IsPlannedFor classes r kind old (to_write (with_plan list plan other))
    live_planned {classes} lists few other = record {
      part = held.part;
      at = held.at;
      entries = is.entries;
      picked = is.picked;
      size = size_is;
      few = omega (arith, few, picks_count kind plan.picks.items is.entries is.picked, items_count, items_most meaning.entries, said_count kind old.raws meaning.entries meaning.said);
      same = λ before said. record {
        live = λ free u bounds own gives.
            let same = gives_same u before bounds own said gives in
            subst (λ (z : ℕ). Give r.links.addresses (context_at r.links z) is.entries bounds) same.0 (subst (λ (z : List Bounds). Give r.links.addresses (context_at r.links owner) is.entries z) same.1 is.gives);
        kept = λ kept. absurd (not_kept classes r.links kind old lists meant.0 kept);
      };
      least = λ bytes short. record {
        live = λ free u before bounds own said gives.
            let same = gives_same u before bounds own said gives in
            let least = planned kind r.links.addresses (context_at r.links owner) (map bounds_of items) potentials plan.size plan.picks.items is.entries bytes small accepted is is.picked short in
            subst (λ (z : ℕ). IsLeastList kind r.links.addresses (context_at r.links z) bounds bytes) same.0 (subst (λ (z : List Bounds). IsLeastList kind r.links.addresses (context_at r.links owner) z bytes) same.1 least.0);
        kept = λ kept. absurd (not_kept classes r.links kind old lists meant.0 kept);
      };
    }

    -- all bytes that are least in its class are as many as the plan's
    sized : {classes : Classes} → classes.lists ≡ true → (bytes : List ℕ) → AreLeastBytes classes r.links kind old bytes → length bytes ≡ plan.size
    sized {classes} lists bytes least =
        let some = shortest.of_picks kind plan.picks.items is.entries is.picked in
        let own = planned kind r.links.addresses (context_at r.links owner) (map bounds_of items) potentials plan.size plan.picks.items is.entries some.0 small accepted is is.picked some.1 in
        let other = least.live (not_kept classes r.links kind old lists meant.0) meant.1.0 meaning.entries meaning.bounds owned meaning.said meaning.gives in
        let there : IsLeastList kind r.links.addresses (context_at r.links owner) (map bounds_of items) bytes =
        subst (λ (z : ℕ). IsLeastList kind r.links.addresses (context_at r.links z) (map bounds_of items) bytes) same_owner (subst (λ (z : List Bounds). IsLeastList kind r.links.addresses (context_at r.links meant.1.0) z bytes) (sym meaning.are) other) in
        let more : length bytes ≤ length some.0 = there.least some.0 own.0.member in
        let no_more : length some.0 ≤ length bytes = own.0.least bytes there.member in
        omega (arith, more, no_more, own.1)

    -- the potentials are its record
    pub live_recorded : {classes : Classes} → classes.lists ≡ true → AreGreatest r.links.addresses (context_at r.links owner) (map bounds_of items) potentials → IsRecordedFor classes r kind old potentials
    live_recorded lists greatest = record {
      size = plan.size;
      accepted = λ u before bounds own said gives.
          let same = gives_same u before bounds own said gives in (
            subst (λ (z : ℕ). AcceptsList r.links.addresses (context_at r.links z) bounds potentials plan.size) same.0 (subst (λ (z : List Bounds). AcceptsList r.links.addresses (context_at r.links owner) z potentials plan.size) same.1 accepted),
            subst (λ (z : ℕ). AreGreatest r.links.addresses (context_at r.links z) bounds potentials) same.0 (subst (λ (z : List Bounds). AreGreatest r.links.addresses (context_at r.links owner) z potentials) same.1 greatest),
          );
      sized = sized lists;
    }

-- the same, by the bytes of .debug_addr and the context as they are given to the search
pub planned_by : {classes : Classes} → classes.lists ≡ true → (r : Reading) (kind : ListKind) (old : ListRead) (list : HeldList) → HoldsList r.links kind old list → (items : List Item) → list.meaning ≡ Live items → OneSaying → OneWalk → ShortestLists → PlannedLeast →
    (addr : List ℕ) → AreBytes addr → addr ≡ r.links.addresses → (context : Context) (owner : ℕ) → list.owner ≡ Some owner → context ≡ context_at r.links owner → (plan : Plan) →
    IsPlanned kind addr context (map bounds_of items) plan.picks.items plan.size → AcceptsList addr context (map bounds_of items) plan.potentials.items plan.size → length plan.picks.items ≤ 2 * length items → (other : NamedList) → IsPlannedFor classes r kind old (to_write (with_plan list plan other))
planned_by lists r kind old list held items live saying walk shortest planned addr small addr_is context owner owner_is context_is plan is accepted few other =
    live_planned r kind old list held items live saying walk shortest planned (subst (λ (z : List ℕ). AreBytes z) addr_is small) owner owner_is plan.potentials.items plan
    (subst (λ (z : Context). IsPlanned kind r.links.addresses z (map bounds_of items) plan.picks.items plan.size) context_is (subst (λ (z : List ℕ). IsPlanned kind z context (map bounds_of items) plan.picks.items plan.size) addr_is is))
    (subst (λ (z : Context). AcceptsList r.links.addresses z (map bounds_of items) plan.potentials.items plan.size) context_is (subst (λ (z : List ℕ). AcceptsList z context (map bounds_of items) plan.potentials.items plan.size) addr_is accepted))
    lists few other

pub recorded_by : {classes : Classes} → classes.lists ≡ true → (r : Reading) (kind : ListKind) (old : ListRead) (list : HeldList) → HoldsList r.links kind old list → (items : List Item) → list.meaning ≡ Live items → OneSaying → OneWalk → ShortestLists → PlannedLeast →
    (addr : List ℕ) → AreBytes addr → addr ≡ r.links.addresses → (context : Context) (owner : ℕ) → list.owner ≡ Some owner → context ≡ context_at r.links owner → (plan : Plan) →
    IsPlanned kind addr context (map bounds_of items) plan.picks.items plan.size → AcceptsList addr context (map bounds_of items) plan.potentials.items plan.size → AreGreatest addr context (map bounds_of items) plan.potentials.items → IsRecordedFor classes r kind old plan.potentials.items
recorded_by lists r kind old list held items live saying walk shortest planned addr small addr_is context owner owner_is context_is plan is accepted greatest =
    live_recorded r kind old list held items live saying walk shortest planned (subst (λ (z : List ℕ). AreBytes z) addr_is small) owner owner_is plan.potentials.items plan
    (subst (λ (z : Context). IsPlanned kind r.links.addresses z (map bounds_of items) plan.picks.items plan.size) context_is (subst (λ (z : List ℕ). IsPlanned kind z context (map bounds_of items) plan.picks.items plan.size) addr_is is))
    (subst (λ (z : Context). AcceptsList r.links.addresses z (map bounds_of items) plan.potentials.items plan.size) context_is (subst (λ (z : List ℕ). AcceptsList z context (map bounds_of items) plan.potentials.items plan.size) addr_is accepted))
    lists
    (subst (λ (z : Context). AreGreatest r.links.addresses z (map bounds_of items) plan.potentials.items) context_is (subst (λ (z : List ℕ). AreGreatest z context (map bounds_of items) plan.potentials.items) addr_is greatest))

-- what is written by a plan is written by another with the same entries and the same size
pub same_plan : {classes : Classes} → (world : World) (kind : ListKind) (list : HeldList) (plan other : Plan) → (other.picks.items ≡ plan.picks.items) × (other.size ≡ plan.size) → IsPlanOf classes world kind list plan → IsPlanOf classes world kind list other
same_plan {classes} world kind list plan other (picks, size) is r old named holds held =
    let written : List Pick → ℕ → ToWrite = λ (entries : List Pick) (bytes : ℕ). record { part = list.part; at = list.at; picks = entries; size = bytes; expressions = (to_write named).expressions; views = (to_write named).views } in
    subst (λ (z : ℕ). IsPlannedFor classes r kind old (written other.picks.items z)) (sym size) (subst (λ (z : List Pick). IsPlannedFor classes r kind old (written z plan.size)) (sym picks) (is r old named holds held))

-- ---- a list that is kept

operand_fits : (operand : Operand) (value : ℕ) (bytes : List ℕ) → SpellsOperand operand value bytes → FitsOperand operand value
operand_fits Absent value bytes s = s.1
operand_fits Number value bytes s = s.1
operand_fits Address value bytes s = subst (λ (z : ℕ). z < 2 ^ 64) (sym s.is) (number_small 8 bytes s.bounded)

abbrev pub CanBeSpelled : Entry → Type 0
CanBeSpelled entry = FitOperands entry.kind entry.a entry.b

entry_said : (kind : ListKind) (entry : Entry) (bytes : List ℕ) → SpellsEntry kind entry bytes → CanBeSpelled entry
entry_said kind entry bytes spelled =
    let o = spelled.spelled in
    record { first = operand_fits (first_operand entry.kind) entry.a o.0 o.2; second = operand_fits (second_operand entry.kind) entry.b o.1 o.3 }

ranges_said : (at : ℕ) (raws : List RawEntry) (entries : List Entry) (bytes : List ℕ) → AreReadFrom IsRangeRead at raws entries bytes → AreSaid Ranges raws entries × All CanBeSpelled entries
ranges_said at [] [] bytes read = (tt, All-nil CanBeSpelled)
ranges_said at [] (e ∷ es) bytes read = absurd read
ranges_said at (r ∷ raws) [] bytes read = absurd read
ranges_said at (r ∷ raws) (e ∷ es) bytes (first, rest, here, more, whole) =
    let behind = ranges_said (at + length first) raws es rest more in
    ((here.says, behind.0), All-cons CanBeSpelled e es (entry_said Ranges e first here.spelled) behind.1)

locations_said : (at : ℕ) (raws : List RawEntry) (locations : List (Entry × List ℕ)) (bytes : List ℕ) → AreReadFrom IsLocationRead at raws locations bytes → AreSaid Locations raws (entries_of locations) × All CanBeSpelled (entries_of locations)
locations_said at [] [] bytes read = (tt, All-nil CanBeSpelled)
locations_said at [] (l ∷ ls) bytes read = absurd read
locations_said at (r ∷ raws) [] bytes read = absurd read
locations_said at (r ∷ raws) (l ∷ ls) bytes (first, rest, here, more, whole) =
    let behind = locations_said (at + length first) raws ls rest more in
    ((here.says, behind.0), All-cons CanBeSpelled l.0 (entries_of ls) (entry_said Locations l.0 here.spelled.0 here.spelled.2) behind.1)

-- what is read of a list says entries, which some bytes spell
pub list_said : (kind : ListKind) (section : List ℕ) (part : Contribution) (at : ℕ) (raws : List RawEntry) → IsListOf kind section part at raws → (entries : List Entry) × AreSaid kind raws entries × All CanBeSpelled entries
list_said Ranges section part at raws read = let s = ranges_said at raws read.entries read.front read.read in (read.entries, s.0, s.1)
list_said Locations section part at raws read = let s = locations_said at raws read.entries read.front read.read in (entries_of read.entries, s.0, s.1)

module _ (r : Reading) (kind : ListKind) (old : ListRead) (list : HeldList) (held : HoldsList r.links kind old list) (saying : OneSaying) (frozen_least : FrozenLeast) (plan : Plan) where
  is_frozen : list.meaning ≡ Dead → IsFrozen r.links kind old
  is_frozen dead = subst (λ (z : Meaning). HoldsMeaning r.links kind old list.owner z) dead held.meaning

  -- it says entries, whatever it means
  entries_as : (m : Meaning) → list.meaning ≡ m → (entries : List Entry) × AreSaid kind old.raws entries
  entries_as (Live items) live = let says = meaning r kind old list held items live in (says.entries, says.said)
  entries_as Dead dead = let frozen = is_frozen dead in (frozen.0, frozen.1)

  own : (entries : List Entry) × AreSaid kind old.raws entries
  own = entries_as list.meaning refl

  said_held : AreSaid kind list.raw own.0
  said_held = subst (λ (z : List RawEntry). AreSaid kind z own.0) (sym held.raws) own.1

  is_kept : (classes : Classes) → (classes.lists ≡ false) ⊎ (list.meaning ≡ Dead) → IsKept classes r.links kind old
  is_kept classes kept = elim kept [
    | inl all ↦ inl all
    | inr dead ↦ inr (is_frozen dead)
  ]

  pub kept_planned : {classes : Classes} → (classes.lists ≡ false) ⊎ (list.meaning ≡ Dead) → ((entries : List Entry) → AreSaid kind list.raw entries → ArePicks kind plan.picks.items entries) → ((entries : List Entry) → AreSaid kind list.raw entries → plan.size ≡ entries_bytes entries + 1) → (other : NamedList) → IsPlannedFor classes r kind old (to_write (with_plan list plan other))
  kept_planned {classes} because picked bytes other = record {
    part = held.part;
    at = held.at;
    entries = own.0;
    picked = picked own.0 said_held;
    size = bytes own.0 said_held;
    few = omega (arith, said_count kind old.raws own.0 own.1);
    same = λ before said. record {
      live = λ free u bounds owns gives. subst (λ (z : List Entry). Give r.links.addresses (context_at r.links u) z bounds) (saying kind old.raws before own.0 said own.1) gives;
      kept = λ kept. saying kind old.raws own.0 before own.1 said;
    };
    least = λ bytes short. record {
      live = λ free u before bounds owns said gives. absurd (free (is_kept classes because));
      kept = λ kept before said. subst (λ (z : List Entry). IsLeastFrozen kind z bytes) (saying kind old.raws own.0 before own.1 said) (frozen_least kind own.0 bytes short);
    };
  }

-- ---- the bytes of a list that is planned

pub planned_most : {classes : Classes} → (r : Reading) (kind : ListKind) (old : ListRead) (written : ToWrite) → IsPlannedFor classes r kind old written → written.size ≤ 42 * length old.raws + 1
planned_most r kind old written is = omega (arith, is.size, is.few, picked_most kind written.picks is.entries is.picked)

-- ---- what is held

-- a list that is held is one that is read
pub held_list : (file : List ℕ) (world : World) (r : Reading) (kind : ListKind) (list : HeldList) → Holds file world r → Contains (lists_held world kind) list → (k : ℕ) × (k < length (lists_of r kind)) × HoldsList r.links kind (list_at (lists_of r kind) k) list
held_list file world r kind list holds (k, less, is) =
    let count : length (lists_held world kind) ≡ length (lists_of r kind) = (holds.lists kind).count in
    let inside : k < length (lists_of r kind) = omega (arith, count, less) in
    (k, inside, subst (λ (z : HeldList). HoldsList r.links kind (list_at (lists_of r kind) k) z) is ((holds.lists kind).each k list inside))

-- the context of the owner of a list that isn't frozen is that of a unit
pub owner_context : (world : World) (reach : Reach) (is : IsWorldOf world.image reach world) (kind : ListKind) (list : HeldList) → Contains (lists_held world kind) list → (items : List Item) → list.meaning ≡ Live items → (owner : ℕ) → list.owner ≡ Some owner → (context : Context) → ((file : List ℕ) (r : Reading) → Holds file world r → context ≡ context_at r.links owner) → IsContextIn world context
owner_context world reach is kind list one items live owner owner_is context context_is =
    let held = held_list world.image world is.r kind list is.holds one in
    let known : owner < length is.r.links.units = owner_known is.r kind (list_at (lists_of is.r kind) held.0) list held.2 items live owner owner_is in
    let count : length world.units ≡ length is.r.links.units = held_count world.image world is.r is.holds in
    (owner, omega (arith, known, count), context_is world.image is.r is.holds ∙ sym (context_same world.image world is.r owner is.holds))

-- the entries of a list that is read are said by what is held, and some bytes spell them
pub held_said : (r : Reading) (kind : ListKind) (k : ℕ) → k < length (lists_of r kind) → AreListsOf r.links kind (lists_of r kind) → (raws : List RawEntry) → raws ≡ (list_at (lists_of r kind) k).raws → (entries : List Entry) × AreSaid kind raws entries × All CanBeSpelled entries
held_said r kind k inside lists raws same =
    let list = list_at (lists_of r kind) k in
    let said = list_said kind (of_kind r.links kind).section (part_at (of_kind r.links kind) list.part) list.at list.raws (lists.each k inside).read in
    (said.0, subst (λ (z : List RawEntry). AreSaid kind z said.0) (sym same) said.1, said.2)

-- ---- answers

-- what some clauses of a result give together
pub if_all : {T E : Type 0} (result : Result T E) (P Q R S : T → Type 0) → ((x : T) → P x → Q x → R x → S x) → IfOk result P → IfOk result Q → IfOk result R → IfOk result S
if_all (Ok x) P Q R S all p q r = all x p q r
if_all (Err e) P Q R S all p q r = tt

pub if_both : {T E : Type 0} (result : Result T E) (P Q S : T → Type 0) → ((x : T) → P x → Q x → S x) → IfOk result P → IfOk result Q → IfOk result S
if_both (Ok x) P Q S all p q = all x p q
if_both (Err e) P Q S all p q = tt
