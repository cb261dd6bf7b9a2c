-- What entries say.
use Rattle.std.proofs.Common.{◌≡◌, ◌<◌, ◌+◌, ◌++◌, ◌∙◌, ◌⊎◌, true, false, ℕ, zero, suc, List, [], ◌∷◌, length, get_or, sym, ap, refl, subst, arith, inl, inr}
use Rattle.std.specs.List.{Contains}
use Rattle.std.specs.Prelude.{Option, Some, None}
use Rattle.std.proofs.lemmas.Bool.{true≢false, cases_lt}
use Rattle.std.proofs.lemmas.List.Elements.{All-nil, All-cons}
use Rattle.std.proofs.lemmas.Option.{none-some, same_Some}
use Rattle.dw_base.specs.declared.fault.Kind.{Kind}
use Rattle.dw_base.specs.declared.fault.Kind.TheVariants.{Pointer, NoBase}
use Rattle.dw_base.specs.Refusals.{IsFaulty}
use Rattle.list_model.specs.declared.context.Context.{Context}
use Rattle.list_model.specs.declared.tables.AddrTable.{AddrTable}
use Rattle.list_model.specs.declared.entry.ListKind.{ListKind}
use Rattle.list_model.specs.declared.entry.EntryKind.{EntryKind}
use Rattle.list_model.specs.declared.entry.EntryKind.TheVariants.{BaseAddressx, StartxEndx, StartxLength, OffsetPair, DefaultLocation, BaseAddress, StartEnd, StartLength}
use Rattle.list_model.specs.declared.entry.RawEntry.{RawEntry}
use Rattle.list_model.specs.declared.walk.Step.{Step}
use Rattle.list_model.specs.declared.walk.Step.TheVariants.{Base, Between, Elsewhere, Over}
use Rattle.list_model.specs.Addresses.{address_of}
use Rattle.list_model.specs.Entries.{Entry, Says, AreSaid}
use Rattle.list_model.specs.Items.{IsIndexed, Bounds, SetsBase, HasBounds, sets_base, IsBaseBehind, IsItemBehind, GiveFrom, Give, indexes_in, FaultIndex, FaultIndexes}
use Rattle.list_model.specs.Items.Bounds.{between, elsewhere}
use Rattle.list_model.specs.Steps.{IsStep}
use Rattle.list_model.proofs.EntryLaws.{one_kind, same_entry}

one_entry : (list : ListKind) (raw : RawEntry) (entry other : Entry) → Says list raw entry → Says list raw other → entry ≡ other
one_entry list raw entry other h k = same_entry entry other (one_kind list entry.kind other.kind raw.code h.of_code k.of_code) (sym h.of_a ∙ k.of_a) (sym h.of_b ∙ k.of_b)

pub one_saying : (list : ListKind) (raws : List RawEntry) (entries others : List Entry) → AreSaid list raws entries → AreSaid list raws others → entries ≡ others
one_saying list [] [] [] f g = refl
one_saying list (raw ∷ raws) (e ∷ es) (d ∷ ds) f g = ap (λ z. z ∷ es) (one_entry list raw e d f.0 g.0) ∙ ap (λ z. d ∷ z) (one_saying list raws es ds f.1 g.1)
one_saying list [] [] (d ∷ ds) f g = absurd g
one_saying list [] (e ∷ es) ds f g = absurd f
one_saying list (raw ∷ raws) [] ds f g = absurd f
one_saying list (raw ∷ raws) (e ∷ es) [] f g = absurd g

-- ---- one walk

one_address : (addr : List ℕ) (context : Context) (index x y : ℕ) → IsIndexed addr context index x → IsIndexed addr context index y → x ≡ y
one_address addr context index x y (t, e, l, f) (u, g, m, h) = f ∙ ap (λ (z : AddrTable). address_of addr z index) (same_Some t u (sym e ∙ g)) ∙ sym h

one_base : (addr : List ℕ) (context : Context) (kind : EntryKind) (a x y : ℕ) → SetsBase addr context kind a x → SetsBase addr context kind a y → x ≡ y
one_base addr context BaseAddressx a x y f g = one_address addr context a x y f g
one_base addr context BaseAddress a x y f g = f ∙ sym g
one_base addr context _ a x y f g = absurd f

one_bounds : (addr : List ℕ) (context : Context) (base : ℕ) (kind : EntryKind) (a b : ℕ) (x y : Bounds) → HasBounds addr context base kind a b x → HasBounds addr context base kind a b y → x ≡ y
one_bounds addr context base StartxEndx a b x y (s, e, i, j, f) (t, d, k, l, g) = f ∙ ap (λ z. between z e) (one_address addr context a s t i k) ∙ ap (λ z. between t z) (one_address addr context b e d j l) ∙ sym g
one_bounds addr context base StartxLength a b x y (s, i, f) (t, k, g) = f ∙ ap (λ z. between z (z + b)) (one_address addr context a s t i k) ∙ sym g
one_bounds addr context base OffsetPair a b x y f g = f ∙ sym g
one_bounds addr context base DefaultLocation a b x y f g = f ∙ sym g
one_bounds addr context base StartEnd a b x y f g = f ∙ sym g
one_bounds addr context base StartLength a b x y f g = f ∙ sym g
one_bounds addr context base BaseAddressx a b x y f g = absurd f
one_bounds addr context base BaseAddress a b x y f g = absurd f

-- an entry that sets the base is no item
no_item : (addr : List ℕ) (context : Context) (base : ℕ) (kind : EntryKind) (a b next : ℕ) (x : Bounds) → SetsBase addr context kind a next → HasBounds addr context base kind a b x → ⊥
no_item addr context base BaseAddressx a b next x f g = g
no_item addr context base BaseAddress a b next x f g = g
no_item addr context base StartxEndx a b next x f g = f
no_item addr context base StartxLength a b next x f g = f
no_item addr context base OffsetPair a b next x f g = f
no_item addr context base DefaultLocation a b next x f g = f
no_item addr context base StartEnd a b next x f g = f
no_item addr context base StartLength a b next x f g = f

one_from : (addr : List ℕ) (context : Context) (base : ℕ) (entries : List Entry) (xs ys : List Bounds) → GiveFrom addr context base entries xs → GiveFrom addr context base entries ys → xs ≡ ys
one_from addr context base [] xs ys f g = f ∙ sym g
one_from addr context base (entry ∷ entries) xs ys (inl (m, f, r)) (inl (n, g, s)) =
    let same : m ≡ n = one_base addr context entry.kind entry.a m n f g in
    one_from addr context n entries xs ys (subst (λ (z : ℕ). GiveFrom addr context z entries xs) same r) s
one_from addr context base (entry ∷ entries) xs ys (inl (m, f, r)) (inr (y, rest, g, e, s)) = absurd (no_item addr context base entry.kind entry.a entry.b m y f g)
one_from addr context base (entry ∷ entries) xs ys (inr (x, rest, f, e, r)) (inl (n, g, s)) = absurd (no_item addr context base entry.kind entry.a entry.b n x g f)
one_from addr context base (entry ∷ entries) xs ys (inr (x, rest, f, e, r)) (inr (y, more, g, d, s)) =
    e ∙ ap (λ z. z ∷ rest) (one_bounds addr context base entry.kind entry.a entry.b x y f g) ∙ ap (λ z. y ∷ z) (one_from addr context base entries rest more r s) ∙ sym d

pub one_walk : (addr : List ℕ) (context : Context) (entries : List Entry) (bounds others : List Bounds) → Give addr context entries bounds → Give addr context entries others → bounds ≡ others
one_walk addr context = one_from addr context context.base

-- ---- the closest base

setter_sets : (addr : List ℕ) (context : Context) (kind : EntryKind) (a base : ℕ) → SetsBase addr context kind a base → sets_base kind ≡ true
setter_sets addr context BaseAddressx a base f = refl
setter_sets addr context BaseAddress a base f = refl
setter_sets addr context _ a base f = absurd f

item_sets_none : (addr : List ℕ) (context : Context) (base : ℕ) (kind : EntryKind) (a b : ℕ) (item : Bounds) → HasBounds addr context base kind a b item → sets_base kind ≡ false
item_sets_none addr context base BaseAddressx a b item f = absurd f
item_sets_none addr context base BaseAddress a b item f = absurd f
item_sets_none addr context base _ a b item f = refl

-- behind one entry more at the front
behind_setter : (addr : List ℕ) (context : Context) (first next base : ℕ) (entry : Entry) (before : List Entry) → SetsBase addr context entry.kind entry.a next → IsBaseBehind addr context next before base → IsBaseBehind addr context first (entry ∷ before) base
behind_setter addr context first next base entry before f (inl (none, same)) = inr ([], entry, before, refl, subst (λ (z : ℕ). SetsBase addr context entry.kind entry.a z) (sym same) f, none)
behind_setter addr context first next base entry before f (inr (front, setter, back, e, s, none)) = inr (entry ∷ front, setter, back, ap (λ (z : List Entry). entry ∷ z) e, s, none)

behind_item : (addr : List ℕ) (context : Context) (first base : ℕ) (entry : Entry) (before : List Entry) → sets_base entry.kind ≡ false → IsBaseBehind addr context first before base → IsBaseBehind addr context first (entry ∷ before) base
behind_item addr context first base entry before f (inl (none, same)) = inl (All-cons (λ (z : Entry). sets_base z.kind ≡ false) entry before f none, same)
behind_item addr context first base entry before f (inr (front, setter, back, e, s, none)) = inr (entry ∷ front, setter, back, ap (λ (z : List Entry). entry ∷ z) e, s, none)

closest : (addr : List ℕ) (context : Context) (first : ℕ) (before : List Entry) (entry : Entry) (after : List Entry) (bounds : List Bounds) → GiveFrom addr context first (before ++ entry ∷ after) bounds → sets_base entry.kind ≡ false → IsItemBehind addr context first before entry bounds
closest addr context first [] entry after bounds (inl (next, f, r)) none = absurd (true≢false (sym (setter_sets addr context entry.kind entry.a next f) ∙ none))
closest addr context first [] entry after bounds (inr (item, rest, f, e, r)) none = record { base = first; front = []; item = item; back = rest; behind = inl (All-nil (λ (z : Entry). sets_base z.kind ≡ false), refl); gives = refl; has = f; whole = e }
closest addr context first (d ∷ before) entry after bounds (inl (next, f, r)) none =
    let c = closest addr context next before entry after bounds r none in
    record { base = c.base; front = c.front; item = c.item; back = c.back; behind = behind_setter addr context first next c.base d before f c.behind; gives = inl (next, f, c.gives); has = c.has; whole = c.whole }
closest addr context first (d ∷ before) entry after bounds (inr (x, rest, f, e, r)) none =
    let c = closest addr context first before entry after rest r none in
    record { base = c.base; front = x ∷ c.front; item = c.item; back = c.back; behind = behind_item addr context first c.base d before (item_sets_none addr context first d.kind d.a d.b x f) c.behind; gives = inr (x, c.front, f, refl, c.gives); has = c.has; whole = e ∙ ap (λ (z : List Bounds). x ∷ z) c.whole }

pub closest_base : (addr : List ℕ) (context : Context) (before : List Entry) (entry : Entry) (after : List Entry) (bounds : List Bounds) → Give addr context (before ++ entry ∷ after) bounds → sets_base entry.kind ≡ false → IsItemBehind addr context context.base before entry bounds
closest_base addr context = closest addr context context.base

-- ---- indexes that are looked up

in_one : (a x : ℕ) → Contains (a ∷ []) x → a ≡ x
in_one a x (zero, l, e) = e
in_one a x (suc i, l, e) = absurd (omega (arith, l))

in_two : (a b x : ℕ) → Contains (a ∷ b ∷ []) x → (a ≡ x) ⊎ (b ≡ x)
in_two a b x (zero, l, e) = inl e
in_two a b x (suc zero, l, e) = inr e
in_two a b x (suc (suc i), l, e) = absurd (omega (arith, l))

in_none : (x : ℕ) → Contains [] x → ⊥
in_none x (i, l, e) = absurd (omega (arith, l))

-- an index is that of some address
abbrev HasAddress : List ℕ → Context → ℕ → Type 0
HasAddress addr context index = (address : ℕ) × IsIndexed addr context index address

moved : (addr : List ℕ) (context : Context) (i j address : ℕ) → i ≡ j → IsIndexed addr context i address → HasAddress addr context j
moved addr context i j address same h = subst (λ (z : ℕ). HasAddress addr context z) same (address, h)

base_known : (addr : List ℕ) (context : Context) (kind : EntryKind) (a b next index : ℕ) → SetsBase addr context kind a next → Contains (indexes_in kind a b) index → HasAddress addr context index
base_known addr context BaseAddressx a b next index f c = moved addr context a index next (in_one a index c) f
base_known addr context BaseAddress a b next index f c = absurd (in_none index c)
base_known addr context _ a b next index f c = absurd f

item_known : (addr : List ℕ) (context : Context) (base : ℕ) (kind : EntryKind) (a b index : ℕ) (item : Bounds) → HasBounds addr context base kind a b item → Contains (indexes_in kind a b) index → HasAddress addr context index
item_known addr context base StartxEndx a b index item (s, e, i, j, f) c = elim (in_two a b index c) [ inl x ↦ moved addr context a index s x i | inr x ↦ moved addr context b index e x j ]
item_known addr context base StartxLength a b index item (s, i, f) c = moved addr context a index s (in_one a index c) i
item_known addr context base OffsetPair a b index item f c = absurd (in_none index c)
item_known addr context base DefaultLocation a b index item f c = absurd (in_none index c)
item_known addr context base StartEnd a b index item f c = absurd (in_none index c)
item_known addr context base StartLength a b index item f c = absurd (in_none index c)
item_known addr context base BaseAddressx a b index item f c = absurd f
item_known addr context base BaseAddress a b index item f c = absurd f

-- the indexes of an entry are looked up in a walk over it
entry_known : (addr : List ℕ) (context : Context) (base : ℕ) (entry : Entry) (entries : List Entry) (bounds : List Bounds) (index : ℕ) → GiveFrom addr context base (entry ∷ entries) bounds → Contains (indexes_in entry.kind entry.a entry.b) index → HasAddress addr context index
entry_known addr context base entry entries bounds index (inl (next, f, r)) c = base_known addr context entry.kind entry.a entry.b next index f c
entry_known addr context base entry entries bounds index (inr (item, rest, f, e, r)) c = item_known addr context base entry.kind entry.a entry.b index item f c

each_known : (list : ListKind) (addr : List ℕ) (context : Context) (base : ℕ) (raws : List RawEntry) (entries : List Entry) (bounds : List Bounds) (raw : RawEntry) (entry : Entry) (index i : ℕ) → AreSaid list raws entries → GiveFrom addr context base entries bounds → i < length raws → get_or raws i raw ≡ raw → Says list raw entry → Contains (indexes_in entry.kind entry.a entry.b) index → HasAddress addr context index
each_known list addr context base [] entries bounds raw entry index i s g l e h c = absurd (omega (arith, l))
each_known list addr context base (r ∷ raws) [] bounds raw entry index i s g l e h c = absurd s
each_known list addr context base (r ∷ raws) (d ∷ entries) bounds raw entry index zero s g l e h c =
    let same : entry ≡ d = one_entry list raw entry d h (subst (λ (z : RawEntry). Says list z d) e s.0) in
    entry_known addr context base d entries bounds index g (subst (λ (z : Entry). Contains (indexes_in z.kind z.a z.b) index) same c)
each_known list addr context base (r ∷ raws) (d ∷ entries) bounds raw entry index (suc i) s (inl (next, f, g)) l e h c =
    each_known list addr context next raws entries bounds raw entry index i s.1 g (omega (arith, l)) e h c
each_known list addr context base (r ∷ raws) (d ∷ entries) bounds raw entry index (suc i) s (inr (item, rest, f, k, g)) l e h c =
    each_known list addr context base raws entries rest raw entry index i s.1 g (omega (arith, l)) e h c

no_fault : (addr : List ℕ) (context : Context) (kind : Kind) (index : ℕ) → HasAddress addr context index → FaultIndex context kind index → ⊥
no_fault addr context NoBase index (address, (t, e, l, f)) g = none-some t (sym g ∙ e)
no_fault addr context Pointer index (address, (t, e, l, f)) (u, g, m) =
    let same : t ≡ u = same_Some t u (sym e ∙ g) in
    let counts : t.count ≡ u.count = ap (λ (z : AddrTable). z.count) same in
    absurd (omega (arith, l, m, counts))
no_fault addr context _ index h g = g

pub walk_whole : (list : ListKind) (addr : List ℕ) (context : Context) (raws : List RawEntry) (entries : List Entry) (bounds : List Bounds) → AreSaid list raws entries → Give addr context entries bounds → ¬ IsFaulty (FaultIndexes list context raws)
walk_whole list addr context raws entries bounds s g = λ (f : IsFaulty (FaultIndexes list context raws)).
    let x = f.2 in
    no_fault addr context f.0 x.index (each_known list addr context context.base raws entries bounds x.raw x.entry x.index x.one.0 s g x.one.1 x.one.2 x.says x.asked) x.fault

held_one : (x y : RawEntry) → Contains (x ∷ []) y → x ≡ y
held_one x y (zero, l, e) = e
held_one x y (suc i, l, e) = absurd (omega (arith, l))

step_known : (addr : List ℕ) (context : Context) (base : ℕ) (kind : EntryKind) (a b index : ℕ) (step : Step) → IsStep addr context base kind a b step → Contains (indexes_in kind a b) index → HasAddress addr context index
step_known addr context base kind a b index (Base next) h c = base_known addr context kind a b next index h c
step_known addr context base kind a b index (Between start end) h c = item_known addr context base kind a b index (between start end) h.0 c
step_known addr context base kind a b index Elsewhere h c = item_known addr context base kind a b index elsewhere h c
step_known addr context base kind a b index Over (item, h, n) c = item_known addr context base kind a b index item h c

-- what an entry does asks for no index that can't be looked up
pub step_whole : (list : ListKind) (addr : List ℕ) (context : Context) (base : ℕ) (raw : RawEntry) (step : Step) → ((entry : Entry) → Says list raw entry → IsStep addr context base entry.kind entry.a entry.b step) → ¬ IsFaulty (FaultIndexes list context (raw ∷ []))
step_whole list addr context base raw step does = λ (f : IsFaulty (FaultIndexes list context (raw ∷ []))).
    let x = f.2 in
    let same : raw ≡ x.raw = held_one raw x.raw x.one in
    let here : IsStep addr context base x.entry.kind x.entry.a x.entry.b step = does x.entry (subst (λ (z : RawEntry). Says list z x.entry) (sym same) x.says) in
    no_fault addr context f.0 x.index (step_known addr context base x.entry.kind x.entry.a x.entry.b x.index step here x.asked) x.fault

-- ---- a walk is settled

-- an index is looked up or can't be
abbrev IsLookedUp : List ℕ → Context → ℕ → Type 0
IsLookedUp addr context index = HasAddress addr context index ⊎ ((kind : Kind) × FaultIndex context kind index)

by_table : (addr : List ℕ) (context : Context) (index : ℕ) (found : Option AddrTable) → context.table ≡ found → IsLookedUp addr context index
by_table addr context index None e = inr (NoBase, e)
by_table addr context index (Some table) e =
    elim (cases_lt index table.count) [
      | inl x ↦ inl (address_of addr table index, (table, e, x, refl))
      | inr x ↦ inr (Pointer, (table, e, omega (arith, x)))
    ]

looked_up : (addr : List ℕ) (context : Context) (index : ℕ) → IsLookedUp addr context index
looked_up addr context index = by_table addr context index context.table refl

-- an entry sets a base, or it is an item, or it asks for an index that can't be looked up: three cases of `CanStep`
abbrev Sets : List ℕ → Context → EntryKind → ℕ → Type 0
Sets addr context kind a = (next : ℕ) × SetsBase addr context kind a next

abbrev IsItem : List ℕ → Context → ℕ → EntryKind → ℕ → ℕ → Type 0
IsItem addr context base kind a b = (item : Bounds) × HasBounds addr context base kind a b item

abbrev Asks : Context → EntryKind → ℕ → ℕ → Type 0
Asks context kind a b = (index : ℕ) × (fault : Kind) × Contains (indexes_in kind a b) index × FaultIndex context fault index

abbrev CanStep : List ℕ → Context → ℕ → EntryKind → ℕ → ℕ → Type 0
CanStep addr context base kind a b = Sets addr context kind a ⊎ (IsItem addr context base kind a b ⊎ Asks context kind a b)

pair_step : (addr : List ℕ) (context : Context) (base a b : ℕ) → HasAddress addr context a → IsLookedUp addr context b → CanStep addr context base StartxEndx a b
pair_step addr context base a b (start, i) (inl (end, j)) = inr (inl (between start end, (start, end, i, j, refl)))
pair_step addr context base a b h (inr (kind, f)) = inr (inr (b, kind, (1, omega arith, refl), f))

step : (addr : List ℕ) (context : Context) (base : ℕ) (kind : EntryKind) (a b : ℕ) → CanStep addr context base kind a b
step addr context base BaseAddressx a b = elim (looked_up addr context a) [ inl x ↦ inl x | inr x ↦ inr (inr (a, x.0, (0, omega arith, refl), x.1)) ]
step addr context base StartxEndx a b = elim (looked_up addr context a) [ inl x ↦ pair_step addr context base a b x (looked_up addr context b) | inr x ↦ inr (inr (a, x.0, (0, omega arith, refl), x.1)) ]
step addr context base StartxLength a b = elim (looked_up addr context a) [ inl x ↦ inr (inl (between x.0 (x.0 + b), (x.0, x.1, refl))) | inr x ↦ inr (inr (a, x.0, (0, omega arith, refl), x.1)) ]
step addr context base OffsetPair a b = inr (inl (between (base + a) (base + b), refl))
step addr context base DefaultLocation a b = inr (inl (elsewhere, refl))
step addr context base BaseAddress a b = inl (a, refl)
step addr context base StartEnd a b = inr (inl (between a b, refl))
step addr context base StartLength a b = inr (inl (between a (a + b), refl))

-- the fault of a later entry
later : (list : ListKind) (context : Context) (raw : RawEntry) (raws : List RawEntry) → IsFaulty (FaultIndexes list context raws) → IsFaulty (FaultIndexes list context (raw ∷ raws))
later list context raw raws (kind, place, f) =
    let inside : f.one.0 < length raws = f.one.1 in
    (kind, place, record { raw = f.raw; entry = f.entry; index = f.index; one = (suc f.one.0, omega (arith, inside), f.one.2); says = f.says; asked = f.asked; fault = f.fault; at = f.at })

abbrev IsSettled : ListKind → List ℕ → Context → ℕ → List RawEntry → List Entry → Type 0
IsSettled list addr context base raws entries = ((bounds : List Bounds) × GiveFrom addr context base entries bounds) ⊎ IsFaulty (FaultIndexes list context raws)

settle_setter : (list : ListKind) (addr : List ℕ) (context : Context) (base next : ℕ) (raw : RawEntry) (raws : List RawEntry) (entry : Entry) (entries : List Entry) → SetsBase addr context entry.kind entry.a next → IsSettled list addr context next raws entries → IsSettled list addr context base (raw ∷ raws) (entry ∷ entries)
settle_setter list addr context base next raw raws entry entries s (inl (bounds, g)) = inl (bounds, inl (next, s, g))
settle_setter list addr context base next raw raws entry entries s (inr f) = inr (later list context raw raws f)

settle_item : (list : ListKind) (addr : List ℕ) (context : Context) (base : ℕ) (item : Bounds) (raw : RawEntry) (raws : List RawEntry) (entry : Entry) (entries : List Entry) → HasBounds addr context base entry.kind entry.a entry.b item → IsSettled list addr context base raws entries → IsSettled list addr context base (raw ∷ raws) (entry ∷ entries)
settle_item list addr context base item raw raws entry entries h (inl (bounds, g)) = inl (item ∷ bounds, inr (item, bounds, h, refl, g))
settle_item list addr context base item raw raws entry entries h (inr f) = inr (later list context raw raws f)

asked_first : (list : ListKind) (context : Context) (raw : RawEntry) (raws : List RawEntry) (entry : Entry) → Says list raw entry → Asks context entry.kind entry.a entry.b → IsFaulty (FaultIndexes list context (raw ∷ raws))
asked_first list context raw raws entry h (index, kind, c, f) = (kind, raw.at, record { raw = raw; entry = entry; index = index; one = (0, omega arith, refl); says = h; asked = c; fault = f; at = refl })

settle : (list : ListKind) (addr : List ℕ) (context : Context) (base : ℕ) (raws : List RawEntry) (entries : List Entry) → AreSaid list raws entries → IsSettled list addr context base raws entries
settle list addr context base [] [] s = inl ([], refl)
settle list addr context base (raw ∷ raws) (entry ∷ entries) s =
    elim (step addr context base entry.kind entry.a entry.b) [
      | inl x ↦ settle_setter list addr context base x.0 raw raws entry entries x.1 (settle list addr context x.0 raws entries s.1)
      | inr y ↦ elim y [
        | inl x ↦ settle_item list addr context base x.0 raw raws entry entries x.1 (settle list addr context base raws entries s.1)
        | inr x ↦ inr (asked_first list context raw raws entry s.0 x)
      ]
    ]
settle list addr context base [] (entry ∷ entries) s = absurd s
settle list addr context base (raw ∷ raws) [] s = absurd s

pub walk_settled : (list : ListKind) (addr : List ℕ) (context : Context) (raws : List RawEntry) (entries : List Entry) → AreSaid list raws entries → ((bounds : List Bounds) × Give addr context entries bounds) ⊎ IsFaulty (FaultIndexes list context raws)
walk_settled list addr context = settle list addr context context.base
