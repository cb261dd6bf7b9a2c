-- Location lists that are walked over.
use Rattle.std.proofs.Common.{◌≡◌, ◌≤◌, ◌<◌, ◌+◌, ◌++◌, ◌∙◌, ℕ, suc, zero, List, [], ◌∷◌, length, take, drop, get_or, Bool, true, false, sym, ap, refl, subst, arith, inl, inr}
use Rattle.std.specs.Prelude.{if◌then◌else◌}
use Rattle.std.specs.List.{All, Contains}
use Rattle.std.proofs.lemmas.List.{append_assoc, append-nil, length-append, take_all, get_or_default, get_or_append_left}
use Rattle.std.proofs.Math.Seq.{get_or-append_seam}
use Rattle.std.proofs.lemmas.List.Elements.{All-nil, All-push, All-get_or, All-from_get_or, filter_more}
use Rattle.dw_base.specs.declared.fault.Fault.{Fault}
use Rattle.dw_base.specs.Refusals.{IsFaultOf}
use Rattle.list_model.specs.declared.context.Context.{Context}
use Rattle.list_model.specs.declared.entry.ListKind.TheVariants.{Locations}
use Rattle.list_model.specs.declared.entry.RawEntry.{RawEntry}
use Rattle.list_model.specs.declared.item.Item.{Item}
use Rattle.list_model.specs.declared.item.Meaning.TheVariants.{Live, Dead}
use Rattle.list_model.specs.declared.walk.Step.{Step}
use Rattle.list_model.specs.declared.walk.Step.TheVariants.{Base, Between, Elsewhere, Over}
use Rattle.list_model.specs.Entries.{Entry, Says, AreSaid}
use Rattle.list_model.specs.Items.{Bounds, HasBounds, Give, GiveFrom, SetsBase, Fits, item_of, FaultIndexes}
use Rattle.list_model.specs.Steps.{IsStep}
use Rattle.list_model.specs.Items.Bounds.{between, elsewhere}
use Rattle.loc_lists.specs.declared.items.Walk.{Walk}
use Rattle.loc_lists.specs.Locations.{is_item, items_among, AreItems, AreLocationEntries, IsMeaning}
use Rattle.loc_lists.specs.inside.Walks.{WalksOn}
use Rattle.loc_lists.proofs.ItemLaws.{setter_is_none, item_is_one}

-- what is held of some items among the entries and their bounds: these items, or that a bound is a sum past 2^64 - 1
abbrev pub AreHeld : Bool → List RawEntry → List Bounds → List Item → Type 0
AreHeld false among bounds items = All Fits bounds × AreItems among bounds items
AreHeld true among bounds items = ¬ All Fits bounds

-- so many entries are walked over: whatever the others give from the base there on, behind what these gave it is given by all
pub record IsWalked (addr : List ℕ) (context : Context) (raws : List RawEntry) (count base : ℕ) (items : List Item) (dead : Bool) : Type 0 where
  pub entries : List Entry
  pub said : AreSaid Locations raws entries
  pub done : List Bounds
  pub held : AreHeld dead (items_among (take count raws)) done items
  pub on : (rest : List Bounds) → GiveFrom addr context base (drop count entries) rest → GiveFrom addr context context.base entries (done ++ rest)

pub none_walked : (addr : List ℕ) (context : Context) (raws : List RawEntry) (items : List Item) → AreLocationEntries raws → items ≡ [] → IsWalked addr context raws 0 context.base items false
none_walked addr context raws items (entries, said) e = record {
  entries = entries;
  said = said;
  done = [];
  held = (All-nil Fits, subst (λ (z : List Item). AreItems [] [] z) (sym e) tt);
  on = λ rest g. g;
}

-- the next entry, and those behind it
said_at : (raws : List RawEntry) (entries : List Entry) (i : ℕ) (d : RawEntry) → AreSaid Locations raws entries → i < length raws → (entry : Entry) × Says Locations (get_or raws i d) entry × (drop i entries ≡ entry ∷ drop (suc i) entries)
said_at [] entries i d s inside = absurd (omega (arith, inside))
said_at (raw ∷ raws) [] i d s inside = absurd s
said_at (raw ∷ raws) (entry ∷ entries) zero d s inside = (entry, s.0, refl)
said_at (raw ∷ raws) (entry ∷ entries) (suc i) d s inside = said_at raws entries i d s.1 (omega (arith, inside))

-- behind all of what is read stands no entry
none_left : (raws : List RawEntry) (entries : List Entry) → AreSaid Locations raws entries → drop (length raws) entries ≡ []
none_left [] [] s = refl
none_left (raw ∷ raws) (entry ∷ entries) s = none_left raws entries s.1
none_left [] (entry ∷ entries) s = absurd s
none_left (raw ∷ raws) [] s = absurd s

-- what an entry says, the next of a walk
pub next_said : (addr : List ℕ) (context : Context) (raws : List RawEntry) (i base : ℕ) (items : List Item) (dead : Bool) (d : RawEntry) → IsWalked addr context raws i base items dead → i < length raws → (entry : Entry) × Says Locations (get_or raws i d) entry
next_said addr context raws i base items dead d w inside = let s = said_at raws w.entries i d w.said inside in (s.0, s.1)

-- this is done by what the next entry says
abbrev pub IsNext : List ℕ → Context → ℕ → RawEntry → Step → Type 0
IsNext addr context base raw step = (entry : Entry) → Says Locations raw entry → IsStep addr context base entry.kind entry.a entry.b step

-- ---- the items among the entries up to there

among_more : (raws : List RawEntry) (i : ℕ) (d : RawEntry) (item : Bool) → i < length raws → is_item (get_or raws i d) ≡ item → items_among (take (suc i) raws) ≡ items_among (take i raws) ++ (if item then get_or raws i d ∷ [] else [])
among_more raws i d item inside e =
    let next : i + 1 ≡ suc i = omega arith in
    subst (λ (z : ℕ). items_among (take z raws) ≡ items_among (take i raws) ++ (if is_item (get_or raws i d) then get_or raws i d ∷ [] else [])) next (filter_more is_item raws i d inside)
    ∙ ap (λ (z : Bool). items_among (take i raws) ++ (if z then get_or raws i d ∷ [] else [])) e

same_among : (raws : List RawEntry) (i : ℕ) (d : RawEntry) → i < length raws → is_item (get_or raws i d) ≡ false → items_among (take (suc i) raws) ≡ items_among (take i raws)
same_among raws i d inside e = among_more raws i d false inside e ∙ append-nil (items_among (take i raws))

items_push : (raws : List RawEntry) (bounds : List Bounds) (items : List Item) (raw : RawEntry) (item : Bounds) → AreItems raws bounds items → AreItems (raws ++ raw ∷ []) (bounds ++ item ∷ []) (items ++ item_of raw.expr item ∷ [])
items_push [] [] [] raw item h = (refl, tt)
items_push (r ∷ raws) (b ∷ bounds) (x ∷ items) raw item h = (h.0, items_push raws bounds items raw item h.1)
items_push [] [] (x ∷ items) raw item h = absurd h
items_push [] (b ∷ bounds) items raw item h = absurd h
items_push (r ∷ raws) [] items raw item h = absurd h
items_push (r ∷ raws) (b ∷ bounds) [] raw item h = absurd h

-- ---- one entry more

base_walked : (addr : List ℕ) (context : Context) (raws : List RawEntry) (i base next : ℕ) (items : List Item) (dead : Bool) (d : RawEntry) → IsWalked addr context raws i base items dead → i < length raws → IsNext addr context base (get_or raws i d) (Base next) → IsWalked addr context raws (suc i) next items dead
base_walked addr context raws i base next items dead d w inside step =
    let s = said_at raws w.entries i d w.said inside in
    let entry = s.0 in
    let does : SetsBase addr context entry.kind entry.a next = step entry s.1 in
    record {
      entries = w.entries;
      said = w.said;
      done = w.done;
      held = subst (λ (z : List RawEntry). AreHeld dead z w.done items) (sym (same_among raws i d inside (setter_is_none addr context (get_or raws i d) entry next s.1 does))) w.held;
      on = λ rest g. w.on rest (subst (λ (z : List Entry). GiveFrom addr context base z rest) (sym s.2) (inl (next, does, g)));
    }

-- one more item behind those that are done
item_on : (addr : List ℕ) (context : Context) (base : ℕ) (entries others : List Entry) (entry : Entry) (left : List Entry) (done : List Bounds) (item : Bounds) → left ≡ entry ∷ others → HasBounds addr context base entry.kind entry.a entry.b item → ((rest : List Bounds) → GiveFrom addr context base left rest → GiveFrom addr context context.base entries (done ++ rest)) → (rest : List Bounds) → GiveFrom addr context base others rest → GiveFrom addr context context.base entries ((done ++ item ∷ []) ++ rest)
item_on addr context base entries others entry left done item e h on rest g =
    subst (λ (z : List Bounds). GiveFrom addr context context.base entries z) (sym (append_assoc done (item ∷ []) rest))
    (on (item ∷ rest) (subst (λ (z : List Entry). GiveFrom addr context base z (item ∷ rest)) (sym e) (inr (item, rest, h, refl, g))))

-- all of a front fit where all do
front_fits : (done : List Bounds) (item : Bounds) → All Fits (done ++ item ∷ []) → All Fits done
front_fits done item all = All-from_get_or Fits done item (λ i inside.
    let size : length (done ++ item ∷ []) ≡ length done + 1 = length-append done (item ∷ []) in
    subst Fits (get_or_append_left done (item ∷ []) item i inside) (All-get_or Fits (done ++ item ∷ []) i item (omega (arith, inside, size)) all))

last_fits : (done : List Bounds) (item : Bounds) → All Fits (done ++ item ∷ []) → Fits item
last_fits done item all =
    let size : length (done ++ item ∷ []) ≡ length done + 1 = length-append done (item ∷ []) in
    subst Fits (get_or-append_seam done item [] item) (All-get_or Fits (done ++ item ∷ []) (length done) item (omega (arith, size)) all)

held_push : (dead : Bool) (among : List RawEntry) (raw : RawEntry) (done : List Bounds) (item : Bounds) (items more : List Item) → AreHeld dead among done items → Fits item → more ≡ items ++ item_of raw.expr item ∷ [] → AreHeld dead (among ++ raw ∷ []) (done ++ item ∷ []) more
held_push false among raw done item items more (all, h) fits m = (All-push Fits done item all fits, subst (λ (z : List Item). AreItems (among ++ raw ∷ []) (done ++ item ∷ []) z) (sym m) (items_push among done items raw item h))
held_push true among raw done item items more none fits m = λ all. none (front_fits done item all)

item_walked : (addr : List ℕ) (context : Context) (raws : List RawEntry) (i base : ℕ) (items more : List Item) (dead : Bool) (d : RawEntry) (item : Bounds) → IsWalked addr context raws i base items dead → i < length raws → ((entry : Entry) → Says Locations (get_or raws i d) entry → HasBounds addr context base entry.kind entry.a entry.b item) → Fits item → more ≡ items ++ item_of (get_or raws i d).expr item ∷ [] → IsWalked addr context raws (suc i) base more dead
item_walked addr context raws i base items more dead d item w inside has fits m =
    let s = said_at raws w.entries i d w.said inside in
    let raw = get_or raws i d in
    let is : is_item raw ≡ true = item_is_one addr context raw s.0 base item s.1 (has s.0 s.1) in
    record {
      entries = w.entries;
      said = w.said;
      done = w.done ++ item ∷ [];
      held = subst (λ (z : List RawEntry). AreHeld dead z (w.done ++ item ∷ []) more) (sym (among_more raws i d true inside is)) (held_push dead (items_among (take i raws)) raw w.done item items more w.held fits m);
      on = item_on addr context base w.entries (drop (suc i) w.entries) s.0 (drop i w.entries) w.done item s.2 (has s.0 s.1) w.on;
    }

between_walked : (addr : List ℕ) (context : Context) (raws : List RawEntry) (i base start end : ℕ) (items more : List Item) (dead : Bool) (d : RawEntry) → IsWalked addr context raws i base items dead → i < length raws → IsNext addr context base (get_or raws i d) (Between start end) → more ≡ items ++ record { start = start; end = end; whole = false; expr = (get_or raws i d).expr } ∷ [] → IsWalked addr context raws (suc i) base more dead
between_walked addr context raws i base start end items more dead d w inside step m =
    let s = said_at raws w.entries i d w.said inside in
    item_walked addr context raws i base items more dead d (between start end) w inside (λ entry says. (step entry says).0) (step s.0 s.1).1 m

elsewhere_walked : (addr : List ℕ) (context : Context) (raws : List RawEntry) (i base : ℕ) (items more : List Item) (dead : Bool) (d : RawEntry) → IsWalked addr context raws i base items dead → i < length raws → IsNext addr context base (get_or raws i d) Elsewhere → more ≡ items ++ record { start = 0; end = 0; whole = true; expr = (get_or raws i d).expr } ∷ [] → IsWalked addr context raws (suc i) base more dead
elsewhere_walked addr context raws i base items more dead d w inside step m = item_walked addr context raws i base items more dead d elsewhere w inside step tt m

over_walked : (addr : List ℕ) (context : Context) (raws : List RawEntry) (i base : ℕ) (items : List Item) (dead : Bool) (d : RawEntry) → IsWalked addr context raws i base items dead → i < length raws → IsNext addr context base (get_or raws i d) Over → IsWalked addr context raws (suc i) base items true
over_walked addr context raws i base items dead d w inside step =
    let s = said_at raws w.entries i d w.said inside in
    let over = step s.0 s.1 in
    record {
      entries = w.entries;
      said = w.said;
      done = w.done ++ over.0 ∷ [];
      held = λ all. over.2 (last_fits w.done over.0 all);
      on = item_on addr context base w.entries (drop (suc i) w.entries) s.0 (drop i w.entries) w.done over.0 s.2 over.1 w.on;
    }

-- a walk goes on
moved : (addr : List ℕ) (context : Context) (raws : List RawEntry) (i base next : ℕ) (items more : List Item) (dead other : Bool) → IsWalked addr context raws i base items dead → next ≡ base → more ≡ items → other ≡ dead → IsWalked addr context raws i next more other
moved addr context raws i base next items more dead other w e f g =
    subst (λ (z : ℕ). IsWalked addr context raws i z more other) (sym e)
    (subst (λ (z : List Item). IsWalked addr context raws i base z other) (sym f)
    (subst (λ (z : Bool). IsWalked addr context raws i base items z) (sym g) w))

pub walked_on : (addr : List ℕ) (context : Context) (raws : List RawEntry) (i : ℕ) (old new : Walk) (d : RawEntry) (step : Step) → IsWalked addr context raws i old.base old.items.items old.dead → i < length raws → IsNext addr context old.base (get_or raws i d) step → WalksOn step (get_or raws i d).expr old new → IsWalked addr context raws (suc i) new.base new.items.items new.dead
walked_on addr context raws i old new d (Base next) w inside step (e, f, g) =
    moved addr context raws (suc i) next new.base old.items.items new.items.items old.dead new.dead (base_walked addr context raws i old.base next old.items.items old.dead d w inside step) e f g
walked_on addr context raws i old new d (Between start end) w inside step h =
    moved addr context raws (suc i) old.base new.base new.items.items new.items.items old.dead new.dead (between_walked addr context raws i old.base start end old.items.items new.items.items old.dead d w inside step h.items) h.base refl h.dead
walked_on addr context raws i old new d Elsewhere w inside step h =
    moved addr context raws (suc i) old.base new.base new.items.items new.items.items old.dead new.dead (elsewhere_walked addr context raws i old.base old.items.items new.items.items old.dead d w inside step h.items) h.base refl h.dead
walked_on addr context raws i old new d Over w inside step (e, f, g) =
    moved addr context raws (suc i) old.base new.base old.items.items new.items.items true new.dead (over_walked addr context raws i old.base old.items.items old.dead d w inside step) e f g

-- ---- the end

given : (addr : List ℕ) (context : Context) (raws : List RawEntry) (base : ℕ) (items : List Item) (dead : Bool) (w : IsWalked addr context raws (length raws) base items dead) → Give addr context w.entries w.done
given addr context raws base items dead w =
    let left : GiveFrom addr context base (drop (length raws) w.entries) [] = subst (λ (z : List Entry). GiveFrom addr context base z []) (sym (none_left raws w.entries w.said)) refl in
    subst (λ (z : List Bounds). Give addr context w.entries z) (append-nil w.done) (w.on [] left)

all_held : (raws : List RawEntry) (dead : Bool) (done : List Bounds) (items : List Item) → AreHeld dead (items_among (take (length raws) raws)) done items → AreHeld dead (items_among raws) done items
all_held raws dead done items h = subst (λ (z : List RawEntry). AreHeld dead (items_among z) done items) (take_all (length raws) raws (omega arith)) h

live_walked : (addr : List ℕ) (context : Context) (raws : List RawEntry) (base : ℕ) (items : List Item) → IsWalked addr context raws (length raws) base items false → IsMeaning addr context raws (Live items)
live_walked addr context raws base items w = record { entries = w.entries; bounds = w.done; said = w.said; gives = given addr context raws base items false w; means = all_held raws false w.done items w.held }

dead_walked : (addr : List ℕ) (context : Context) (raws : List RawEntry) (base : ℕ) (items : List Item) → IsWalked addr context raws (length raws) base items true → IsMeaning addr context raws Dead
dead_walked addr context raws base items w = record { entries = w.entries; bounds = w.done; said = w.said; gives = given addr context raws base items true w; means = w.held }

-- all entries are walked over
ended : (addr : List ℕ) (context : Context) (raws seen : List RawEntry) (i : ℕ) (walk : Walk) (dead : Bool) → seen ≡ raws → i ≤ length seen → length seen ≤ i → walk.dead ≡ dead → IsWalked addr context raws i walk.base walk.items.items walk.dead → IsWalked addr context raws (length raws) walk.base walk.items.items dead
ended addr context raws seen i walk dead same within past is w =
    let size : length seen ≡ length raws = ap length same in
    let all : i ≡ length raws = omega (arith, size, within, past) in
    subst (λ (z : Bool). IsWalked addr context raws (length raws) walk.base walk.items.items z) is
    (subst (λ (z : ℕ). IsWalked addr context raws z walk.base walk.items.items walk.dead) all w)

pub all_live : (addr : List ℕ) (context : Context) (raws seen : List RawEntry) (i : ℕ) (walk : Walk) → seen ≡ raws → i ≤ length seen → length seen ≤ i → walk.dead ≡ false → IsWalked addr context raws i walk.base walk.items.items walk.dead → IsMeaning addr context raws (Live walk.items.items)
all_live addr context raws seen i walk same within past is w = live_walked addr context raws walk.base walk.items.items (ended addr context raws seen i walk false same within past is w)

pub all_dead : (addr : List ℕ) (context : Context) (raws seen : List RawEntry) (i : ℕ) (walk : Walk) → seen ≡ raws → i ≤ length seen → length seen ≤ i → walk.dead ≡ true → IsWalked addr context raws i walk.base walk.items.items walk.dead → IsMeaning addr context raws Dead
all_dead addr context raws seen i walk same within past is w = dead_walked addr context raws walk.base walk.items.items (ended addr context raws seen i walk true same within past is w)

-- ---- faults

held_one : (x y : RawEntry) → Contains (x ∷ []) y → x ≡ y
held_one x y (zero, l, e) = e
held_one x y (suc i, l, e) = absurd (omega (arith, l))

-- the fault of an entry is one of the list
pub index_fault : (context : Context) (raws : List RawEntry) (i origin : ℕ) (d : RawEntry) (fault : Fault) → i < length raws → IsFaultOf (FaultIndexes Locations context (get_or raws i d ∷ [])) origin fault → IsFaultOf (FaultIndexes Locations context raws) origin fault
index_fault context raws i origin d fault inside (place, e, f) =
    let same : get_or raws i d ≡ f.raw = held_one (get_or raws i d) f.raw f.one in
    (place, e, record { raw = f.raw; entry = f.entry; index = f.index; one = (i, inside, get_or_default raws i f.raw d inside ∙ same); says = f.says; asked = f.asked; fault = f.fault; at = f.at })
