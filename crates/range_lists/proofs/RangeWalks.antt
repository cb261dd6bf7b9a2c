-- Range lists that are walked over.
use Rattle.std.proofs.Common.{◌≡◌, ◌≤◌, ◌<◌, ◌+◌, ◌++◌, ◌∙◌, ℕ, suc, zero, List, [], ◌∷◌, length, drop, map, get_or, Bool, true, false, sym, ap, refl, subst, arith, inl, inr}
use Rattle.std.specs.List.{All, Contains}
use Rattle.std.proofs.lemmas.List.{append_assoc, append-nil, length-append, map-append, get_or_default, get_or_append_left}
use Rattle.std.proofs.Math.Seq.{get_or-append_seam}
use Rattle.std.proofs.lemmas.List.Elements.{All-nil, All-push, All-get_or, All-from_get_or}
use Rattle.dw_base.specs.declared.fault.Fault.{Fault}
use Rattle.dw_base.specs.Refusals.{IsFaultOf}
use Rattle.list_model.specs.declared.context.Context.{Context}
use Rattle.list_model.specs.declared.entry.ListKind.TheVariants.{Ranges}
use Rattle.list_model.specs.declared.entry.RawEntry.{RawEntry}
use Rattle.list_model.specs.declared.item.Item.{Item}
use Rattle.list_model.specs.declared.item.Meaning.TheVariants.{Live, Dead}
use Rattle.list_model.specs.declared.walk.Step.{Step}
use Rattle.list_model.specs.declared.walk.Step.TheVariants.{Base, Between, Elsewhere, Over}
use Rattle.list_model.specs.Entries.{Entry, Says, AreSaid, no_expr}
use Rattle.list_model.specs.Items.{Bounds, HasBounds, Give, GiveFrom, SetsBase, Fits, item_of, FaultIndexes}
use Rattle.list_model.specs.Steps.{IsStep}
use Rattle.list_model.specs.Items.Bounds.{between, elsewhere}
use Rattle.range_lists.specs.declared.items.Walk.{Walk}
use Rattle.range_lists.specs.Ranges.{AreRangeEntries, IsMeaning}
use Rattle.range_lists.specs.inside.Walks.{WalksOn}

-- what is held of some bounds: their items, or that one is a sum past 2^64 - 1
abbrev pub AreHeld : Bool → List Bounds → List Item → Type 0
AreHeld false bounds items = All Fits bounds × (items ≡ map (item_of no_expr) bounds)
AreHeld true bounds items = ¬ All Fits bounds

-- so many entries are walked over: whatever the others give from the base there on, behind what these gave it is given by all
pub record IsWalked (addr : List ℕ) (context : Context) (raws : List RawEntry) (count base : ℕ) (items : List Item) (dead : Bool) : Type 0 where
  pub entries : List Entry
  pub said : AreSaid Ranges raws entries
  pub done : List Bounds
  pub held : AreHeld dead done items
  pub on : (rest : List Bounds) → GiveFrom addr context base (drop count entries) rest → GiveFrom addr context context.base entries (done ++ rest)

pub none_walked : (addr : List ℕ) (context : Context) (raws : List RawEntry) (items : List Item) → AreRangeEntries raws → items ≡ [] → IsWalked addr context raws 0 context.base items false
none_walked addr context raws items (entries, said) e = record {
  entries = entries;
  said = said;
  done = [];
  held = (All-nil Fits, e);
  on = λ rest g. g;
}

-- the next entry, and those behind it
said_at : (raws : List RawEntry) (entries : List Entry) (i : ℕ) (d : RawEntry) → AreSaid Ranges raws entries → i < length raws → (entry : Entry) × Says Ranges (get_or raws i d) entry × (drop i entries ≡ entry ∷ drop (suc i) entries)
said_at [] entries i d s inside = absurd (omega (arith, inside))
said_at (raw ∷ raws) [] i d s inside = absurd s
said_at (raw ∷ raws) (entry ∷ entries) zero d s inside = (entry, s.0, refl)
said_at (raw ∷ raws) (entry ∷ entries) (suc i) d s inside = said_at raws entries i d s.1 (omega (arith, inside))

-- behind all of what is read stands no entry
none_left : (raws : List RawEntry) (entries : List Entry) → AreSaid Ranges raws entries → drop (length raws) entries ≡ []
none_left [] [] s = refl
none_left (raw ∷ raws) (entry ∷ entries) s = none_left raws entries s.1
none_left [] (entry ∷ entries) s = absurd s
none_left (raw ∷ raws) [] s = absurd s

-- what an entry says, the next of a walk
pub next_said : (addr : List ℕ) (context : Context) (raws : List RawEntry) (i base : ℕ) (items : List Item) (dead : Bool) (d : RawEntry) → IsWalked addr context raws i base items dead → i < length raws → (entry : Entry) × Says Ranges (get_or raws i d) entry
next_said addr context raws i base items dead d w inside = let s = said_at raws w.entries i d w.said inside in (s.0, s.1)

-- this is done by what the next entry says
abbrev pub IsNext : List ℕ → Context → ℕ → RawEntry → Step → Type 0
IsNext addr context base raw step = (entry : Entry) → Says Ranges raw entry → IsStep addr context base entry.kind entry.a entry.b step

base_walked : (addr : List ℕ) (context : Context) (raws : List RawEntry) (i base next : ℕ) (items : List Item) (dead : Bool) (d : RawEntry) → IsWalked addr context raws i base items dead → i < length raws → IsNext addr context base (get_or raws i d) (Base next) → IsWalked addr context raws (suc i) next items dead
base_walked addr context raws i base next items dead d w inside step =
    let s = said_at raws w.entries i d w.said inside in
    let entry = s.0 in
    let does : SetsBase addr context entry.kind entry.a next = step entry s.1 in
    record {
      entries = w.entries;
      said = w.said;
      done = w.done;
      held = w.held;
      on = λ rest g. w.on rest (subst (λ (z : List Entry). GiveFrom addr context base z rest) (sym s.2) (inl (next, does, g)));
    }

-- one more item behind those that are done
item_on : (addr : List ℕ) (context : Context) (base : ℕ) (entries others : List Entry) (entry : Entry) (left : List Entry) (done : List Bounds) (item : Bounds) → left ≡ entry ∷ others → HasBounds addr context base entry.kind entry.a entry.b item → ((rest : List Bounds) → GiveFrom addr context base left rest → GiveFrom addr context context.base entries (done ++ rest)) → (rest : List Bounds) → GiveFrom addr context base others rest → GiveFrom addr context context.base entries ((done ++ item ∷ []) ++ rest)
item_on addr context base entries others entry left done item e h on rest g =
    subst (λ (z : List Bounds). GiveFrom addr context context.base entries z) (sym (append_assoc done (item ∷ []) rest))
    (on (item ∷ rest) (subst (λ (z : List Entry). GiveFrom addr context base z (item ∷ rest)) (sym e) (inr (item, rest, h, refl, g))))

-- all of a front fit where all do
front_fits : (done : List Bounds) (item : Bounds) → All Fits (done ++ item ∷ []) → All Fits done
front_fits done item all = All-from_get_or Fits done item (λ i inside.
    let size : length (done ++ item ∷ []) ≡ length done + 1 = length-append done (item ∷ []) in
    subst Fits (get_or_append_left done (item ∷ []) item i inside) (All-get_or Fits (done ++ item ∷ []) i item (omega (arith, inside, size)) all))

last_fits : (done : List Bounds) (item : Bounds) → All Fits (done ++ item ∷ []) → Fits item
last_fits done item all =
    let size : length (done ++ item ∷ []) ≡ length done + 1 = length-append done (item ∷ []) in
    subst Fits (get_or-append_seam done item [] item) (All-get_or Fits (done ++ item ∷ []) (length done) item (omega (arith, size)) all)

held_push : (dead : Bool) (done : List Bounds) (item : Bounds) (items more : List Item) → AreHeld dead done items → Fits item → more ≡ items ++ item_of no_expr item ∷ [] → AreHeld dead (done ++ item ∷ []) more
held_push false done item items more (all, e) fits m = (All-push Fits done item all fits, m ∙ ap (λ (z : List Item). z ++ item_of no_expr item ∷ []) e ∙ sym (map-append (item_of no_expr) done (item ∷ [])))
held_push true done item items more none fits m = λ all. none (front_fits done item all)

item_walked : (addr : List ℕ) (context : Context) (raws : List RawEntry) (i base : ℕ) (items more : List Item) (dead : Bool) (d : RawEntry) (item : Bounds) → IsWalked addr context raws i base items dead → i < length raws → ((entry : Entry) → Says Ranges (get_or raws i d) entry → HasBounds addr context base entry.kind entry.a entry.b item) → Fits item → more ≡ items ++ item_of no_expr item ∷ [] → IsWalked addr context raws (suc i) base more dead
item_walked addr context raws i base items more dead d item w inside has fits m =
    let s = said_at raws w.entries i d w.said inside in
    record {
      entries = w.entries;
      said = w.said;
      done = w.done ++ item ∷ [];
      held = held_push dead w.done item items more w.held fits m;
      on = item_on addr context base w.entries (drop (suc i) w.entries) s.0 (drop i w.entries) w.done item s.2 (has s.0 s.1) w.on;
    }

between_walked : (addr : List ℕ) (context : Context) (raws : List RawEntry) (i base start end : ℕ) (items more : List Item) (dead : Bool) (d : RawEntry) → IsWalked addr context raws i base items dead → i < length raws → IsNext addr context base (get_or raws i d) (Between start end) → more ≡ items ++ record { start = start; end = end; whole = false; expr = no_expr } ∷ [] → IsWalked addr context raws (suc i) base more dead
between_walked addr context raws i base start end items more dead d w inside step m =
    let s = said_at raws w.entries i d w.said inside in
    item_walked addr context raws i base items more dead d (between start end) w inside (λ entry says. (step entry says).0) (step s.0 s.1).1 m

elsewhere_walked : (addr : List ℕ) (context : Context) (raws : List RawEntry) (i base : ℕ) (items more : List Item) (dead : Bool) (d : RawEntry) → IsWalked addr context raws i base items dead → i < length raws → IsNext addr context base (get_or raws i d) Elsewhere → more ≡ items ++ record { start = 0; end = 0; whole = true; expr = no_expr } ∷ [] → IsWalked addr context raws (suc i) base more dead
elsewhere_walked addr context raws i base items more dead d w inside step m = item_walked addr context raws i base items more dead d elsewhere w inside step tt m

over_walked : (addr : List ℕ) (context : Context) (raws : List RawEntry) (i base : ℕ) (items : List Item) (dead : Bool) (d : RawEntry) → IsWalked addr context raws i base items dead → i < length raws → IsNext addr context base (get_or raws i d) Over → IsWalked addr context raws (suc i) base items true
over_walked addr context raws i base items dead d w inside step =
    let s = said_at raws w.entries i d w.said inside in
    let over = step s.0 s.1 in
    record {
      entries = w.entries;
      said = w.said;
      done = w.done ++ over.0 ∷ [];
      held = λ all. over.2 (last_fits w.done over.0 all);
      on = item_on addr context base w.entries (drop (suc i) w.entries) s.0 (drop i w.entries) w.done over.0 s.2 over.1 w.on;
    }

-- a walk goes on
moved : (addr : List ℕ) (context : Context) (raws : List RawEntry) (i base next : ℕ) (items more : List Item) (dead other : Bool) → IsWalked addr context raws i base items dead → next ≡ base → more ≡ items → other ≡ dead → IsWalked addr context raws i next more other
moved addr context raws i base next items more dead other w e f g =
    subst (λ (z : ℕ). IsWalked addr context raws i z more other) (sym e)
    (subst (λ (z : List Item). IsWalked addr context raws i base z other) (sym f)
    (subst (λ (z : Bool). IsWalked addr context raws i base items z) (sym g) w))

pub walked_on : (addr : List ℕ) (context : Context) (raws : List RawEntry) (i : ℕ) (old new : Walk) (d : RawEntry) (step : Step) → IsWalked addr context raws i old.base old.items.items old.dead → i < length raws → IsNext addr context old.base (get_or raws i d) step → WalksOn step old new → IsWalked addr context raws (suc i) new.base new.items.items new.dead
walked_on addr context raws i old new d (Base next) w inside step (e, f, g) =
    moved addr context raws (suc i) next new.base old.items.items new.items.items old.dead new.dead (base_walked addr context raws i old.base next old.items.items old.dead d w inside step) e f g
walked_on addr context raws i old new d (Between start end) w inside step h =
    moved addr context raws (suc i) old.base new.base new.items.items new.items.items old.dead new.dead (between_walked addr context raws i old.base start end old.items.items new.items.items old.dead d w inside step h.items) h.base refl h.dead
walked_on addr context raws i old new d Elsewhere w inside step h =
    moved addr context raws (suc i) old.base new.base new.items.items new.items.items old.dead new.dead (elsewhere_walked addr context raws i old.base old.items.items new.items.items old.dead d w inside step h.items) h.base refl h.dead
walked_on addr context raws i old new d Over w inside step (e, f, g) =
    moved addr context raws (suc i) old.base new.base old.items.items new.items.items true new.dead (over_walked addr context raws i old.base old.items.items old.dead d w inside step) e f g

-- ---- the end

given : (addr : List ℕ) (context : Context) (raws : List RawEntry) (base : ℕ) (items : List Item) (dead : Bool) (w : IsWalked addr context raws (length raws) base items dead) → Give addr context w.entries w.done
given addr context raws base items dead w =
    let left : GiveFrom addr context base (drop (length raws) w.entries) [] = subst (λ (z : List Entry). GiveFrom addr context base z []) (sym (none_left raws w.entries w.said)) refl in
    subst (λ (z : List Bounds). Give addr context w.entries z) (append-nil w.done) (w.on [] left)

live_walked : (addr : List ℕ) (context : Context) (raws : List RawEntry) (base : ℕ) (items : List Item) → IsWalked addr context raws (length raws) base items false → IsMeaning addr context raws (Live items)
live_walked addr context raws base items w = record { entries = w.entries; bounds = w.done; said = w.said; gives = given addr context raws base items false w; means = w.held }

dead_walked : (addr : List ℕ) (context : Context) (raws : List RawEntry) (base : ℕ) (items : List Item) → IsWalked addr context raws (length raws) base items true → IsMeaning addr context raws Dead
dead_walked addr context raws base items w = record { entries = w.entries; bounds = w.done; said = w.said; gives = given addr context raws base items true w; means = w.held }

-- all entries are walked over
ended : (addr : List ℕ) (context : Context) (raws seen : List RawEntry) (i : ℕ) (walk : Walk) (dead : Bool) → seen ≡ raws → i ≤ length seen → length seen ≤ i → walk.dead ≡ dead → IsWalked addr context raws i walk.base walk.items.items walk.dead → IsWalked addr context raws (length raws) walk.base walk.items.items dead
ended addr context raws seen i walk dead same within past is w =
    let size : length seen ≡ length raws = ap length same in
    let all : i ≡ length raws = omega (arith, size, within, past) in
    subst (λ (z : Bool). IsWalked addr context raws (length raws) walk.base walk.items.items z) is
    (subst (λ (z : ℕ). IsWalked addr context raws z walk.base walk.items.items walk.dead) all w)

pub all_live : (addr : List ℕ) (context : Context) (raws seen : List RawEntry) (i : ℕ) (walk : Walk) → seen ≡ raws → i ≤ length seen → length seen ≤ i → walk.dead ≡ false → IsWalked addr context raws i walk.base walk.items.items walk.dead → IsMeaning addr context raws (Live walk.items.items)
all_live addr context raws seen i walk same within past is w = live_walked addr context raws walk.base walk.items.items (ended addr context raws seen i walk false same within past is w)

pub all_dead : (addr : List ℕ) (context : Context) (raws seen : List RawEntry) (i : ℕ) (walk : Walk) → seen ≡ raws → i ≤ length seen → length seen ≤ i → walk.dead ≡ true → IsWalked addr context raws i walk.base walk.items.items walk.dead → IsMeaning addr context raws Dead
all_dead addr context raws seen i walk same within past is w = dead_walked addr context raws walk.base walk.items.items (ended addr context raws seen i walk true same within past is w)

-- ---- faults

held_one : (x y : RawEntry) → Contains (x ∷ []) y → x ≡ y
held_one x y (zero, l, e) = e
held_one x y (suc i, l, e) = absurd (omega (arith, l))

-- the fault of an entry is one of the list
pub index_fault : (context : Context) (raws : List RawEntry) (i origin : ℕ) (d : RawEntry) (fault : Fault) → i < length raws → IsFaultOf (FaultIndexes Ranges context (get_or raws i d ∷ [])) origin fault → IsFaultOf (FaultIndexes Ranges context raws) origin fault
index_fault context raws i origin d fault inside (place, e, f) =
    let same : get_or raws i d ≡ f.raw = held_one (get_or raws i d) f.raw f.one in
    (place, e, record { raw = f.raw; entry = f.entry; index = f.index; one = (i, inside, get_or_default raws i f.raw d inside ∙ same); says = f.says; asked = f.asked; fault = f.fault; at = f.at })
