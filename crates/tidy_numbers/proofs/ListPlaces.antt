-- Lists that are held, and the least place in them.
use Rattle.std.proofs.Common.{◌≡◌, ◌<◌, ◌⊎◌, ◌∙◌, inl, inr, ℕ, zero, suc, List, [], ◌∷◌, length, get_or, cond, sym, ap, subst, refl, arith}
use Rattle.std.specs.Prelude.{Option, Some, None, is_some, Bool, true, false}
use Rattle.std.specs.List.{Contains}
use Rattle.std.proofs.lemmas.Bool.{cases_lt, false≢true}
use Rattle.std.proofs.lemmas.List.{get_or_default}
use Rattle.dw_base.specs.declared.classes.Classes.{Classes}
use Rattle.list_model.specs.declared.entry.ListKind.{ListKind}
use Rattle.list_model.specs.declared.entry.ListKind.TheVariants.{Ranges, Locations}
use Rattle.list_model.specs.declared.entry.RawEntry.{RawEntry}
use Rattle.list_model.specs.declared.item.Meaning.{Meaning}
use Rattle.list_model.specs.declared.item.Meaning.TheVariants.{Live, Dead}
use Rattle.loc_lists.specs.Locations.{is_item, items_among}
use Rattle.list_arena.specs.Held.{HeldList}
use Rattle.value_links.specs.Lists.{IsOwner, IsFrozen}
use Rattle.value_links.specs.Reading.{ListRead, Linkable, Reading, of_kind, lists_of, list_at}
use Rattle.value_links.specs.World.{World, Holds, HoldsList, HoldsMeaning, lists_held}
use Rattle.tidy_places.specs.Firsts.{IsLeastFound}
use Rattle.tidy_numbers.specs.LongLists.{AreLongOperandsOf, IsLongLength, HoldsBehindCode, is_owned, IsLongInKept, IsLongUnowned, IsLongInList, IsLongInLists}
use Rattle.tidy_numbers.specs.inside.Expressions.{IsLongAt}
use Rattle.tidy_numbers.specs.inside.ListEntries.{HoldsAmong, IsLongInItem, IsLongInOperands, IsLongInLocations, IsLongInHeld}
use Rattle.tidy_numbers.proofs.FoundAmong.{HoldsBelow, found_same}

-- THE LEAST PLACE IN ENTRIES

-- the entry with a number; past the end there is none, and an empty one stands for it
abbrev pub no_raw : RawEntry
no_raw = record { at = 0; code = 0; a = 0; b = 0; expr = record { at = 0; len = 0 } }

abbrev pub raw_at : List RawEntry → ℕ → RawEntry
raw_at raws k = get_or raws k no_raw

pub among_found : (Holds : RawEntry → ℕ → Type 0) (raws : List RawEntry) (n : ℕ) (found : Option ℕ) → n ≡ length raws → IsLeastFound (HoldsBelow (λ k. Holds (raw_at raws k)) n) found → IsLeastFound (HoldsAmong Holds raws) found
among_found Holds raws n found all least = found_same (HoldsBelow (λ k. Holds (raw_at raws k)) n) (HoldsAmong Holds raws) to from found least
  where
    to : (p : ℕ) → HoldsBelow (λ k. Holds (raw_at raws k)) n p → HoldsAmong Holds raws p
    to p (k, less, holds) =
        let inside : k < length raws = omega (arith, less, all) in
        (raw_at raws k, (k, inside, get_or_default raws k (raw_at raws k) no_raw inside), holds)

    from : (p : ℕ) → HoldsAmong Holds raws p → HoldsBelow (λ k. Holds (raw_at raws k)) n p
    from p (raw, (k, inside, here), holds) =
        let same : raw ≡ raw_at raws k = sym here ∙ get_or_default raws k raw no_raw inside in
        (k, omega (arith, inside, all), subst (λ (z : RawEntry). Holds z p) same holds)

-- THE PARTS OF A LIST

-- what holds only where something is so has the place that it has there
pub where_found : (Is : Type 0) (P : ℕ → Type 0) (found : Option ℕ) → Is → IsLeastFound P found → IsLeastFound (λ p. Is × P p) found
where_found Is P found is least = found_same P (λ p. Is × P p) (λ p holds. (is, holds)) (λ p (other, holds). holds) found least

-- one of two things that hold nowhere else
pub first_alone : (P Q : ℕ → Type 0) (found : Option ℕ) → ((p : ℕ) → Q p → ⊥) → IsLeastFound P found → IsLeastFound (λ p. P p ⊎ Q p) found
first_alone P Q found never least = found_same P (λ p. P p ⊎ Q p) (λ p holds. inl holds) from found least
  where
    from : (p : ℕ) → P p ⊎ Q p → P p
    from p (inl holds) = holds
    from p (inr other) = absurd (never p other)

-- ITEMS

drop_head : (b : Bool) (raw other : RawEntry) (items : List RawEntry) (k : ℕ) → k < length (cond b (raw ∷ items) items) → get_or (cond b (raw ∷ items) items) k other ≡ other → ((b ≡ true) × (raw ≡ other)) ⊎ ((j : ℕ) × (j < length items) × (get_or items j other ≡ other))
drop_head true raw other items zero inside here = inl (refl, here)
drop_head true raw other items (suc k) inside here = inr (k, omega (arith, inside), here)
drop_head false raw other items k inside here = inr (k, inside, here)

-- an item is one of the entries
pub item_among : (raws : List RawEntry) (raw : RawEntry) → Contains (items_among raws) raw → Contains raws raw × (is_item raw ≡ true)
item_among [] raw (k, inside, here) = absurd (omega (arith, inside))
item_among (r ∷ raws) raw (k, inside, here) = elim (drop_head (is_item r) r raw (items_among raws) k inside here) [
  | inl (item, same) ↦ ((0, omega arith, same), ap is_item (sym same) ∙ item)
  | inr there ↦
      let ((j, within, at_j), item) = item_among raws raw there in
      ((suc j, omega (arith, within), at_j), item)
]

put_head : (b : Bool) (raw other : RawEntry) (items : List RawEntry) → Contains items other → Contains (cond b (raw ∷ items) items) other
put_head true raw other items (k, inside, here) = (suc k, omega (arith, inside), here)
put_head false raw other items there = there

item_head : (raw : RawEntry) (items : List RawEntry) (b : Bool) → b ≡ true → Contains (cond b (raw ∷ items) items) raw
item_head raw items true is = (0, omega arith, refl)
item_head raw items false is = absurd (false≢true is)

pub among_items : (raws : List RawEntry) (raw : RawEntry) → Contains raws raw → is_item raw ≡ true → Contains (items_among raws) raw
among_items [] raw (k, inside, here) item = absurd (omega (arith, inside))
among_items (r ∷ raws) raw (zero, inside, here) item =
    subst (λ (z : RawEntry). Contains (cond (is_item r) (r ∷ items_among raws) (items_among raws)) z) here (item_head r (items_among raws) (is_item r) (ap is_item here ∙ item))
among_items (r ∷ raws) raw (suc k, inside, here) item = put_head (is_item r) r raw (items_among raws) (among_items raws raw (k, omega (arith, inside), here) item)

-- A LIST THAT IS HELD

-- one unit owns a list, or none does
owner_same : (r : Linkable) (kind : ListKind) (at : ℕ) (a b : Option ℕ) → IsOwner r kind at a → IsOwner r kind at b → a ≡ b
owner_same r kind at (Some u) (Some v) (here, first) (there, other) = elim (cases_lt u v) [
  | inl less ↦ absurd (other u less here)
  | inr rest ↦ elim (cases_lt v u) [
    | inl less ↦ absurd (first v less there)
    | inr more ↦ let same : u ≡ v = omega arith in ap (λ (z : ℕ). Some z) same
  ]
]
owner_same r kind at (Some u) None (here, first) none = absurd (none u here)
owner_same r kind at None (Some v) none (there, other) = absurd (none v there)
owner_same r kind at None None p q = refl

module _ (classes : Classes) (r : Linkable) (kind : ListKind) (list : ListRead) (held : HeldList) (holds : HoldsList r kind list held) where
  frozen_by : (meaning : Meaning) → HoldsMeaning r kind list held.owner meaning → IsFrozen r kind list → meaning ≡ Dead
  frozen_by (Live items) (thawed, says) frozen = absurd (thawed frozen)
  frozen_by Dead is frozen = refl

  dead_frozen : held.meaning ≡ Dead → IsFrozen r kind list
  dead_frozen dead = subst (HoldsMeaning r kind list held.owner) dead holds.meaning

  among_read : (Of : RawEntry → ℕ → Type 0) (p : ℕ) → HoldsAmong Of held.raw p → (raw : RawEntry) × Contains list.raws raw × Of raw p
  among_read Of p long = subst (λ (z : List RawEntry). HoldsAmong Of z p) holds.raws long

  read_among : (Of : RawEntry → ℕ → Type 0) (p : ℕ) → (raw : RawEntry) × Contains list.raws raw × Of raw p → HoldsAmong Of held.raw p
  read_among Of p long = subst (λ (z : List RawEntry). HoldsAmong Of z p) (sym holds.raws) long

  pub kept_read : (p : ℕ) → IsLongInOperands classes kind (of_kind r kind).section held p → IsLongInKept classes r kind list p
  kept_read p (inl kept, long) = (inl kept, among_read (HoldsBehindCode AreLongOperandsOf kind (of_kind r kind).section) p long)
  kept_read p (inr dead, long) = (inr (dead_frozen dead), among_read (HoldsBehindCode AreLongOperandsOf kind (of_kind r kind).section) p long)

  pub kept_held : (p : ℕ) → IsLongInKept classes r kind list p → IsLongInOperands classes kind (of_kind r kind).section held p
  kept_held p (inl kept, long) = (inl kept, read_among (HoldsBehindCode AreLongOperandsOf kind (of_kind r kind).section) p long)
  kept_held p (inr frozen, long) = (inr (frozen_by held.meaning holds.meaning frozen), read_among (HoldsBehindCode AreLongOperandsOf kind (of_kind r kind).section) p long)

-- a location list
module _ (classes : Classes) (r : Linkable) (list : ListRead) (held : HeldList) (holds : HoldsList r Locations list held) where
  pub locations_read : (p : ℕ) → IsLongInLocations r.locations.section held p → IsLongUnowned r list p ⊎ IsLongInList r list p
  locations_read p (inl (none, long)) = inl (subst (IsOwner r Locations list.at) none holds.owner, among_read classes r Locations list held holds (HoldsBehindCode IsLongLength Locations r.locations.section) p long)
  locations_read p (inr long) =
      let (raw, there, (item, (inner, in_it, place))) = among_read classes r Locations list held holds (IsLongInItem (is_owned held.owner) r.locations.section) p long in
      inr (record { owner = held.owner; owned = holds.owner; raw = raw; among = among_items list.raws raw there item; inner = inner; long = in_it; place = place })

  pub locations_held : (p : ℕ) → IsLongUnowned r list p ⊎ IsLongInList r list p → IsLongInLocations r.locations.section held p
  locations_held p (inl (none, long)) =
      inl (owner_same r Locations list.at held.owner None holds.owner none, read_among classes r Locations list held holds (HoldsBehindCode IsLongLength Locations r.locations.section) p long)
  locations_held p (inr is) =
      let owner : is.owner ≡ held.owner = owner_same r Locations list.at is.owner held.owner is.owned holds.owner in
      let (there, item) = item_among list.raws is.raw is.among in
      let long : IsLongAt (is_owned held.owner) r.locations.section is.raw.expr p = subst (λ (o : Option ℕ). IsLongAt (is_owned o) r.locations.section is.raw.expr p) owner (is.inner, is.long, is.place) in
      inr (read_among classes r Locations list held holds (IsLongInItem (is_owned held.owner) r.locations.section) p (is.raw, there, (item, long)))

-- what is said of a list as it is read
abbrev IsLongRead : Classes → Linkable → ListKind → ListRead → ℕ → Type 0
IsLongRead classes r kind list p = IsLongInKept classes r kind list p ⊎ ((kind ≡ Locations) × (IsLongUnowned r list p ⊎ IsLongInList r list p))

list_read : (classes : Classes) (r : Linkable) (kind : ListKind) (list : ListRead) (held : HeldList) → HoldsList r kind list held → (p : ℕ) → IsLongInHeld classes kind (of_kind r kind).section held p → IsLongRead classes r kind list p
list_read classes r kind list held holds p (inl long) = inl (kept_read classes r kind list held holds p long)
list_read classes r Ranges list held holds p (inr (wrong, long)) = absurd cc
list_read classes r Locations list held holds p (inr (is, long)) = inr (is, locations_read classes r list held holds p long)

list_held : (classes : Classes) (r : Linkable) (kind : ListKind) (list : ListRead) (held : HeldList) → HoldsList r kind list held → (p : ℕ) → IsLongRead classes r kind list p → IsLongInHeld classes kind (of_kind r kind).section held p
list_held classes r kind list held holds p (inl long) = inl (kept_held classes r kind list held holds p long)
list_held classes r Ranges list held holds p (inr (wrong, long)) = absurd cc
list_held classes r Locations list held holds p (inr (is, long)) = inr (is, locations_held classes r list held holds p long)

-- ALL LISTS OF A KIND

-- a number of the list with a number
abbrev pub IsLongNumbered : Classes → ListKind → List ℕ → List HeldList → ℕ → ℕ → Type 0
IsLongNumbered classes kind section lists k p = (held : HeldList) × (held ≡ get_or lists k held) × IsLongInHeld classes kind section held p

pub numbered_found : (classes : Classes) (kind : ListKind) (section : List ℕ) (lists : List HeldList) (k : ℕ) (held : HeldList) (found : Option ℕ) → k < length lists → held ≡ get_or lists k held → IsLeastFound (IsLongInHeld classes kind section held) found → IsLeastFound (IsLongNumbered classes kind section lists k) found
numbered_found classes kind section lists k held found inside here least = found_same (IsLongInHeld classes kind section held) (IsLongNumbered classes kind section lists k) (λ p long. (held, here, long)) from found least
  where
    from : (p : ℕ) → IsLongNumbered classes kind section lists k p → IsLongInHeld classes kind section held p
    from p (other, there, long) =
        let same : other ≡ held = there ∙ get_or_default lists k other held inside ∙ sym here in
        subst (λ (z : HeldList). IsLongInHeld classes kind section z p) same long

some_at : (lists : List HeldList) (k : ℕ) → k < length lists → (held : HeldList) × (held ≡ get_or lists k held)
some_at [] k inside = absurd (omega (arith, inside))
some_at (list ∷ lists) zero inside = (list, refl)
some_at (list ∷ lists) (suc k) inside = some_at lists k (omega (arith, inside))

pub lists_found : (classes : Classes) (world : World) (s : Reading) (kind : ListKind) (section : List ℕ) (n : ℕ) (found : Option ℕ) → Holds world.image world s → section ≡ (of_kind s.links kind).section → n ≡ length (lists_held world kind) → IsLeastFound (HoldsBelow (IsLongNumbered classes kind section (lists_held world kind)) n) found → IsLeastFound (IsLongInLists classes s kind) found
lists_found classes world s kind section n found holds section_is all least = found_same (HoldsBelow (IsLongNumbered classes kind section (lists_held world kind)) n) (IsLongInLists classes s kind) to from found least
  where
    count : length (lists_held world kind) ≡ length (lists_of s kind)
    count = (holds.lists kind).count

    to : (p : ℕ) → HoldsBelow (IsLongNumbered classes kind section (lists_held world kind)) n p → IsLongInLists classes s kind p
    to p (k, less, (held, here, long)) =
        let known : k < length (lists_of s kind) = omega (arith, less, all, count) in
        let there : HoldsList s.links kind (list_at (lists_of s kind) k) held = subst (HoldsList s.links kind (list_at (lists_of s kind) k)) (sym here) ((holds.lists kind).each k held known) in
        (k, known, list_read classes s.links kind (list_at (lists_of s kind) k) held there p (subst (λ (z : List ℕ). IsLongInHeld classes kind z held p) section_is long))

    from : (p : ℕ) → IsLongInLists classes s kind p → HoldsBelow (IsLongNumbered classes kind section (lists_held world kind)) n p
    from p (k, known, long) =
        let inside : k < length (lists_held world kind) = omega (arith, known, count) in
        let (held, here) = some_at (lists_held world kind) k inside in
        let there : HoldsList s.links kind (list_at (lists_of s kind) k) held = subst (HoldsList s.links kind (list_at (lists_of s kind) k)) (sym here) ((holds.lists kind).each k held known) in
        (k, omega (arith, inside, all), (held, here, subst (λ (z : List ℕ). IsLongInHeld classes kind z held p) (sym section_is) (list_held classes s.links kind (list_at (lists_of s kind) k) held there p long)))

-- WHETHER A UNIT OWNS A LIST

pub some_owned : (owner : Option ℕ) → is_some owner ≡ is_owned owner
some_owned (Some u) = refl
some_owned None = refl
