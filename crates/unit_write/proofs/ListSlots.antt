-- The slots of lists, which stand behind those of a unit.
use Rattle.std.proofs.Common.{◌≡◌, ◌≤◌, ◌<◌, ◌+◌, ◌-◌, ◌^◌, ℕ, zero, suc, List, [], ◌∷◌, ◌++◌, length, map, get_or, take, ◌∙◌, sym, ap, refl, subst, arith}
use Rattle.std.specs.List.{All, AllZip}
use Rattle.std.proofs.lemmas.List.{append_assoc, append-nil, length-append, length-map, length-take-le, map-append, take_more, get_or-map, get_or_append_left, get_or-append-add}
use Rattle.std.proofs.lemmas.List.Elements.{All-from_get_or}
use Rattle.std.proofs.lemmas.Slice.Zip.{AllZip-long}
use Rattle.slot_layout.specs.declared.slots.Slot.{Slot}
use Rattle.leb_codec.specs.Layout.{SlotForm}
use Rattle.expr_ops.specs.Slots.{Aim}
use Rattle.expr_ops.specs.Slots.Aim.{Place, Length}
use Rattle.entry_arena.specs.Arena.{Arena}
use Rattle.entry_read.specs.Slots.{aim_at}
use Rattle.entry_read.specs.Units.{HeadAndForest}
use Rattle.unit_write.specs.declared.marks.Marks.{Marks}
use Rattle.unit_write.specs.declared.slots.ListSlot.{ListSlot}
use Rattle.unit_write.specs.declared.slots.ListSlot.TheVariants.{Length as ListLength, Place as ListPlace}
use Rattle.unit_write.specs.declared.slots.Spot.{Spot}
use Rattle.unit_write.specs.declared.slots.Spot.TheVariants.{Nothing as NoSpot}
use Rattle.unit_write.specs.Slots.{spot_at, list_spot, all_spots, IsListSlotFor, AreListSlots}
use Rattle.unit_write.specs.inside.Marks.{slot_for, AreSlotsMade, list_aim, list_count}
use Rattle.unit_write.proofs.SlotAims.{IsWithin, AreWithin, within_at}
use Rattle.unit_write.proofs.SlotsMade.{made_push}

-- PAIRS

pub zip_append : {A B : Type 0} (R : A → B → Type 0) (xs : List A) (ys : List B) (us : List A) (vs : List B) → AllZip R xs ys → AllZip R us vs → AllZip R (xs ++ us) (ys ++ vs)
zip_append R [] [] us vs h g = g
zip_append R [] (y ∷ ys) us vs h g = absurd h
zip_append R (x ∷ xs) [] us vs h g = absurd h
zip_append R (x ∷ xs) (y ∷ ys) us vs h g = (h.0, zip_append R xs ys us vs h.1 g)

pub zip_same : {A B : Type 0} (R S : A → B → Type 0) → ((x : A) (y : B) → R x y → S x y) → (xs : List A) (ys : List B) → AllZip R xs ys → AllZip S xs ys
zip_same R S each [] [] h = tt
zip_same R S each [] (y ∷ ys) h = absurd h
zip_same R S each (x ∷ xs) [] h = absurd h
zip_same R S each (x ∷ xs) (y ∷ ys) h = (each x y h.0, zip_same R S each xs ys h.1)

pub zip_map : {A B C : Type 0} (R : A → B → Type 0) (S : A → C → Type 0) (g : B → C) → ((x : A) (y : B) → R x y → S x (g y)) → (xs : List A) (ys : List B) → AllZip R xs ys → AllZip S xs (map g ys)
zip_map R S g each [] [] h = tt
zip_map R S g each [] (y ∷ ys) h = absurd h
zip_map R S g each (x ∷ xs) [] h = absurd h
zip_map R S g each (x ∷ xs) (y ∷ ys) h = (each x y h.0, zip_map R S g each xs ys h.1)

-- what stands beside an element of the other list
pub zip_at : {A B : Type 0} (R : A → B → Type 0) (xs : List A) (ys : List B) (i : ℕ) (d : A) (e : B) → AllZip R xs ys → i < length xs → R (get_or xs i d) (get_or ys i e)
zip_at R [] ys i d e h lt = absurd (omega arith)
zip_at R (x ∷ xs) [] i d e h lt = absurd h
zip_at R (x ∷ xs) (y ∷ ys) zero d e h lt = h.0
zip_at R (x ∷ xs) (y ∷ ys) (suc i) d e h lt = zip_at R xs ys i d e h.1 (omega arith)

-- ONE AFTER THE OTHER

module _ (marks : Marks) (spots : List Spot) (lists : List ListSlot) (aims : List Aim) (same : length spots ≡ length aims) where
  abbrev all : List Spot
  all = all_spots spots lists

  abbrev aims_to : ℕ → List Aim
  aims_to k = aims ++ map list_aim (take k lists)

  -- behind them stand more spots
  pub listed_none : (slots : List Slot) → AreSlotsMade marks spots aims slots → AreSlotsMade marks all (aims_to 0) slots
  listed_none slots made = subst (λ (z : List Aim). AreSlotsMade marks all z slots) (sym (append-nil aims)) (record {
    count = made.count;
    each = λ i d lt. made.each i d lt ∙ ap (λ (z : Spot). slot_for marks z i (aim_at aims i)) (sym (get_or_append_left spots (map list_spot lists) NoSpot i (omega (arith, same, lt))));
  })

  pub listed_more : (old new : List Slot) (k number : ℕ) (d : ListSlot) (slot : Slot) → k < length lists → AreSlotsMade marks all (aims_to k) old → new ≡ old ++ slot ∷ [] → number ≡ length old → slot ≡ slot_for marks (list_spot (get_or lists k d)) number (list_aim (get_or lists k d)) → AreSlotsMade marks all (aims_to (k + 1)) new
  listed_more old new k number d slot lt made pushed here is =
      let one : ListSlot = get_or lists k d in
      let taken : length (map list_aim (take k lists)) ≡ k = length-map (take k lists) list_aim ∙ length-take-le k lists (omega (arith, lt)) in
      let count : length old ≡ length spots + k = let both = made.count in let parts = length-append aims (map list_aim (take k lists)) in omega (arith, both, parts, taken, same) in
      let spot : spot_at all (length old) ≡ list_spot one = ap (spot_at all) count ∙ get_or-append-add spots (map list_spot lists) k NoSpot ∙ get_or-map list_spot lists k d NoSpot lt in
      let named : slot ≡ slot_for marks (spot_at all (length old)) (length old) (list_aim one) = is ∙ ap (λ (z : ℕ). slot_for marks (list_spot one) z (list_aim one)) here ∙ ap (λ (z : Spot). slot_for marks z (length old) (list_aim one)) (sym spot) in
      let next : aims_to (k + 1) ≡ aims_to k ++ list_aim one ∷ [] = ap (λ (z : List ListSlot). aims ++ map list_aim z) (take_more lists k d lt) ∙ ap (λ (z : List Aim). aims ++ z) (map-append list_aim (take k lists) (one ∷ [])) ∙ sym (append_assoc aims (map list_aim (take k lists)) (list_aim one ∷ [])) in
      subst (λ (z : List Aim). AreSlotsMade marks all z new) (sym next) (made_push marks all (aims_to k) (list_aim one) old new slot made pushed named)

-- WHAT THEY TELL

-- all but where its place was
abbrev tell : Aim → Aim
tell (Place form n) = Place form 0
tell (Length fixed count) = Length fixed count

slot_tells : (marks : Marks) (spot : Spot) (i : ℕ) (aim : Aim) → slot_for marks spot i aim ≡ slot_for marks spot i (tell aim)
slot_tells marks spot i (Place form n) = refl
slot_tells marks spot i (Length fixed count) = refl

list_tells : (f : Arena) (at : ℕ) (aim : Aim) (slot : ListSlot) → IsListSlotFor f at aim slot → tell (list_aim slot) ≡ tell aim
list_tells f at (Place form n) (ListPlace kind spot) h = ap (λ (z : SlotForm). Place z 0) h.0
list_tells f at (Place form n) (ListLength size slots) h = absurd h
list_tells f at (Length fixed count) (ListPlace kind spot) h = absurd h
list_tells f at (Length fixed count) (ListLength size slots) h = ap (λ (z : ℕ). Length z slots) h.0 ∙ ap (λ (z : ℕ). Length fixed z) h.1

lists_tell : (f : Arena) (at : ℕ) (more : List Aim) (lists : List ListSlot) → AllZip (IsListSlotFor f at) more lists → map tell (map list_aim lists) ≡ map tell more
lists_tell f at [] [] h = refl
lists_tell f at [] (slot ∷ lists) h = absurd h
lists_tell f at (aim ∷ more) [] h = absurd h
lists_tell f at (aim ∷ more) (slot ∷ lists) h = ap (λ (z : Aim). z ∷ map tell (map list_aim lists)) (list_tells f at aim slot h.0) ∙ ap (λ (z : List Aim). tell aim ∷ z) (lists_tell f at more lists h.1)

made_tells : (marks : Marks) (spots : List Spot) (xs ys : List Aim) (slots : List Slot) → map tell xs ≡ map tell ys → AreSlotsMade marks spots xs slots → AreSlotsMade marks spots ys slots
made_tells marks spots xs ys slots same made =
    let long : length xs ≡ length ys = sym (length-map xs tell) ∙ ap length same ∙ length-map ys tell in
    record {
      count = made.count ∙ long;
      each = λ i d lt.
          let less : i < length xs = omega (arith, lt, long) in
          let own : tell (aim_at xs i) ≡ tell (aim_at ys i) = sym (get_or-map tell xs i (Length 0 0) (Length 0 0) less) ∙ ap (λ (z : List Aim). aim_at z i) same ∙ get_or-map tell ys i (Length 0 0) (Length 0 0) lt in
          made.each i d less ∙ slot_tells marks (spot_at spots i) i (aim_at xs i) ∙ ap (slot_for marks (spot_at spots i) i) own ∙ sym (slot_tells marks (spot_at spots i) i (aim_at ys i));
    }

-- so they are made for what the lists tell
pub listed_made : (f : Arena) (at : ℕ) (marks : Marks) (spots : List Spot) (aims more : List Aim) (lists : List ListSlot) (slots : List Slot) → AllZip (IsListSlotFor f at) more lists → AreSlotsMade marks spots (aims ++ map list_aim lists) slots → AreSlotsMade marks spots (aims ++ more) slots
listed_made f at marks spots aims more lists slots h =
    made_tells marks spots (aims ++ map list_aim lists) (aims ++ more) slots (map-append tell aims (map list_aim lists) ∙ ap (λ (z : List Aim). map tell aims ++ z) (lists_tell f at more lists h) ∙ sym (map-append tell aims more))

-- RANGES

within_from : (most : ℕ) (aims : List Aim) → ((j fixed count : ℕ) → j < length aims → aim_at aims j ≡ Length fixed count → (fixed < most) × (suc j + count ≤ length aims)) → AreWithin most aims
within_from most [] h = tt
within_from most (aim ∷ aims) h = (
  first aim aims (λ fixed count is. h 0 fixed count (omega arith) is),
  within_from most aims (λ j fixed count lt is.
      let own = h (suc j) fixed count (omega (arith, lt)) is in
      let inside : suc (suc j) + count ≤ suc (length aims) = own.1 in
      (own.0, omega (arith, inside))),
)
  where
    first : (aim : Aim) (aims : List Aim) → ((fixed count : ℕ) → aim ≡ Length fixed count → (fixed < most) × (1 + count ≤ suc (length aims))) → IsWithin most (length aims) aim
    first (Place form n) aims h = tt
    first (Length fixed count) aims h =
        let own = h fixed count refl in
        let inside : 1 + count ≤ suc (length aims) = own.1 in
        (own.0, omega (arith, inside))

module _ (unit : HeadAndForest) (more : List Aim) (lists : List ListSlot) (listed : AreListSlots unit more lists) where
  pub lists_many : length lists ≡ length more
  lists_many = AllZip-long (IsListSlotFor unit.forest unit.head.at) more lists listed.each

  pub lists_within : AreWithin (2 ^ 31) more
  lists_within = within_from (2 ^ 31) more (λ j fixed count lt is. (listed.small j fixed count lt is, listed.inside j fixed count lt is))

  few_counted : (most left : ℕ) (aim : Aim) (slot : ListSlot) → IsListSlotFor unit.forest unit.head.at aim slot → IsWithin most left aim → list_count slot ≤ left
  few_counted most left (Place form n) (ListPlace kind spot) h within = omega arith
  few_counted most left (Place form n) (ListLength size slots) h within = absurd h
  few_counted most left (Length fixed count) (ListPlace kind spot) h within = absurd h
  few_counted most left (Length fixed count) (ListLength size slots) h within =
      let same : slots ≡ count = h.1 in
      let few : count ≤ left = within.1 in
      omega (arith, same, few)

  -- no length counts more slots than there are
  pub counts_few : All (λ (slot : ListSlot). list_count slot ≤ length lists) lists
  counts_few =
      let none : ListSlot = ListLength 0 0 in
      All-from_get_or (λ (slot : ListSlot). list_count slot ≤ length lists) lists none (λ j lt.
      let many : length lists ≡ length more = lists_many in
      let less : j < length more = omega (arith, lt, many) in
      let few = few_counted (2 ^ 31) (length more - suc j) (aim_at more j) (get_or lists j none) (zip_at (IsListSlotFor unit.forest unit.head.at) more lists j (Length 0 0) none listed.each less) (within_at (2 ^ 31) more j lists_within less) in
      omega (arith, few, many))
