-- The slots of a unit by what is counted of its entries and codes 0.
use Rattle.std.proofs.Common.{◌≡◌, ◌≤◌, ◌<◌, ◌+◌, ◌-◌, ◌^◌, ℕ, suc, List, [], ◌++◌, length, map, get_or, take, sum, ◌∙◌, sym, ap, refl, subst, arith, inl, inr}
use Rattle.std.specs.Prelude.{slice_range}
use Rattle.std.specs.List.{All}
use Rattle.std.proofs.lemmas.Bool.{cases_lt}
use Rattle.std.proofs.lemmas.List.{length-append, length-map, get_or-map}
use Rattle.std.proofs.lemmas.List.Elements.{All-from_get_or}
use Rattle.std.proofs.lemmas.Slice.Zip.{AllZip-long}
use Rattle.leb_codec.specs.Layout.{SlotForm, uleb, call, SlotRow, row_at}
use Rattle.slot_layout.specs.declared.slots.Slot.{Slot}
use Rattle.slot_layout.specs.declared.slots.SlotKind.TheVariants.{Uleb as TheUleb}
use Rattle.slot_layout.specs.Rows.{form_of, row_of, rows_of, HasRangesInside, HasSmallFixed}
use Rattle.abbrev_tables.specs.declared.decl.Spec.{Spec}
use Rattle.abbrev_tables.specs.Listings.{Listing}
use Rattle.expr_ops.specs.Expressions.{Operation}
use Rattle.expr_ops.specs.Slots.{Aim}
use Rattle.expr_ops.specs.Slots.Aim.{Place, Length}
use Rattle.entry_arena.specs.Arena.{Arena, entry_at, with_values}
use Rattle.entry_arena.specs.Order.{HaveValues}
use Rattle.entry_arena.specs.Trees.{nothing_from, listed_to}
use Rattle.entry_arena.specs.Walks.{Item}
use Rattle.entry_read.specs.Slots.{aims_of, aims_before, meaning_at, slots_before, aim_at, AreValuesBefore, IsPlaceRow, IsRowOf}
use Rattle.entry_read.specs.Units.{HeadAndForest, entries_at, declarations_of}
use Rattle.unit_write.specs.declared.marks.Marks.{Marks}
use Rattle.unit_write.specs.declared.slots.ListSlot.{ListSlot}
use Rattle.unit_write.specs.declared.slots.ListSlot.TheVariants.{Length as ListLength, Place as ListPlace}
use Rattle.unit_write.specs.declared.slots.Spot.{Spot}
use Rattle.unit_write.specs.declared.slots.Spot.TheVariants.{Entry as TheEntry, End as TheEnd, Nothing as NoSpot}
use Rattle.unit_write.specs.Lens.{AreLensUnder}
use Rattle.unit_write.specs.Values.{OneSize}
use Rattle.unit_write.specs.Placing.{EntrySize, ArePlaced}
use Rattle.unit_write.specs.Moved.{IsPlacedAt}
use Rattle.unit_write.specs.Slots.{IsSpotAt, spot_place, spot_at, IsSpotFor, AreSpotsOf, IsListSlotFor, AreListSlots, list_spot, all_spots, AreSlots}
use Rattle.unit_write.specs.inside.Marks.{values_before, EndsFollow, AreMarks, HasSpot, HasSpotFor, HaveSpots, entries_before, kind_of, slot_for, AreSlotsMade, list_aim, HasListSpot}
use Rattle.unit_write.proofs.SlotAims.{slots_up, IsWithin, AreWithin, within_append, within_at}
use Rattle.unit_write.proofs.ListSlots.{zip_append, zip_same, zip_map, zip_at, listed_made, lists_many, lists_within}
use Rattle.unit_write.proofs.SlotSizes.{first_is, before_inside, before_rises, weight, are_added}
use Rattle.unit_write.proofs.SlotPlaces.{Rises, AreShifted, shifted, places_rise, entry_some}
use Rattle.unit_write.proofs.SlotWalks.{same_items, walk_many}

whole_range : (xs : List ℕ) (n : ℕ) → sum (slice_range xs 0 n) ≡ sum (take n xs)
whole_range xs n = let same : n - 0 ≡ n = omega arith in ap (λ (k : ℕ). sum (take k xs)) same

form_is : (form : SlotForm) → form_of (kind_of form) ≡ form
form_is uleb = refl
form_is call = refl

-- an entry or a code 0 of a unit
abbrev pub IsOne : Arena → Spot → Type 0
IsOne f (TheEntry id) = id < length f.entries
IsOne f (TheEnd number) = number < length f.ends
IsOne f NoSpot = ⊥

one_of : (f : Arena) (spot : Spot) (place : ℕ) → IsSpotAt f spot place → IsOne f spot
one_of f (TheEntry id) place h = h.0
one_of f (TheEnd number) place h = h.0
one_of f NoSpot place h = absurd h

-- a slot that tells a place has one
abbrev IsOneFor : Arena → Aim → Spot → Type 0
IsOneFor f (Place form n) spot = IsOne f spot
IsOneFor f (Length fixed count) spot = Unit {0}

one_for : (f : Arena) (at : ℕ) (aim : Aim) (spot : Spot) → IsSpotFor f at aim spot → IsOneFor f aim spot
one_for f at (Place form n) spot h = one_of f spot (at + n) h
one_for f at (Length fixed count) spot h = tt

-- so has a slot of a list
list_one : (f : Arena) (at : ℕ) (aim : Aim) (slot : ListSlot) → IsListSlotFor f at aim slot → IsOneFor f aim (list_spot slot)
list_one f at (Place form n) (ListPlace kind spot) h = one_of f spot (at + n) h.1
list_one f at (Place form n) (ListLength size slots) h = absurd h
list_one f at (Length fixed count) slot h = tt

list_own : (f : Arena) (at : ℕ) (aim : Aim) (slot : ListSlot) → IsListSlotFor f at aim slot → IsOneFor f (list_aim slot) (list_spot slot)
list_own f at (Place form n) (ListPlace kind spot) h = one_of f spot (at + n) h.1
list_own f at (Length fixed count) (ListPlace kind spot) h = absurd h
list_own f at aim (ListLength size slots) h = tt

spot_one : (unit : HeadAndForest) (ops : ℕ → List Operation) (spots : List Spot) → AreSpotsOf unit ops spots → (i : ℕ) → i < length (aims_of unit.forest ops) → IsOneFor unit.forest (aim_at (aims_of unit.forest ops) i) (spot_at spots i)
spot_one unit ops spots h i lt = one_for unit.forest unit.head.at (aim_at (aims_of unit.forest ops) i) (spot_at spots i) (zip_at (IsSpotFor unit.forest unit.head.at) (aims_of unit.forest ops) spots i (Length 0 0) NoSpot h lt)

-- and each of both
both_one : (unit : HeadAndForest) (ops : ℕ → List Operation) (more : List Aim) (spots : List Spot) (lists : List ListSlot) → AreSpotsOf unit ops spots → AreListSlots unit more lists → (i : ℕ) → i < length (aims_of unit.forest ops ++ more) → IsOneFor unit.forest (aim_at (aims_of unit.forest ops ++ more) i) (spot_at (all_spots spots lists) i)
both_one unit ops more spots lists are listed i lt =
    let f : Arena = unit.forest in
    let at : ℕ = unit.head.at in
    let aims : List Aim = aims_of f ops in
    let own = zip_same (IsSpotFor f at) (IsOneFor f) (one_for f at) aims spots are in
    let behind = zip_map (IsListSlotFor f at) (IsOneFor f) list_spot (list_one f at) more lists listed.each in
    zip_at (IsOneFor f) (aims ++ more) (all_spots spots lists) i (Length 0 0) NoSpot (zip_append (IsOneFor f) aims spots more (map list_spot lists) own behind) lt

pub spots_many : (unit : HeadAndForest) (ops : ℕ → List Operation) (spots : List Spot) → AreSpotsOf unit ops spots → length spots ≡ length (aims_of unit.forest ops)
spots_many unit ops spots h = AllZip-long (IsSpotFor unit.forest unit.head.at) (aims_of unit.forest ops) spots h

-- after all values those of lists are made
pub both_made : (unit : HeadAndForest) (ops : ℕ → List Operation) (marks : Marks) (spots : List Spot) (lists : List ListSlot) (number : ℕ) (old new : List Slot) → AreSpotsOf unit ops spots → number ≡ length unit.forest.values → AreSlotsMade marks spots (aims_before (meaning_at unit.forest) ops number) old → ((names : List Spot) (aims : List Aim) → length names ≡ length aims → AreSlotsMade marks names aims old → AreSlotsMade marks (all_spots names lists) (aims ++ map list_aim lists) new) → (more : List Aim) → AreListSlots unit more lists → AreSlotsMade marks (all_spots spots lists) (aims_of unit.forest ops ++ more) new
both_made unit ops marks spots lists number old new are all made behind more listed =
    let own : AreSlotsMade marks spots (aims_of unit.forest ops) old = subst (λ (z : ℕ). AreSlotsMade marks spots (aims_before (meaning_at unit.forest) ops z) old) all made in
    listed_made unit.forest unit.head.at marks (all_spots spots lists) (aims_of unit.forest ops) more lists new listed.each (behind spots (aims_of unit.forest ops) (spots_many unit ops spots are) own)

-- the values of the entries before a place, where so many stand before it
are_before : (f : Arena) → HaveValues f.entries (length f.values) → (entries : List ℕ) (place n : ℕ) → n ≤ length f.entries → ((j : ℕ) → j < length f.entries → get_or entries j 0 < place → j < n) → ((j : ℕ) → j < length f.entries → place ≤ get_or entries j 0 → n ≤ j) → AreValuesBefore f entries place (values_before f n)
are_before f valued entries place n inside front rest = record {
  few = before_inside f valued n inside;
  before = λ j lt less.
      let below : j < n = front j lt less in
      let first : (entry_at f.entries j).first ≡ values_before f j = first_is f valued j lt in
      let up : values_before f (suc j) ≤ values_before f (suc j + (n - suc j)) = before_rises f valued (suc j) (n - suc j) in
      let end : values_before f (suc j + (n - suc j)) ≡ values_before f n = ap (values_before f) (let e : suc j + (n - suc j) ≡ n = omega arith in e) in
      let own : values_before f (suc j) ≡ values_before f j + (entry_at f.entries j).count = refl in
      omega arith;
  behind = λ j lt less.
      let above : n ≤ j = rest j lt less in
      let first : (entry_at f.entries j).first ≡ values_before f j = first_is f valued j lt in
      let up : values_before f n ≤ values_before f (n + (j - n)) = before_rises f valued n (j - n) in
      let end : values_before f (n + (j - n)) ≡ values_before f j = ap (values_before f) (let e : n + (j - n) ≡ j = omega arith in e) in
      omega arith;
}

module _ (unit : HeadAndForest) (table : Listing) (columns : List Spec) (numbers : List ℕ) (ops : ℕ → List Operation) (marks : Marks) (marked : AreMarks unit table columns numbers ops marks) where
  abbrev es : List ℕ
  es = marks.places.entries.items

  abbrev ds : List ℕ
  ds = marks.places.ends.items

  abbrev counts : List ℕ
  counts = marks.entries_before.items

  abbrev bare : IsPlacedAt unit table columns numbers marked.lens 0 es ds marks.places.end
  bare = marked.placed

  pub follow : EndsFollow 0 bare.whole.items counts
  follow = marked.entries bare.values (declarations_of table) (entries_at unit.head) bare.place bare.whole

  pub rises : Rises 0 (0 + (entries_at unit.head - unit.head.at)) counts es ds marks.places.end
  rises = places_rise (EntrySize table columns numbers unit.forest marked.lens) (entry_some table columns numbers unit.forest marked.lens) 0 (0 + (entries_at unit.head - unit.head.at)) bare.whole.items counts es ds marks.places.end follow bare.placed

  pub all_entries : length unit.forest.entries ≡ length es
  all_entries =
      let e : length unit.forest.entries ≡ 0 + length es = (walk_many unit.forest.section (declarations_of table) (EntrySize table columns numbers unit.forest marked.lens) 0 (0 + (entries_at unit.head - unit.head.at)) bare.whole.items es ds marks.places.end (nothing_from (entries_at unit.head)) (listed_to (with_values unit.forest bare.values) bare.place) [] [] bare.whole.walked bare.placed).0 in
      omega arith

  all_ends : length unit.forest.ends ≡ length ds
  all_ends =
      let e : length unit.forest.ends ≡ 0 + length ds = (walk_many unit.forest.section (declarations_of table) (EntrySize table columns numbers unit.forest marked.lens) 0 (0 + (entries_at unit.head - unit.head.at)) bare.whole.items es ds marks.places.end (nothing_from (entries_at unit.head)) (listed_to (with_values unit.forest bare.values) bare.place) [] [] bare.whole.walked bare.placed).1 in
      omega arith

  -- so many entries stand before it
  before_few : (spot : Spot) → IsOne unit.forest spot → entries_before counts spot ≤ length unit.forest.entries
  before_few (TheEntry id) one = omega arith
  before_few (TheEnd number) one =
      let all : length unit.forest.ends ≡ length ds = all_ends in
      let many : length unit.forest.entries ≡ length es = all_entries in
      let within : get_or counts number 0 ≤ 0 + length es = rises.within number (omega arith) in
      omega arith
  before_few NoSpot one = absurd one

  has_spot : (spot : Spot) → IsOne unit.forest spot → HasSpot marks spot
  has_spot (TheEntry id) one =
      let many : length unit.forest.entries ≡ length es = all_entries in
      let long : length marks.slots_before.items ≡ suc (length unit.forest.entries) = marked.slots.count in
      (omega arith, omega arith)
  has_spot (TheEnd number) one =
      let all : length unit.forest.ends ≡ length ds = all_ends in
      let long : length marks.slots_before.items ≡ suc (length unit.forest.entries) = marked.slots.count in
      let same : length counts ≡ length ds = rises.counted in
      let few : get_or counts number 0 ≤ length unit.forest.entries = before_few (TheEnd number) one in
      (omega arith, omega arith, omega arith)
  has_spot NoSpot one = absurd one

  has_spot_for : (aim : Aim) (spot : Spot) → IsOneFor unit.forest aim spot → HasSpotFor marks aim spot
  has_spot_for (Place form n) spot one = has_spot spot one
  has_spot_for (Length fixed count) spot one = tt

  -- each slot has its spot
  pub have_spots : (spots : List Spot) → AreSpotsOf unit ops spots → HaveSpots marks 0 (aims_of unit.forest ops) spots
  have_spots spots are = record {
    inside = let many : length spots ≡ length (aims_of unit.forest ops) = spots_many unit ops spots are in omega arith;
    each = λ i lt. subst (λ (z : ℕ). HasSpotFor marks (aim_at (aims_of unit.forest ops) i) (spot_at spots z)) (let e : i ≡ 0 + i = omega arith in e) (has_spot_for (aim_at (aims_of unit.forest ops) i) (spot_at spots i) (spot_one unit ops spots are i lt));
  }

  pub have_list_spots : (more : List Aim) (lists : List ListSlot) → AreListSlots unit more lists → All (HasListSpot marks) lists
  have_list_spots more lists listed =
      let none : ListSlot = ListLength 0 0 in
      All-from_get_or (HasListSpot marks) lists none (λ j lt.
      let many : length lists ≡ length more = lists_many unit more lists listed in
      let slot : ListSlot = get_or lists j none in
      has_spot_for (list_aim slot) (list_spot slot) (list_own unit.forest unit.head.at (aim_at more j) slot (zip_at (IsListSlotFor unit.forest unit.head.at) more lists j (Length 0 0) none listed.each (omega (arith, lt, many)))))

  -- so many slots stand before it
  to_is : (spot : Spot) → IsOne unit.forest spot → get_or marks.slots_before.items (entries_before counts spot) 0 ≡ slots_before unit.forest ops (values_before unit.forest (entries_before counts spot))
  to_is spot one = marked.slots.each (entries_before counts spot) (before_few spot one)

  place_small : (spot : Spot) → IsOne unit.forest spot → spot_place es ds spot < 2 ^ 31
  place_small (TheEntry id) one =
      let many : length unit.forest.entries ≡ length es = all_entries in
      let most : get_or es id 0 ≤ marks.places.end = rises.highest id (omega arith) in
      let small : marks.places.end < 2 ^ 31 = marked.small in
      omega arith
  place_small (TheEnd number) one =
      let all : length unit.forest.ends ≡ length ds = all_ends in
      let most : get_or ds number 0 ≤ marks.places.end = rises.highest_end number (omega arith) in
      let small : marks.places.end < 2 ^ 31 = marked.small in
      omega arith
  place_small NoSpot one = absurd one

  module _ (one_size : OneSize) (valued : HaveValues unit.forest.entries (length unit.forest.values)) (sizes lens : List ℕ) (start : ℕ) (xs ys : List ℕ) (to : ℕ) (under : AreLensUnder unit.forest ops sizes lens) (full : IsPlacedAt unit table columns numbers lens start xs ys to) where
    -- the sizes of the slots of so many entries
    abbrev weight_to : ℕ → ℕ
    weight_to id = weight unit.forest ops sizes (values_before unit.forest id)

    placed : ArePlaced (EntrySize table columns numbers unit.forest lens) 0 bare.whole.items (start + (entries_at unit.head - unit.head.at)) xs ys to
    placed = subst (λ (z : List Item). ArePlaced (EntrySize table columns numbers unit.forest lens) 0 z (start + (entries_at unit.head - unit.head.at)) xs ys to) (same_items unit.forest (declarations_of table) (entries_at unit.head) full.place bare.place full.values bare.values full.whole bare.whole) full.placed

    up : Rises 0 (start + (entries_at unit.head - unit.head.at)) counts xs ys to
    up = places_rise (EntrySize table columns numbers unit.forest lens) (entry_some table columns numbers unit.forest lens) 0 (start + (entries_at unit.head - unit.head.at)) bare.whole.items counts xs ys to follow placed

    here : start + (entries_at unit.head - unit.head.at) ≡ start + (0 + (entries_at unit.head - unit.head.at)) + weight_to 0
    here = let nothing : weight_to 0 ≡ 0 = refl in omega arith

    moved : AreShifted start (λ k. weight_to (0 + k)) es xs × AreShifted start (λ k. weight_to (get_or counts k 0)) ds ys
    moved = shifted one_size table columns numbers unit.forest valued ops marked.lens sizes lens (are_added unit.forest ops sizes marked.lens lens marked.fixed under) start 0 (0 + (entries_at unit.head - unit.head.at)) (start + (entries_at unit.head - unit.head.at)) bare.whole.items counts es ds xs ys marks.places.end to follow bare.placed placed (let many : length unit.forest.entries ≡ length es = all_entries in omega arith) here

    -- its place is the one without slots, and the sizes of the slots before
    place_is : (spot : Spot) → IsOne unit.forest spot → spot_place xs ys spot ≡ start + spot_place es ds spot + weight_to (entries_before counts spot)
    place_is (TheEntry id) one =
        let many : length unit.forest.entries ≡ length es = all_entries in
        let long : length es ≡ length xs = moved.0.many in
        let same : weight_to (0 + id) ≡ weight_to id = ap weight_to (let e : 0 + id ≡ id = omega arith in e) in
        moved.0.each id (omega arith) ∙ ap (λ (z : ℕ). start + get_or es id 0 + z) same
    place_is (TheEnd number) one =
        let all : length unit.forest.ends ≡ length ds = all_ends in
        let long : length ds ≡ length ys = moved.1.many in
        moved.1.each number (omega arith)
    place_is NoSpot one = absurd one

    spot_before : (spot : Spot) → IsOne unit.forest spot → AreValuesBefore unit.forest xs (spot_place xs ys spot) (values_before unit.forest (entries_before counts spot))
    spot_before (TheEntry id) one =
        let many : length unit.forest.entries ≡ length es = all_entries in
        let long : length es ≡ length xs = moved.0.many in
        are_before unit.forest valued xs (get_or xs id 0) id (omega arith)
        (λ j lt less. elim (cases_lt j id) [
          | inl below ↦ below
          | inr above ↦ absurd (elim (cases_lt id j) [
            | inl more ↦ let rising : get_or xs id 0 < get_or xs j 0 = up.rising id j more (omega arith) in omega arith
            | inr most ↦ let same : get_or xs j 0 ≡ get_or xs id 0 = ap (λ (z : ℕ). get_or xs z 0) (let e : j ≡ id = omega arith in e) in omega arith
          ])
        ])
        (λ j lt less. elim (cases_lt j id) [
          | inl below ↦ absurd (let rising : get_or xs j 0 < get_or xs id 0 = up.rising j id below (omega arith) in omega arith)
          | inr above ↦ above
        ])
    spot_before (TheEnd number) one =
        let many : length unit.forest.entries ≡ length es = all_entries in
        let long : length es ≡ length xs = moved.0.many in
        let all : length unit.forest.ends ≡ length ds = all_ends in
        let there : length ds ≡ length ys = moved.1.many in
        are_before unit.forest valued xs (get_or ys number 0) (get_or counts number 0) (before_few (TheEnd number) one)
        (λ j lt less. elim (cases_lt j (get_or counts number 0)) [
          | inl below ↦ below
          | inr above ↦ absurd (let behind : get_or ys number 0 < get_or xs j 0 = up.behind number j (omega arith) (omega arith) (omega arith) in omega arith)
        ])
        (λ j lt less. elim (cases_lt j (get_or counts number 0)) [
          | inl below ↦ absurd (let before : get_or xs j 0 < get_or ys number 0 = up.before number j (omega arith) (omega arith) (omega arith) in omega arith)
          | inr above ↦ above
        ])
    spot_before NoSpot one = absurd one

    place_row : (spot : Spot) (i n : ℕ) (form : SlotForm) → IsOne unit.forest spot → IsPlaceRow unit.forest ops xs sizes start (spot_place xs ys spot) form (row_of (slot_for marks spot i (Place form n)))
    place_row spot i n form one = record {
      form_is = form_is form;
      from = refl;
      values = values_before unit.forest (entries_before counts spot);
      before = spot_before spot one;
      to = to_is spot one;
      number =
          let number : ℕ = get_or marks.slots_before.items (entries_before counts spot) 0 in
          let range : sum (slice_range sizes 0 number) ≡ weight_to (entries_before counts spot) = whole_range sizes number ∙ ap (λ (z : ℕ). sum (take z sizes)) (to_is spot one) in
          let place = place_is spot one in
          omega (arith, range, place);
    }

    is_row : (aim : Aim) (spot : Spot) (i : ℕ) → IsOneFor unit.forest aim spot → IsRowOf unit.forest ops xs sizes start (spot_place xs ys spot) i aim (row_of (slot_for marks spot i aim))
    is_row (Place form n) spot i one = place_row spot i n form one
    is_row (Length fixed count) spot i one = refl

  -- a slot counts no slots but those that there are
  range_inside : (aim : Aim) (spot : Spot) (i all : ℕ) → HaveValues unit.forest.entries (length unit.forest.values) → IsOneFor unit.forest aim spot → length (aims_of unit.forest ops) ≤ all → i < all → IsWithin (2 ^ 31) (all - suc i) aim → ((row_of (slot_for marks spot i aim)).from ≤ (row_of (slot_for marks spot i aim)).to) × ((row_of (slot_for marks spot i aim)).to ≤ all)
  range_inside (Place form n) spot i all valued one own lt within =
      let to : get_or marks.slots_before.items (entries_before counts spot) 0 ≡ slots_before unit.forest ops (values_before unit.forest (entries_before counts spot)) = to_is spot one in
      let few : values_before unit.forest (entries_before counts spot) ≤ length unit.forest.values = before_inside unit.forest valued (entries_before counts spot) (before_few spot one) in
      let most : slots_before unit.forest ops (values_before unit.forest (entries_before counts spot)) ≤ slots_before unit.forest ops (length unit.forest.values) = slots_up unit.forest ops (values_before unit.forest (entries_before counts spot)) (length unit.forest.values) few in
      (omega arith, omega (arith, to, most, own))
  range_inside (Length fixed count) spot i all valued one own lt (small, few) = (omega arith, omega (arith, few, lt))

  fixed_small : (aim : Aim) (spot : Spot) (i left : ℕ) → IsOneFor unit.forest aim spot → IsWithin (2 ^ 31) left aim → (row_of (slot_for marks spot i aim)).fixed < 2 ^ 31
  fixed_small (Place form n) spot i left one within = place_small spot one
  fixed_small (Length fixed count) spot i left one (small, few) = small

  module _ (more : List Aim) (spots : List Spot) (lists : List ListSlot) (are : AreSpotsOf unit ops spots) (listed : AreListSlots unit more lists) (slots : List Slot) (made : AreSlotsMade marks (all_spots spots lists) (aims_of unit.forest ops ++ more) slots) where
    -- the aims of all slots, and what they name
    abbrev aims : List Aim
    aims = aims_of unit.forest ops ++ more

    abbrev named : ℕ → Spot
    named i = spot_at (all_spots spots lists) i

    one_at : (i : ℕ) → i < length aims → IsOneFor unit.forest (aim_at aims i) (named i)
    one_at i lt = both_one unit ops more spots lists are listed i lt

    rows_many : length (rows_of slots) ≡ length aims
    rows_many = length-map slots row_of ∙ made.count

    row_is : (i : ℕ) → i < length aims → row_at (rows_of slots) i ≡ row_of (slot_for marks (named i) i (aim_at aims i))
    row_is i lt =
        let d : Slot = record { kind = TheUleb; fixed = 0; from = 0; to = 0 } in
        get_or-map row_of slots i d _ (subst (λ (z : ℕ). i < z) (sym made.count) lt) ∙ ap row_of (made.each i d lt)

    pub are_slots : OneSize → HaveValues unit.forest.entries (length unit.forest.values) → AreSlots unit table columns numbers ops more (all_spots spots lists) (rows_of slots)
    are_slots one_size valued = record {
      count = rows_many;
      each = λ sizes lens start xs ys to long under full i lt.
          let known : i < length aims = subst (λ (z : ℕ). i < z) rows_many lt in
          subst (λ (z : SlotRow). IsRowOf unit.forest ops xs sizes start (spot_place xs ys (named i)) i (aim_at aims i) z) (sym (row_is i known)) (is_row one_size valued sizes lens start xs ys to under full (aim_at aims i) (named i) i (one_at i known));
    }

    module _ (own_within : AreWithin (2 ^ 31) (aims_of unit.forest ops)) where
      within : AreWithin (2 ^ 31) aims
      within = within_append (2 ^ 31) (aims_of unit.forest ops) more own_within (lists_within unit more lists listed)

      pub ranges_inside : HaveValues unit.forest.entries (length unit.forest.values) → HasRangesInside (rows_of slots)
      ranges_inside valued i lt =
          let known : i < length aims = subst (λ (z : ℕ). i < z) rows_many lt in
          let own : length (aims_of unit.forest ops) ≤ length aims = let both = length-append (aims_of unit.forest ops) more in omega (arith, both) in
          let inside = range_inside (aim_at aims i) (named i) i (length aims) valued (one_at i known) own known (within_at (2 ^ 31) aims i within known) in
          let here = subst (λ (z : SlotRow). (z.from ≤ z.to) × (z.to ≤ length aims)) (sym (row_is i known)) inside in
          (here.0, subst (λ (z : ℕ). (row_at (rows_of slots) i).to ≤ z) (sym rows_many) here.1)

      pub small_fixed : HasSmallFixed (rows_of slots)
      small_fixed i lt =
          let known : i < length aims = subst (λ (z : ℕ). i < z) rows_many lt in
          subst (λ (z : SlotRow). z.fixed < 2 ^ 31) (sym (row_is i known)) (fixed_small (aim_at aims i) (named i) i (length aims - suc i) (one_at i known) (within_at (2 ^ 31) aims i within known))
