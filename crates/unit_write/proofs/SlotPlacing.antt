-- A unit that is placed under sizes of its slots: where the marks and the sizes are enough for it, and how far it reaches.
use Rattle.std.proofs.Common.{◌≡◌, ◌≤◌, ◌<◌, ◌+◌, ◌-◌, ◌^◌, ℕ, suc, List, [], ◌∷◌, ◌++◌, length, get_or, take, sum, add-one, sym, ap, refl, subst, arith, inl, inr}
use Rattle.std.specs.List.{All, AllZip}
use Rattle.std.proofs.lemmas.List.Elements.{All-from_get_or}
use Rattle.form_codec.specs.declared.value.Value.{Value}
use Rattle.abbrev_tables.specs.declared.decl.Spec.{Spec}
use Rattle.abbrev_tables.specs.Listings.{Listing}
use Rattle.expr_ops.specs.Expressions.{Operation}
use Rattle.entry_arena.specs.Arena.{Arena, with_values}
use Rattle.entry_arena.specs.Order.{HaveValues}
use Rattle.entry_arena.specs.Trees.{Listed, listed_to, nothing_from}
use Rattle.entry_arena.specs.Walks.{Item, opened}
use Rattle.entry_arena.specs.Walks.Item.{AnEntry, AnEnd}
use Rattle.entry_arena.specs.Onward.{HasWalked}
use Rattle.entry_arena.proofs.OnwardLaws.{walks_go_on}
use Rattle.entry_read.specs.Slots.{aims_of, slots_before}
use Rattle.entry_read.specs.Units.{HeadAndForest, entries_at, end_of, declarations_of}
use Rattle.unit_write.specs.declared.marks.Marks.{Marks}
use Rattle.unit_write.specs.declared.places.Places.{Places}
use Rattle.unit_write.specs.Lens.{AreLensFor, AreLensUnder}
use Rattle.unit_write.specs.Most.{most_bytes}
use Rattle.unit_write.specs.Taken.{StandsFor}
use Rattle.unit_write.specs.Values.{OneSize}
use Rattle.unit_write.specs.Placing.{EntrySize, ArePlaced}
use Rattle.unit_write.specs.Moved.{IsWritable, IsPlacedAt}
use Rattle.unit_write.specs.inside.Marks.{values_before, AreMarks, TakesSizes, ArePlacesWith}
use Rattle.unit_write.proofs.PlacingUnit.{IsAtMost, most_of, none_come, none_most, entry_keeps, end_keeps}
use Rattle.unit_write.proofs.SlotAims.{slots_up}
use Rattle.unit_write.proofs.SlotPlaces.{Rises, AreShifted, placed_shifted}
use Rattle.unit_write.proofs.SlotRows.{follow, rises, all_entries}
use Rattle.unit_write.proofs.SlotSizes.{before_inside, weight, are_added}
use Rattle.unit_write.proofs.SlotWalks.{same_items, same_tails, other_items, some_items}
use Rattle.unit_write.proofs.Standing.{whole_walk}
use Rattle.unit_write.proofs.TakenUnits.{have_values}
use Rattle.unit_write.proofs.ValueLaws.{one_size}

-- HOW FAR IT REACHES

module _ (unit : HeadAndForest) (table : Listing) (columns : List Spec) (numbers lens : List ℕ) (start : ℕ) (writable : IsWritable unit table columns numbers lens) (few : AreLensFor unit.forest lens) (small : All (λ (number : ℕ). number < 2 ^ 32) numbers) where
  abbrev Size : ℕ → ℕ → Type 0
  Size = EntrySize table columns numbers unit.forest lens

  module _ (values : List Value) (taken : AllZip (StandsFor unit.head) values unit.forest.values) (place : ℕ) (inside : place ≤ end_of unit.head) where
    abbrev HasCome : ℕ → ℕ → List Item → Listed → List ℕ → List Item → Type 0
    HasCome entries ends done now chains rest = HasWalked unit.forest.section (declarations_of table) (entries_at unit.head) (listed_to (with_values unit.forest values) place) entries ends done now chains rest

    -- what is left of the walk ends within what the unit has at most
    rest_most : (entries ends : ℕ) (done : List Item) (now : Listed) (chains : List ℕ) (rest : List Item) (at : ℕ) (xs ys : List ℕ) (to : ℕ) → HasCome entries ends done now chains rest → ArePlaced Size entries rest at xs ys to → IsAtMost unit start now at → to ≤ start + most_bytes unit
    rest_most entries ends done now chains [] at [] [] to w p most =
        let here : at ≤ start + most_bytes unit = most_of unit table columns numbers lens start values place entries ends done now chains [] at taken w inside most in
        subst (λ (z : ℕ). z ≤ start + most_bytes unit) p here
    rest_most entries ends done now chains [] at (x ∷ xs) ys to w p most = absurd p
    rest_most entries ends done now chains [] at [] (y ∷ ys) to w p most = absurd p
    rest_most entries ends done now chains (AnEntry number ∷ later) at [] ys to w p most = absurd p
    rest_most entries ends done now chains (AnEntry number ∷ later) at (x ∷ xs) ys to w (here, (size, sized, more)) most =
        elim ((walks_go_on unit.forest.section (declarations_of table) (entries_at unit.head) (listed_to (with_values unit.forest values) place) entries ends done now chains (AnEntry number ∷ later) w).cases) [
          | inl e ↦
              let onward = subst (λ (z : List Item). HasCome (entries + 1) ends (done ++ AnEntry e.number ∷ []) e.mid (opened (declarations_of table) e.number entries chains) z) (sym (same_tails (AnEntry number) (AnEntry e.number) later e.later e.rest_is)) e.next in
              let keeps = entry_keeps unit table columns numbers lens start values place entries ends done now chains (AnEntry number ∷ later) at size taken e writable few small sized most in
              rest_most (entries + 1) ends (done ++ AnEntry e.number ∷ []) e.mid (opened (declarations_of table) e.number entries chains) later (at + size) xs ys to onward (subst (λ (n : ℕ). ArePlaced Size n later (at + size) xs ys to) (sym (add-one entries)) more) keeps
          | inr (inl e) ↦ absurd (other_items number later e.later e.rest_is)
          | inr (inr e) ↦ absurd (some_items (AnEntry number) later e.rest_is)
        ]
    rest_most entries ends done now chains (AnEnd ∷ later) at xs [] to w p most = absurd p
    rest_most entries ends done now chains (AnEnd ∷ later) at xs (y ∷ ys) to w (here, more) most =
        elim ((walks_go_on unit.forest.section (declarations_of table) (entries_at unit.head) (listed_to (with_values unit.forest values) place) entries ends done now chains (AnEnd ∷ later) w).cases) [
          | inl e ↦ absurd (other_items e.number e.later later (sym e.rest_is))
          | inr (inl e) ↦
              let onward = subst (λ (z : List Item). HasCome entries (ends + 1) (done ++ AnEnd ∷ []) e.mid e.outer z) (sym (same_tails AnEnd AnEnd later e.later e.rest_is)) e.next in
              let keeps = end_keeps unit table columns numbers lens start values place entries ends done now chains (AnEnd ∷ later) at e most in
              rest_most entries (ends + 1) (done ++ AnEnd ∷ []) e.mid e.outer later (at + 1) xs ys to onward more keeps
          | inr (inr e) ↦ absurd (some_items AnEnd later e.rest_is)
        ]

  -- a unit that is placed ends within what it has at most
  pub placed_most : (xs ys : List ℕ) (to : ℕ) → IsPlacedAt unit table columns numbers lens start xs ys to → to ≤ start + most_bytes unit
  placed_most xs ys to p =
      let at : ℕ = start + (entries_at unit.head - unit.head.at) in
      let held = writable.held in
      let whole = whole_walk unit table held in
      let same = same_items unit.forest (declarations_of table) (entries_at unit.head) p.place held.held.0 p.values held.values p.whole whole in
      let placed = subst (λ (z : List Item). ArePlaced Size 0 z at xs ys to) same p.placed in
      rest_most held.values held.taken held.held.0 held.held.1.inside 0 0 [] (nothing_from (entries_at unit.head)) [] whole.items at xs ys to (none_come unit table columns numbers lens start held) placed (none_most unit table columns numbers lens start at (omega arith))

-- MARKS AND SIZES

module _ (unit : HeadAndForest) (table : Listing) (columns : List Spec) (numbers : List ℕ) (ops : ℕ → List Operation) (marks : Marks) (marked : AreMarks unit table columns numbers ops marks) (valued : HaveValues unit.forest.entries (length unit.forest.values)) where
  abbrev f : Arena
  f = unit.forest

  abbrev es : List ℕ
  es = marks.places.entries.items

  abbrev ds : List ℕ
  ds = marks.places.ends.items

  abbrev counts : List ℕ
  counts = marks.entries_before.items

  abbrev slots : List ℕ
  slots = marks.slots_before.items

  -- the marks rise, and there is one for each entry
  rising : Rises 0 (0 + (entries_at unit.head - unit.head.at)) counts es ds marks.places.end
  rising = rises unit table columns numbers ops marks marked

  many : length f.entries ≡ length es
  many = all_entries unit table columns numbers ops marks marked

  -- no count is more than all slots of the unit
  counted_few : (k : ℕ) → k < length slots → get_or slots k 0 ≤ length (aims_of f ops)
  counted_few k lt =
      let long : length slots ≡ suc (length f.entries) = marked.slots.count in
      let is : get_or slots k 0 ≡ slots_before f ops (values_before f k) = marked.slots.each k (omega arith) in
      let inside : values_before f k ≤ length f.values = before_inside f valued k (omega arith) in
      let up : slots_before f ops (values_before f k) ≤ slots_before f ops (length f.values) = slots_up f ops (values_before f k) (length f.values) inside in
      omega (arith, is, up)

  -- and counts rise
  counted_rise : (k : ℕ) → suc k < length slots → get_or slots k 0 ≤ get_or slots (suc k) 0
  counted_rise k lt =
      let long : length slots ≡ suc (length f.entries) = marked.slots.count in
      let is : get_or slots k 0 ≡ slots_before f ops (values_before f k) = marked.slots.each k (omega arith) in
      let next : get_or slots (suc k) 0 ≡ slots_before f ops (values_before f (suc k)) = marked.slots.each (suc k) (omega arith) in
      let up : slots_before f ops (values_before f k) ≤ slots_before f ops (values_before f (suc k)) = slots_up f ops (values_before f k) (values_before f (suc k)) (omega arith) in
      omega (arith, is, next, up)

  -- sizes of all slots of the unit can be added to the marks
  pub takes_sizes : (sizes : List ℕ) → length (aims_of f ops) ≤ length sizes → TakesSizes marks sizes
  takes_sizes sizes enough = record {
    counts = record {
      rising = counted_rise;
      inside = All-from_get_or (λ (count : ℕ). count ≤ length sizes) slots 0 (λ k lt. let own = counted_few k lt in omega (arith, own, enough));
    };
    each = let long : length slots ≡ suc (length f.entries) = marked.slots.count in omega (arith, long, many);
    each_end = rising.counted;
    within = All-from_get_or (λ (count : ℕ). count ≤ length es) counts 0 (λ k lt.
        let counted : length counts ≡ length ds = rising.counted in
        let within : get_or counts k 0 ≤ 0 + length es = rising.within k (omega arith) in
        omega arith);
    small = marked.small;
    entries_small = All-from_get_or (λ (place : ℕ). place < 2 ^ 31) es 0 (λ k lt.
        let high : get_or es k 0 ≤ marks.places.end = rising.highest k lt in
        let small : marks.places.end < 2 ^ 31 = marked.small in
        omega arith);
    ends_small = All-from_get_or (λ (place : ℕ). place < 2 ^ 31) ds 0 (λ k lt.
        let high : get_or ds k 0 ≤ marks.places.end = rising.highest_end k lt in
        let small : marks.places.end < 2 ^ 31 = marked.small in
        omega arith);
  }

  module _ (one : OneSize) (sizes lens : List ℕ) (under : AreLensUnder f ops sizes lens) (sized : (id : ℕ) → id < length f.entries → (size : ℕ) × EntrySize table columns numbers f lens id size) (places : Places) (with : ArePlacesWith marks sizes places) where
    -- the sizes of the slots of so many entries
    abbrev weight_to : ℕ → ℕ
    weight_to id = weight f ops sizes (values_before f id)

    -- which are those before the entry with this number
    size_is : (id : ℕ) → id ≤ length f.entries → sum (take (get_or slots id 0) sizes) ≡ weight_to id
    size_is id few = ap (λ (z : ℕ). sum (take z sizes)) (marked.slots.each id few)

    -- so each place is the mark and the sizes of the slots before it
    entries_shifted : AreShifted 0 (λ k. weight_to (0 + k)) es places.entries.items
    entries_shifted = record {
      many = sym with.entries_many;
      each = λ k lt.
          let long : length places.entries.items ≡ length es = with.entries_many in
          let is : get_or places.entries.items k 0 ≡ get_or es k 0 + sum (take (get_or slots k 0) sizes) = with.entries k (omega arith) in
          let size : sum (take (get_or slots k 0) sizes) ≡ weight_to k = size_is k (omega (arith, long, lt, many)) in
          let same : weight_to (0 + k) ≡ weight_to k = ap weight_to (let e : 0 + k ≡ k = omega arith in e) in
          omega (arith, is, size, same);
    }

    ends_shifted : AreShifted 0 (λ k. weight_to (get_or counts k 0)) ds places.ends.items
    ends_shifted = record {
      many = sym with.ends_many;
      each = λ k lt.
          let long : length places.ends.items ≡ length ds = with.ends_many in
          let is : get_or places.ends.items k 0 ≡ get_or ds k 0 + sum (take (get_or slots (get_or counts k 0) 0) sizes) = with.ends k (omega arith) in
          let within : get_or counts k 0 ≤ 0 + length es = rising.within k (omega arith) in
          let size : sum (take (get_or slots (get_or counts k 0) 0) sizes) ≡ weight_to (get_or counts k 0) = size_is (get_or counts k 0) (omega (arith, within, many)) in
          omega (arith, is, size);
    }

    -- with them the unit is placed
    pub placed_with : IsPlacedAt unit table columns numbers lens 0 places.entries.items places.ends.items places.end
    placed_with =
        let bare = marked.placed in
        let at : ℕ = 0 + (entries_at unit.head - unit.head.at) in
        let nothing : weight_to 0 ≡ 0 = refl in
        let last : places.end ≡ marks.places.end + sum (take (get_or slots (length es) 0) sizes) = with.end in
        let size : sum (take (get_or slots (length es) 0) sizes) ≡ weight_to (length es) = size_is (length es) (omega (arith, many)) in
        let all : weight_to (length es) ≡ weight_to (length f.entries) = ap weight_to (sym many) in
        let end : places.end ≡ 0 + marks.places.end + weight_to (length f.entries) = omega (arith, last, size, all) in
        record {
          place = bare.place;
          values = bare.values;
          whole = bare.whole;
          placed = placed_shifted one table columns numbers f valued ops marked.lens sizes lens (are_added f ops sizes marked.lens lens marked.fixed under) 0 sized 0 at at bare.whole.items counts es ds places.entries.items places.ends.items marks.places.end places.end (follow unit table columns numbers ops marks marked) bare.placed (entries_shifted, ends_shifted) (omega (arith, many)) (omega (arith, nothing)) end;
        }

-- SIZES THAT WERE SOLVED

-- a unit that is to be written is placed with them
pub laid_places : (unit : HeadAndForest) (table : Listing) (columns : List Spec) (numbers : List ℕ) (ops : ℕ → List Operation) (marks : Marks) → AreMarks unit table columns numbers ops marks → (sizes lent lens : List ℕ) → AreLensUnder unit.forest ops sizes lens → IsWritable unit table columns numbers lens → (places : Places) → lent ≡ sizes → ArePlacesWith marks lent places → IsPlacedAt unit table columns numbers lens 0 places.entries.items places.ends.items places.end
laid_places unit table columns numbers ops marks marked sizes lent lens under writable places same with =
    placed_with unit table columns numbers ops marks marked (have_values unit table writable.held) one_size sizes lens under writable.sized places (subst (λ (z : List ℕ). ArePlacesWith marks z places) same with)
