-- The sizes of the slots of a unit's values, entry by entry, and how many slots stand before each entry.
use Rattle.std.proofs.Common.{◌≡◌, ◌≤◌, ◌<◌, ◌+◌, ◌∙◌, ◌++◌, ℕ, zero, suc, List, [], ◌∷◌, length, get_or, take, sum, sym, ap, subst, refl, arith, inl, inr}
use Rattle.std.specs.Prelude.{slice_index}
use Rattle.std.proofs.lemmas.Bool.{cases_lt}
use Rattle.std.proofs.lemmas.List.{length-append, take-append-le, take_all, get_or_append_left, get_or-append-add}
use Rattle.slot_layout.specs.Rows.{most_slots}
use Rattle.std.specs.List.{AllZip}
use Rattle.expr_ops.specs.Expressions.{Operation}
use Rattle.entry_arena.specs.Arena.{entry_at}
use Rattle.entry_arena.specs.Operations.{HeldOps}
use Rattle.entry_read.specs.Places.{HaveOwners, LiesInUnit}
use Rattle.entry_read.specs.Slots.{aims_before, meaning_at, slots_before}
use Rattle.entry_read.specs.Units.{IsUnitHeld}
use Rattle.entry_read.proofs.OwnerLaws.{values_belong}
use Rattle.entry_read.proofs.PlaceLaws.{units_lie}
use Rattle.value_links.specs.Reading.{UnitRead, declarations}
use Rattle.value_links.specs.Values.{entry_of}
use Rattle.unit_slots.specs.inside.Added.{GoesOn}
use Rattle.unit_slots.specs.inside.Own.{operations_by, AreSizesBefore, AreStarts, AreOwn}
use Rattle.unit_slots.proofs.EntrySizes.{none_before}

zip_long : {X Y : Type 0} (R : X → Y → Type 0) (xs : List X) (ys : List Y) → AllZip R xs ys → length ys ≡ length xs
zip_long R [] [] zip = refl
zip_long R [] (y ∷ ys) zip = absurd zip
zip_long R (x ∷ xs) [] zip = absurd zip
zip_long R (x ∷ xs) (y ∷ ys) (one, rest) = ap suc (zip_long R xs ys rest)

module _ (unit : UnitRead) (ops : ℕ → List Operation) where
  -- So many slots stand before each of the first entries. Those of an entry and of all before it lie in the unit up to the entry's end.
  pub record HaveStarts (i : ℕ) (sizes starts : List ℕ) : Type 0 where
    pub counted : length starts ≡ i
    pub each : (id : ℕ) → id < i → slice_index starts id ≡ slots_before unit.forest ops (entry_of unit id).first
    pub few : (id : ℕ) → id < i → slots_before unit.forest ops ((entry_of unit id).first + (entry_of unit id).count) ≤ length sizes
    pub room : (id : ℕ) → id < i → unit.head.at + sum (take (slots_before unit.forest ops ((entry_of unit id).first + (entry_of unit id).count)) sizes) ≤ (entry_of unit id).at + (entry_of unit id).len

  -- the values of the first so many entries have these sizes
  pub record IsCome (i : ℕ) (sizes starts : List ℕ) : Type 0 where
    pub count : ℕ
    pub sized : AreSizesBefore unit ops count sizes
    pub next : i < length unit.forest.entries → count ≡ (entry_of unit i).first
    pub whole : i ≡ length unit.forest.entries → count ≡ length unit.forest.values
    pub begun : HaveStarts i sizes starts
    pub reach : i < length unit.forest.entries → unit.head.at + sum sizes ≤ (entry_of unit i).at

  counted_slots : (n : ℕ) (sizes : List ℕ) → AreSizesBefore unit ops n sizes → length sizes ≡ slots_before unit.forest ops n
  counted_slots n sizes are = zip_long _ (aims_before (meaning_at unit.forest) ops n) sizes are.can

  module _ (held : IsUnitHeld unit.forest.section unit.head (declarations unit) unit.forest) where
    owners : HaveOwners (declarations unit) unit.forest
    owners = values_belong unit.forest.section unit.head (declarations unit) unit.forest refl held

    lies : LiesInUnit unit.head unit.forest
    lies = units_lie unit.forest.section unit.head (declarations unit) unit.forest refl held

    nothing : (n : ℕ) → ((k : ℕ) → k < n → ⊥) → 0 ≡ n
    nothing zero none = refl
    nothing (suc n) none = absurd (none n (omega arith))

    pub come_none : IsCome 0 [] []
    come_none = record {
      count = 0;
      sized = none_before unit ops;
      next = λ some. sym owners.first;
      whole = λ none. nothing (length unit.forest.values) (λ k known. let (id, inside, from, to) = owners.owned k known in absurd (omega (arith, none, inside)));
      begun = record { counted = refl; each = λ id less. absurd (omega (arith, less)); few = λ id less. absurd (omega (arith, less)); room = λ id less. absurd (omega (arith, less)) };
      reach = λ some. let place = (lies.entries 0 (entry_of unit 0).at (some, refl)).0 in omega (arith, place);
    }

    module _ (i : ℕ) (inside : i < length unit.forest.entries) (sizes starts new last : List ℕ) (come : IsCome i sizes starts) (start : last ≡ starts ++ length sizes ∷ []) (sized : AreSizesBefore unit ops ((entry_of unit i).first + (entry_of unit i).count) new) (more : GoesOn sizes new) (room : sum new ≤ sum sizes + (entry_of unit i).len) where
      long : length new ≡ length sizes + length more.added
      long = ap length more.behind ∙ length-append sizes more.added

      each_on : (id : ℕ) → id < i + 1 → slice_index last id ≡ slots_before unit.forest ops (entry_of unit id).first
      each_on id less = elim (cases_lt id i) [
        | inl before ↦
            let counted = come.begun.counted in
            ap (λ (z : List ℕ). get_or z id 0) start ∙ get_or_append_left starts (length sizes ∷ []) 0 id (omega (arith, before, counted)) ∙ come.begun.each id before
        | inr behind ↦
            let counted = come.begun.counted in
            let is : id ≡ i = omega (arith, less, behind) in
            let place : id ≡ length starts + 0 = omega (arith, is, counted) in
            let here : slice_index last id ≡ length sizes = ap (λ (z : List ℕ). get_or z id 0) start ∙ ap (λ (n : ℕ). get_or (starts ++ length sizes ∷ []) n 0) place ∙ get_or-append-add starts (length sizes ∷ []) 0 0 in
            here ∙ counted_slots come.count sizes come.sized ∙ ap (slots_before unit.forest ops) (come.next inside) ∙ ap (λ (n : ℕ). slots_before unit.forest ops (entry_of unit n).first) (sym is)
      ]

      abbrev behind_of : ℕ → ℕ
      behind_of id = slots_before unit.forest ops ((entry_of unit id).first + (entry_of unit id).count)

      own : length new ≡ behind_of i
      own = counted_slots ((entry_of unit i).first + (entry_of unit i).count) new sized

      few_on : (id : ℕ) → id < i + 1 → behind_of id ≤ length new
      few_on id less = elim (cases_lt id i) [
        | inl before ↦ let few = come.begun.few id before in let size = long in omega (arith, few, size)
        | inr behind ↦
            let is : id ≡ i = omega (arith, less, behind) in
            let all : length new ≡ behind_of id = own ∙ ap behind_of (sym is) in
            omega (arith, all)
      ]

      room_on : (id : ℕ) → id < i + 1 → unit.head.at + sum (take (behind_of id) new) ≤ (entry_of unit id).at + (entry_of unit id).len
      room_on id less = elim (cases_lt id i) [
        | inl before ↦
            let same : take (behind_of id) new ≡ take (behind_of id) sizes = ap (take (behind_of id)) more.behind ∙ take-append-le (behind_of id) sizes more.added (come.begun.few id before) in
            subst (λ (z : List ℕ). unit.head.at + sum z ≤ (entry_of unit id).at + (entry_of unit id).len) (sym same) (come.begun.room id before)
        | inr behind ↦
            let is : id ≡ i = omega (arith, less, behind) in
            let all : take (behind_of i) new ≡ new = take_all (behind_of i) new (let size = own in omega (arith, size)) in
            let reach = come.reach inside in
            let fits : unit.head.at + sum new ≤ (entry_of unit i).at + (entry_of unit i).len = omega (arith, reach, room) in
            subst (λ (n : ℕ). unit.head.at + sum (take (behind_of n) new) ≤ (entry_of unit n).at + (entry_of unit n).len) (sym is) (subst (λ (z : List ℕ). unit.head.at + sum z ≤ (entry_of unit i).at + (entry_of unit i).len) (sym all) fits)
      ]

      pub come_more : IsCome (i + 1) new last
      come_more = record {
        count = (entry_of unit i).first + (entry_of unit i).count;
        sized = sized;
        next = λ some. sym (owners.adjacent i some);
        whole = λ all. owners.last i all;
        begun = record {
          counted = (let counted = come.begun.counted in let size : length last ≡ length starts + 1 = ap length start ∙ length-append starts (length sizes ∷ []) in omega (arith, counted, size));
          each = each_on;
          few = few_on;
          room = room_on;
        };
        reach = λ some.
            let rises = lies.order.entered.rising i (i + 1) (omega arith) some in
            let reach = come.reach inside in
            omega (arith, reach, room, rises);
      }

    -- ALL ENTRIES

    module _ (i : ℕ) (all : i ≡ length unit.forest.entries) (sizes starts last : List ℕ) (come : IsCome i sizes starts) (start : last ≡ starts ++ length sizes ∷ []) where
      whole : come.count ≡ length unit.forest.values
      whole = come.whole all

      slots : length sizes ≡ slots_before unit.forest ops (length unit.forest.values)
      slots = counted_slots come.count sizes come.sized ∙ ap (slots_before unit.forest ops) whole

      each_start : (id : ℕ) → id < length unit.forest.entries → slice_index last id ≡ slots_before unit.forest ops (entry_at unit.forest.entries id).first
      each_start id inside =
          let counted = come.begun.counted in
          ap (λ (z : List ℕ). get_or z id 0) start ∙ get_or_append_left starts (length sizes ∷ []) 0 id (omega (arith, inside, all, counted)) ∙ come.begun.each id (omega (arith, inside, all))

      last_start : slice_index last (length unit.forest.entries) ≡ length sizes
      last_start =
          let counted = come.begun.counted in
          let place : length unit.forest.entries ≡ length starts + 0 = omega (arith, all, counted) in
          ap (λ (z : List ℕ). get_or z (length unit.forest.entries) 0) start ∙ ap (λ (n : ℕ). get_or (starts ++ length sizes ∷ []) n 0) place ∙ get_or-append-add starts (length sizes ∷ []) 0 0

      -- the slots of an entry end where those of the next one begin
      next_start : (id : ℕ) → id < length unit.forest.entries → slice_index last (suc id) ≡ slots_before unit.forest ops ((entry_of unit id).first + (entry_of unit id).count)
      next_start id inside = elim (cases_lt (suc id) (length unit.forest.entries)) [
        | inl less ↦
            let adjacent : (entry_of unit (id + 1)).first ≡ (entry_of unit id).first + (entry_of unit id).count = owners.adjacent id (omega (arith, less)) in
            each_start (suc id) less ∙ ap (λ (n : ℕ). slots_before unit.forest ops (entry_of unit n).first) (one_on id) ∙ ap (slots_before unit.forest ops) adjacent
        | inr most ↦
            let is : suc id ≡ length unit.forest.entries = omega (arith, inside, most) in
            let last_one : (entry_of unit id).first + (entry_of unit id).count ≡ length unit.forest.values = owners.last id (omega (arith, is)) in
            ap (slice_index last) is ∙ last_start ∙ slots ∙ ap (slots_before unit.forest ops) (sym last_one)
      ]
        where
          one_on : (n : ℕ) → suc n ≡ n + 1
          one_on n = omega arith

      room_all : (id : ℕ) → id < length unit.forest.entries → unit.head.at + sum (take (slice_index last (suc id)) sizes) ≤ (entry_at unit.forest.entries id).at + (entry_at unit.forest.entries id).len
      room_all id inside =
          subst (λ (n : ℕ). unit.head.at + sum (take n sizes) ≤ (entry_at unit.forest.entries id).at + (entry_at unit.forest.entries id).len) (sym (next_start id inside)) (come.begun.room id (omega (arith, inside, all)))

      starts_are : AreStarts (record { head = unit.head; forest = unit.forest }) ops sizes last
      starts_are = record {
        counted = (let counted = come.begun.counted in let size : length last ≡ length starts + 1 = ap length start ∙ length-append starts (length sizes ∷ []) in omega (arith, counted, size, all));
        each = each_start;
        last = last_start ∙ slots;
        whole = slots;
        room = room_all;
      }

      sized_all : AreSizesBefore unit ops (length unit.forest.values) sizes
      sized_all = subst (λ (n : ℕ). AreSizesBefore unit ops n sizes) whole come.sized

-- what is held of all entries
pub all_own : (unit : UnitRead) (ops : HeldOps) → IsUnitHeld unit.forest.section unit.head (declarations unit) unit.forest → (i : ℕ) → i ≡ length unit.forest.entries → (sizes starts last : List ℕ) → IsCome unit (operations_by unit ops) i sizes starts → last ≡ starts ++ length sizes ∷ [] → length sizes ≤ most_slots → AreOwn unit ops sizes last
all_own unit ops held i all sizes starts last come start few =
    let sized = sized_all unit (operations_by unit ops) held i all sizes starts last come start in
    record {
      are = record { each = sized.each; count = sized.counted; are = λ number known. sized.are number known; whole = sized.whole };
      can = sized.can;
      few = few;
      begin = starts_are unit (operations_by unit ops) held i all sizes starts last come start;
    }
