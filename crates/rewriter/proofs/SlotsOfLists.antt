-- The slots of the location lists that a unit owns, as they are found one after the other.
use Rattle.std.proofs.Common.{◌≡◌, ◌≢◌, ◌≤◌, ◌<◌, ◌+◌, ◌-◌, ◌*◌, ◌^◌, ◌++◌, ◌∙◌, inl, inr, Bool, true, false, ℕ, zero, suc, List, [], ◌∷◌, length, get_or, take, drop, cond, sym, ap, subst, refl, arith}
use Prim.Native.Nat.{min}
use Rattle.std.specs.Prelude.{Some, flat_map}
use Rattle.std.specs.List.{All, AllZip, Contains, sum_by}
use Rattle.std.proofs.lemmas.Bool.{cases_lt}
use Rattle.std.proofs.lemmas.Grind.{flat_map-append}
use Rattle.std.proofs.lemmas.List.{append_assoc, append-nil, length-append, length-take, length-map, drop-map, take_more, take-take, take_all, get_or_append_left, get_or-append_right}
use Rattle.std.proofs.lemmas.List.Concat.{length-flat_map}
use Rattle.std.proofs.lemmas.List.Elements.{All-from_get_or}
use Rattle.std.proofs.lemmas.List.Sums.{sum_by-append, sum_by-cons, sum_by_more, sum_by-take-le, get_or-le-sum_by, length-filter, count_by-le-length}
use Rattle.dw_base.specs.declared.fault.Reach.TheVariants.{Narrow}
use Rattle.leb_codec.specs.Layout.{uleb, call}
use Rattle.slot_layout.specs.declared.slots.SlotKind.TheVariants.{Uleb, Call}
use Rattle.expr_ops.specs.declared.op.Op.{Op}
use Rattle.expr_ops.specs.Expressions.{Operation, IsExpression}
use Rattle.expr_ops.specs.Ops.{meant, all_meant}
use Rattle.expr_ops.specs.Drafts.{op_at}
use Rattle.expr_ops.specs.Names.{named_by}
use Rattle.expr_ops.specs.Shortest.{fixed_length}
use Rattle.expr_ops.specs.Slots.{Aim, length_aim, op_aim, expression_aims, SlotsHaveOpcodes, SlotsAreFew}
use Rattle.expr_ops.specs.Slots.Aim.{Place, Length}
use Rattle.expr_ops.proofs.Reaches.{narrow_wide}
use Rattle.list_model.specs.declared.entry.ListKind.TheVariants.{Locations}
use Rattle.list_model.specs.declared.entry.RawEntry.{RawEntry}
use Rattle.loc_lists.specs.Locations.{is_item, items_among, bytes_in, expressions_of}
use Rattle.entry_arena.specs.Arena.{Arena}
use Rattle.entry_read.specs.Slots.{aim_at}
use Rattle.entry_read.specs.Units.{HeadAndForest}
use Rattle.unit_write.specs.declared.slots.ListSlot.{ListSlot}
use Rattle.unit_write.specs.declared.slots.ListSlot.TheVariants.{Place as ListPlace}
use Rattle.unit_write.specs.declared.slots.Spot.{Spot}
use Rattle.unit_write.specs.Slots.{IsSpotFor, IsListSlotFor, AreListSlots}
use Rattle.elf_place.proofs.Totals.{sum_by-below}
use Rattle.unit_write.proofs.SlotAims.{fixed_take, fixed_drop, expression_length, expression_within, within_at, IsWithin}
use Rattle.unit_write.proofs.SlotsMade.{meant_take, take_least, rest_is, aim_length, aim_call, aim_uleb}
use Rattle.list_arena.specs.Held.{HeldList}
use Rattle.value_links.specs.Sections.{debug_lists}
use Rattle.written_files.specs.Layouts.{list_expressions}
use Rattle.value_links.specs.ListFaults.{expression_bytes, entry_total, list_total}
use Rattle.value_links.specs.Lists.{expressions_at}
use Rattle.value_links.specs.Reading.{ListRead, Reading, list_at, part_at}
use Rattle.value_links.specs.World.{World, lists_held, Holds, IsWorldOf}
use Rattle.rewriter.specs.inside.Held.{OperationNames}
use Rattle.rewriter.specs.inside.ListNumbers.{LinksSomething, owner_in}
use Rattle.rewriter.specs.inside.Owned.{AreListAims, AddsListSlots, AreSlotsOfLists}
use Rattle.rewriter.proofs.HeldExpressions.{are_linked, expressions_short}
use Rattle.rewriter.proofs.ListExpressions.{expressions_more, expression_among}
use Rattle.rewriter.proofs.ListTotals.{all_entries_few, all_expression_bytes_few}
use Rattle.rewriter.proofs.ListsWithin.{expressions_sized}
use Rattle.rewriter.proofs.MovedSlots.{zip_append}
use Rattle.rewriter.proofs.NamedOperations.{operation_named, reference_still}
use Rattle.rewriter.proofs.SlotFronts.{AreOfExpression}

-- THE SLOT OF AN OPERATION

-- what an entry_value holds has no more bytes than what stands behind it
pub held_fits : (bytes : List ℕ) (count : ℕ) (behind : List Op) → fixed_length (all_meant bytes behind) < 2 ^ 31 → fixed_length (all_meant bytes (take count behind)) < 2 ^ 31
held_fits bytes count behind fits =
    let part : fixed_length (all_meant bytes (take count behind)) ≡ fixed_length (take count (all_meant bytes behind)) = ap fixed_length (meant_take bytes behind count) in
    omega (arith, part, fixed_take count (all_meant bytes behind), fits)

-- nor has what stands behind an operation more than all
pub behind_fits : (bytes : List ℕ) (n : ℕ) (ops : List Op) → fixed_length (all_meant bytes ops) < 2 ^ 31 → fixed_length (all_meant bytes (take (length ops - n) (drop n ops))) < 2 ^ 31
behind_fits bytes n ops fits =
    let same : all_meant bytes (take (length ops - n) (drop n ops)) ≡ drop n (all_meant bytes ops) = ap (all_meant bytes) (rest_is ops n) ∙ sym (drop-map (meant bytes) n ops) in
    omega (arith, ap fixed_length same, fixed_drop n (all_meant bytes ops), fits)

module _ (f : Arena) (at : ℕ) (bytes : List ℕ) (op : Op) (behind : List Op) where
  abbrev aim : Aim
  aim = op_aim (meant bytes op) (all_meant bytes behind)

  pub length_for : (count : ℕ) (slot : ListSlot) → op.code ≡ 163 → count ≡ min (length behind) op.inner → IsListSlotFor f at (length_aim (all_meant bytes (take count behind))) slot → IsListSlotFor f at (op_aim (meant bytes op) (all_meant bytes behind)) slot
  length_for count slot code count_is here =
      let held : all_meant bytes (take count behind) ≡ take op.inner (all_meant bytes behind) = ap (all_meant bytes) (take_least behind op.inner count count_is) ∙ meant_take bytes behind op.inner in
      subst (λ (a : Aim). IsListSlotFor f at a slot) (ap length_aim held ∙ sym (aim_length (meant bytes op) (all_meant bytes behind) code)) here

  pub call_for : (spot : Spot) → op.code ≡ 153 → IsSpotFor f at (op_aim (meant bytes op) (all_meant bytes behind)) spot → IsListSlotFor f at (op_aim (meant bytes op) (all_meant bytes behind)) (ListPlace Call spot)
  call_for spot code here =
      let is : aim ≡ Place call op.a = aim_call (meant bytes op) (all_meant bytes behind) code in
      subst (λ (a : Aim). IsListSlotFor f at a (ListPlace Call spot)) (sym is) (refl, subst (λ (a : Aim). IsSpotFor f at a spot) is here)

  pub uleb_for : (spot : Spot) → op.code ≢ 163 → op.code ≢ 153 → IsSpotFor f at (op_aim (meant bytes op) (all_meant bytes behind)) spot → IsListSlotFor f at (op_aim (meant bytes op) (all_meant bytes behind)) (ListPlace Uleb spot)
  uleb_for spot no_length no_call here =
      let is : aim ≡ Place uleb op.a = aim_uleb (meant bytes op) (all_meant bytes behind) no_length no_call in
      subst (λ (a : Aim). IsListSlotFor f at a (ListPlace Uleb spot)) (sym is) (refl, subst (λ (a : Aim). IsSpotFor f at a spot) is here)

-- AN EXPRESSION

-- the lengths of an expression stand behind others, and count what stands behind them
module _ (unit : HeadAndForest) (more : List Aim) (os : List Operation) (old : List ListSlot) (are : AreListSlots unit more old) (small : fixed_length os < 2 ^ 31) where
  abbrev own : List Aim
  own = expression_aims os

  long : length (more ++ own) ≡ length more + length own
  long = length-append more own

  -- a length among them is one of the others or of the expression
  length_of : (j fixed count : ℕ) → j < length (more ++ own) → aim_at (more ++ own) j ≡ Length fixed count → (suc j + count ≤ length (more ++ own)) × (fixed < 2 ^ 31)
  length_of j fixed count less is = elim (cases_lt j (length more)) [
    | inl early ↦
        let here : aim_at more j ≡ Length fixed count = sym (get_or_append_left more own (Length 0 0) j early) ∙ is in
        (omega (arith, long, are.inside j fixed count early here), are.small j fixed count early here)
    | inr late ↦
        let here : aim_at own (j - length more) ≡ Length fixed count = sym (get_or-append_right more own (length more) j (Length 0 0) refl late) ∙ is in
        let within = subst (λ (a : Aim). IsWithin (2 ^ 31) (length own - suc (j - length more)) a) here (within_at (2 ^ 31) own (j - length more) (expression_within (2 ^ 31) os small) (omega (arith, less, late, long))) in
        (omega (arith, less, late, long, within.1), within.0)
  ]

  pub slots_behind : (done new : List ListSlot) → new ≡ old ++ done → AllZip (IsListSlotFor unit.forest unit.head.at) (expression_aims os) done → AreListSlots unit (more ++ expression_aims os) new
  slots_behind done new behind each = record {
    each = subst (AllZip (IsListSlotFor unit.forest unit.head.at) (more ++ own)) (sym behind) (zip_append (IsListSlotFor unit.forest unit.head.at) more own old done are.each each);
    inside = λ j fixed count less is. (length_of j fixed count less is).0;
    small = λ j fixed count less is. (length_of j fixed count less is).1;
  }

pub expression_slots : (unit : HeadAndForest) (bytes : List ℕ) (ops : List Op) (old new : List ListSlot) → fixed_length (all_meant bytes ops) < 2 ^ 31 → AreOfExpression (IsListSlotFor unit.forest unit.head.at) bytes ops old new → (more : List Aim) → AreListSlots unit more old → AreListSlots unit (more ++ expression_aims (all_meant bytes ops)) new
expression_slots unit bytes ops old new small are more slots = slots_behind unit more (all_meant bytes ops) old slots small are.done new are.behind are.are

-- THE ITEMS OF A LIST

module _ (world : World) (is : IsWorldOf world.image Narrow world) (list : HeldList) (one : Contains (lists_held world Locations) list) (n : ℕ) (d : RawEntry) (inside : n < length list.raw) (item : is_item (get_or list.raw n d) ≡ true) (bytes : List ℕ) (bytes_are : bytes ≡ bytes_in (debug_lists world.image Locations) (get_or list.raw n d).expr) where
  -- the operations of its expression name what they may
  pub item_names : (u : ℕ) (ops : List Op) → list.owner ≡ Some u → IsExpression Narrow (all_meant bytes ops) bytes → All (OperationNames world u) ops
  item_names u ops owner spelled =
      let section : List ℕ = debug_lists world.image Locations in
      let linked : LinksSomething is.r.links u (bytes_in section (get_or list.raw n d).expr) = expression_among (LinksSomething is.r.links u) section list.raw n d (subst (λ o. All (LinksSomething is.r.links (owner_in world o)) (expressions_of section list.raw)) owner (are_linked world is list one section refl)) inside item in
      let own : LinksSomething is.r.links u bytes = subst (LinksSomething is.r.links u) (sym bytes_are) linked in
      All-from_get_or (OperationNames world u) ops (op_at [] 0) (λ k less. λ file r holds.
      let op : Op = op_at ops k in
      let (thing, names) = operation_named is.r.links u bytes ops (narrow_wide (all_meant bytes ops) bytes spelled) own k less in
      (thing, reference_still world.image file world is.r r is.holds holds u (named_by op.code) op.code op.a thing names))

  -- it has few bytes
  pub item_short : length bytes ≤ 134217728
  item_short =
      let section : List ℕ = debug_lists world.image Locations in
      let span = (get_or list.raw n d).expr in
      let own : (get_or list.raw n d).expr.len ≤ expression_bytes list.raw = get_or-le-sum_by (λ (raw : RawEntry). raw.expr.len) list.raw n d inside in
      omega (arith, own, ap length bytes_are, length-take span.len (drop span.at section), expressions_short world is list one section refl)

  pub item_fits : (ops : List Op) → SlotsAreFew → IsExpression Narrow (all_meant bytes ops) bytes → fixed_length (all_meant bytes ops) < 2 ^ 31
  item_fits ops few spelled = omega (arith, few (all_meant bytes ops) bytes spelled, item_short)

module _ (unit : HeadAndForest) (section : List ℕ) where
  abbrev Adds : List RawEntry → List ListSlot → List ListSlot → Type 0
  Adds raws old new = AddsListSlots unit (expressions_of section raws) old new

  pub items_none : (raws : List RawEntry) (old : List ListSlot) → AddsListSlots unit (expressions_of section (take 0 raws)) old old
  items_none raws old = record { ops = []; spelled = tt; slots = λ more are. subst (λ (z : List Aim). AreListSlots unit z old) (sym (append-nil more)) are }

  module _ (raws : List RawEntry) (n : ℕ) (d : RawEntry) (inside : n < length raws) (old now : List ListSlot) (adds : AddsListSlots unit (expressions_of section (take n raws)) old now) where
    next : (b : Bool) → is_item (get_or raws n d) ≡ b → expressions_of section (take (n + 1) raws) ≡ expressions_of section (take n raws) ++ cond b (bytes_in section (get_or raws n d).expr ∷ []) []
    next b item =
        ap (expressions_of section) (take_more raws n d inside) ∙ expressions_more section (take n raws) (get_or raws n d)
        ∙ ap (λ (z : Bool). expressions_of section (take n raws) ++ cond z (bytes_in section (get_or raws n d).expr ∷ []) []) item

    -- the next entry is no item
    pub item_none : is_item (get_or raws n d) ≡ false → AddsListSlots unit (expressions_of section (take (n + 1) raws)) old now
    item_none none = subst (λ (z : List (List ℕ)). AddsListSlots unit z old now) (sym (next false none ∙ append-nil (expressions_of section (take n raws)))) adds

    -- or it is one
    pub item_more : is_item (get_or raws n d) ≡ true → (new : List ListSlot) (bytes : List ℕ) (os : List Operation) → bytes ≡ bytes_in section (get_or raws n d).expr → IsExpression Narrow os bytes → ((more : List Aim) → AreListSlots unit more now → AreListSlots unit (more ++ expression_aims os) new) → AddsListSlots unit (expressions_of section (take (n + 1) raws)) old new
    item_more item new bytes os bytes_are spelled slots = record {
      ops = adds.ops ++ os ∷ [];
      spelled =
          let own : IsExpression Narrow os (bytes_in section (get_or raws n d).expr) = subst (IsExpression Narrow os) bytes_are spelled in
          subst (AllZip (IsExpression Narrow) (adds.ops ++ os ∷ [])) (sym (next true item)) (zip_append (IsExpression Narrow) adds.ops (os ∷ []) (expressions_of section (take n raws)) (bytes_in section (get_or raws n d).expr ∷ []) adds.spelled (own, tt));
      slots = λ more are.
          let told : (more ++ flat_map expression_aims adds.ops) ++ expression_aims os ≡ more ++ flat_map expression_aims (adds.ops ++ os ∷ []) =
          append_assoc more (flat_map expression_aims adds.ops) (expression_aims os) ∙ ap (λ (z : List Aim). more ++ z) (ap (λ (z : List Aim). flat_map expression_aims adds.ops ++ z) (sym (append-nil (expression_aims os))) ∙ sym (flat_map-append expression_aims adds.ops (os ∷ []))) in
          subst (λ (z : List Aim). AreListSlots unit z new) told (slots (more ++ flat_map expression_aims adds.ops) (adds.slots more are));
    }

    pub items_all : length raws ≤ n → AddsListSlots unit (expressions_of section raws) old now
    items_all past = subst (λ (z : List RawEntry). AddsListSlots unit (expressions_of section z) old now) (take_all n raws past) adds

-- LISTS

module _ (world : World) (unit : HeadAndForest) where
  pub lists_none : (numbers : List ℕ) (slots : List ListSlot) → slots ≡ [] → AreSlotsOfLists world unit (take 0 numbers) slots
  lists_none numbers slots none = record {
    more = [];
    told = λ r holds. ([], tt, refl);
    are = subst (AreListSlots unit []) (sym none) (record { each = tt; inside = λ j fixed count less is. absurd (omega (arith, less)); small = λ j fixed count less is. absurd (omega (arith, less)) });
  }

  module _ (numbers : List ℕ) (i : ℕ) (inside : i < length numbers) (k : ℕ) (k_is : k ≡ get_or numbers i 0) (list : HeldList) (known : k < length world.locations) (here : list ≡ get_or world.locations k list) where
    same_expressions : (r : Reading) → Holds world.image world r → expressions_of (debug_lists world.image Locations) list.raw ≡ expressions_at r.links Locations (list_at r.location_lists k)
    same_expressions r holds =
        let count : length world.locations ≡ length r.location_lists = (holds.lists Locations).count in
        let held = (holds.lists Locations).each k list (omega (arith, known, count)) in
        let raws : list.raw ≡ (list_at r.location_lists k).raws = ap (λ (z : HeldList). z.raw) here ∙ held.raws in
        ap (λ (z : List ℕ). expressions_of z list.raw) (sym (holds.sections Locations)) ∙ ap (expressions_of r.links.locations.section) raws

    next_expressions : (r : Reading) → Holds world.image world r → list_expressions r (take (i + 1) numbers) ≡ list_expressions r (take i numbers) ++ expressions_of (debug_lists world.image Locations) list.raw
    next_expressions r holds =
        let each : ℕ → List (List ℕ) = λ n. expressions_at r.links Locations (list_at r.location_lists n) in
        ap (list_expressions r) (take_more numbers i 0 inside)
        ∙ flat_map-append (λ (n : ℕ). expressions_at r.links Locations (list_at r.location_lists n)) (take i numbers) (get_or numbers i 0 ∷ [])
        ∙ ap (λ (z : List (List ℕ)). list_expressions r (take i numbers) ++ z) (append-nil (expressions_at r.links Locations (list_at r.location_lists (get_or numbers i 0))) ∙ ap (λ (n : ℕ). expressions_at r.links Locations (list_at r.location_lists n)) (sym k_is) ∙ sym (same_expressions r holds))

    pub lists_more : (old new : List ListSlot) → AreSlotsOfLists world unit (take i numbers) old → AddsListSlots unit (expressions_of (debug_lists world.image Locations) list.raw) old new → AreSlotsOfLists world unit (take (i + 1) numbers) new
    lists_more old new so_far adds = record {
      more = so_far.more ++ flat_map expression_aims adds.ops;
      told = λ r holds.
          let (ops, spelled, told) = so_far.told r holds in
          (ops ++ adds.ops, subst (AllZip (IsExpression Narrow) (ops ++ adds.ops)) (sym (next_expressions r holds)) (zip_append (IsExpression Narrow) ops adds.ops (list_expressions r (take i numbers)) (expressions_of (debug_lists world.image Locations) list.raw) spelled adds.spelled), ap (λ (z : List Aim). z ++ flat_map expression_aims adds.ops) told ∙ sym (flat_map-append expression_aims ops adds.ops));
      are = adds.slots so_far.more so_far.are;
    }

  pub lists_all : (numbers : List ℕ) (i : ℕ) (slots : List ListSlot) → length numbers ≤ i → AreSlotsOfLists world unit (take i numbers) slots → AreSlotsOfLists world unit numbers slots
  lists_all numbers i slots past are = subst (λ (z : List ℕ). AreSlotsOfLists world unit z slots) (take_all i numbers past) are

-- FEW SLOTS

-- numbers that rise count each element once
module _ {X : Type 0} (f : X → ℕ) (xs : List X) (d : X) (numbers : List ℕ) (rising : (i j : ℕ) → i < j → j < length numbers → get_or numbers i 0 < get_or numbers j 0) (those : (i : ℕ) → i < length numbers → get_or numbers i 0 < length xs) where
  abbrev Sum : ℕ → ℕ
  Sum i = sum_by (λ (k : ℕ). f (get_or xs k d)) (take i numbers)

  fewer : (m n : ℕ) → m ≤ n → sum_by f (take m xs) ≤ sum_by f (take n xs)
  fewer m n le = subst (λ (z : List X). sum_by f z ≤ sum_by f (take n xs)) (take-take m n xs le) (sum_by-take-le f (take n xs) m)

  up_to : (i m : ℕ) → i ≤ length numbers → ((j : ℕ) → j < i → get_or numbers j 0 < m) → sum_by (λ (k : ℕ). f (get_or xs k d)) (take i numbers) ≤ sum_by f (take m xs)
  up_to zero m inside below = omega arith
  up_to (suc i) m inside below =
      let n : ℕ = get_or numbers i 0 in
      let n_in : n < length xs = those i (omega (arith, inside)) in
      let so_far : Sum i ≤ sum_by f (take n xs) = up_to i n (omega (arith, inside)) (λ j less. rising j i less (omega (arith, inside))) in
      let one : sum_by f (take (n + 1) xs) ≡ sum_by f (take n xs) + f (get_or xs n d) = sum_by_more f xs n d n_in in
      let more : sum_by (λ (k : ℕ). f (get_or xs k d)) (take (i + 1) numbers) ≡ Sum i + f (get_or xs n d) = sum_by_more (λ (k : ℕ). f (get_or xs k d)) numbers i 0 (omega (arith, inside)) in
      let next : i + 1 ≡ suc i = omega arith in
      let all : sum_by f (take (n + 1) xs) ≤ sum_by f (take m xs) = fewer (n + 1) m (let less : n < m = below i (omega arith) in omega (arith, less)) in
      subst (λ (z : ℕ). sum_by (λ (k : ℕ). f (get_or xs k d)) (take z numbers) ≤ sum_by f (take m xs)) next (omega (arith, so_far, one, more, all))

  pub counted_once : sum_by (λ (k : ℕ). f (get_or xs k d)) numbers ≤ sum_by f xs
  counted_once =
      let all : sum_by (λ (k : ℕ). f (get_or xs k d)) (take (length numbers) numbers) ≤ sum_by f (take (length xs) xs) = up_to (length numbers) (length xs) (omega arith) those in
      subst (λ (z : List X). sum_by (λ (k : ℕ). f (get_or xs k d)) numbers ≤ sum_by f z) (take_all (length xs) xs (omega arith)) (subst (λ (z : List ℕ). sum_by (λ (k : ℕ). f (get_or xs k d)) z ≤ sum_by f (take (length xs) xs)) (take_all (length numbers) numbers (omega arith)) all)

abbrev bytes_among : List (List ℕ) → ℕ
bytes_among expressions = sum_by (λ (bytes : List ℕ). length bytes) expressions

-- an expression has a slot, and one more for two bytes
slots_of_expressions : SlotsHaveOpcodes → SlotsAreFew → (ops : List (List Operation)) (expressions : List (List ℕ)) → AllZip (IsExpression Narrow) ops expressions → 2 * length (flat_map expression_aims ops) ≤ 2 * length expressions + bytes_among expressions
slots_of_expressions opcodes few [] [] zip = omega arith
slots_of_expressions opcodes few [] (b ∷ bs) zip = absurd zip
slots_of_expressions opcodes few (o ∷ os) [] zip = absurd zip
slots_of_expressions opcodes few (o ∷ os) (b ∷ bs) (first, zip) =
    let rest = slots_of_expressions opcodes few os bs zip in
    let long : length (flat_map expression_aims (o ∷ os)) ≡ length (expression_aims o) + length (flat_map expression_aims os) = length-append (expression_aims o) (flat_map expression_aims os) in
    let bytes : bytes_among (b ∷ bs) ≡ length b + bytes_among bs = sum_by-cons (λ (bytes : List ℕ). length bytes) b bs in
    omega (arith, rest, long, bytes, expression_length o, opcodes o, few o b first)

-- a list has an expression for an item
module _ (r : Reading) where
  abbrev At : ℕ → List (List ℕ)
  At k = expressions_at r.links Locations (list_at r.location_lists k)

  bytes_summed : (numbers : List ℕ) → bytes_among (list_expressions r numbers) ≡ sum_by (λ (k : ℕ). bytes_among (expressions_at r.links Locations (list_at r.location_lists k))) numbers
  bytes_summed [] = refl
  bytes_summed (k ∷ ks) =
      sum_by-append (λ (bytes : List ℕ). length bytes) (At k) (list_expressions r ks) ∙ ap (λ (z : ℕ). bytes_among (At k) + z) (bytes_summed ks)
      ∙ sym (sum_by-cons (λ (n : ℕ). bytes_among (expressions_at r.links Locations (list_at r.location_lists n))) k ks)

  items_few : (k : ℕ) → length (At k) ≤ length (list_at r.location_lists k).raws
  items_few k =
      let raws : List RawEntry = (list_at r.location_lists k).raws in
      let each : length (At k) ≡ length (items_among raws) = length-map (items_among raws) (λ (raw : RawEntry). bytes_in r.links.locations.section raw.expr) in
      omega (arith, each, length-filter is_item raws, count_by-le-length is_item raws)

module _ (world : World) (is : IsWorldOf world.image Narrow world) (numbers : List ℕ) (rising : (i j : ℕ) → i < j → j < length numbers → get_or numbers i 0 < get_or numbers j 0) (those : All (λ (k : ℕ). k < length world.locations) numbers) where
  known : (i d : ℕ) → i < length numbers → get_or numbers i d < length is.r.location_lists
  known i d less = let count : length world.locations ≡ length is.r.location_lists = (is.holds.lists Locations).count in omega (arith, those i d less, count)

  -- the lists have no more items than all lists, and no more bytes of expressions
  items_within : length (list_expressions is.r numbers) ≤ entry_total is.r.location_lists
  items_within =
      let each : ℕ → ℕ = λ k. length (list_at is.r.location_lists k).raws in
      let count : length (list_expressions is.r numbers) ≡ sum_by (λ (k : ℕ). length (expressions_at is.r.links Locations (list_at is.r.location_lists k))) numbers = length-flat_map (λ (k : ℕ). expressions_at is.r.links Locations (list_at is.r.location_lists k)) numbers in
      let less : sum_by (λ (k : ℕ). length (expressions_at is.r.links Locations (list_at is.r.location_lists k))) numbers ≤ sum_by (λ (k : ℕ). length (list_at is.r.location_lists k).raws) numbers =
      sum_by-below (λ (k : ℕ). length (expressions_at is.r.links Locations (list_at is.r.location_lists k))) (λ (k : ℕ). length (list_at is.r.location_lists k).raws) numbers (λ i d inside. items_few is.r (get_or numbers i d)) in
      let once : sum_by (λ (k : ℕ). length (list_at is.r.location_lists k).raws) numbers ≤ entry_total is.r.location_lists = counted_once (λ (list : ListRead). length list.raws) is.r.location_lists (list_at [] 0) numbers rising (λ i inside. known i 0 inside) in
      omega (arith, count, less, once)

  bytes_within : bytes_among (list_expressions is.r numbers) ≤ list_total expression_bytes is.r.location_lists
  bytes_within =
      let sized : (k : ℕ) → k < length is.r.location_lists → bytes_among (expressions_at is.r.links Locations (list_at is.r.location_lists k)) ≤ expression_bytes (list_at is.r.location_lists k).raws = λ k inside.
      let list = list_at is.r.location_lists k in
      let same : expression_bytes list.raws ≡ bytes_among (expressions_at is.r.links Locations list) = expressions_sized Locations is.r.links.locations.section (part_at is.r.links.locations list.part) list.at list.raws ((is.read.lists Locations).each k inside).read in
      omega (arith, same) in
      let less : sum_by (λ (k : ℕ). bytes_among (expressions_at is.r.links Locations (list_at is.r.location_lists k))) numbers ≤ sum_by (λ (k : ℕ). expression_bytes (list_at is.r.location_lists k).raws) numbers =
      sum_by-below (λ (k : ℕ). bytes_among (expressions_at is.r.links Locations (list_at is.r.location_lists k))) (λ (k : ℕ). expression_bytes (list_at is.r.location_lists k).raws) numbers (λ i d inside. sized (get_or numbers i d) (known i d inside)) in
      let once : sum_by (λ (k : ℕ). expression_bytes (list_at is.r.location_lists k).raws) numbers ≤ list_total expression_bytes is.r.location_lists = counted_once (λ (list : ListRead). expression_bytes list.raws) is.r.location_lists (list_at [] 0) numbers rising (λ i inside. known i 0 inside) in
      omega (arith, bytes_summed is.r numbers, less, once)

  -- so their expressions have few slots
  pub aims_few : SlotsHaveOpcodes → SlotsAreFew → (more : List Aim) → AreListAims world numbers more → length more ≤ 2 ^ 24 + 2 ^ 26
  aims_few opcodes few more told =
      let (ops, spelled, same) = told is.r is.holds in
      let two : 2 * length (flat_map expression_aims ops) ≤ 2 * length (list_expressions is.r numbers) + bytes_among (list_expressions is.r numbers) = slots_of_expressions opcodes few ops (list_expressions is.r numbers) spelled in
      omega (arith, two, ap length same, items_within, bytes_within, all_entries_few world is, all_expression_bytes_few world is)
