-- What is left under a base, up to an item before which another base is set.
use Rattle.std.proofs.Common.{◌≡◌, ◌≤◌, ◌<◌, ◌+◌, ◌-◌, ◌^◌, ◌∙◌, ℕ, zero, suc, List, [], ◌∷◌, ◌++◌, length, take, drop, get_or, sym, ap, refl, subst, arith, inl, inr}
use Rattle.std.specs.Prelude.{min, map}
use Rattle.std.proofs.lemmas.Bool.{cases_lt}
use Rattle.std.proofs.lemmas.List.{take_more, take-take, take-append-drop, drop-take, drop_more, drop_all, drop-map, length-drop, length-map, length-append, get_or-map, get_or-drop, get_or_append_left}
use Rattle.std.proofs.Math.Seq.{get_or-append_seam}
use Rattle.leb_codec.specs.LineCosts.{IsLeastCost}
use Rattle.list_model.specs.declared.context.Context.{Context}
use Rattle.list_model.specs.declared.item.Item.{Item}
use Rattle.list_model.specs.declared.entry.EntryKind.TheVariants.{BaseAddress}
use Rattle.list_model.specs.Items.{Bounds}
use Rattle.list_model.specs.Items.Bounds.{elsewhere}
use Rattle.list_model.specs.Costs.{ItemWithin, ItemsWithin}
use Rattle.list_model.specs.Potentials.{potential, OnFrom, AcceptsFirst, AreGreatest}
use Rattle.list_least.specs.Plans.{bounds_of}
use Rattle.list_least.specs.inside.Ways.{IsFilled, AreFilled, IsFar, IsScanned}
use Rattle.list_least.proofs.Back.{stays}
use Rattle.list_least.proofs.Records.{each_accepted}

-- ---- items that follow each other

more_items : (addr : List ℕ) (context : Context) (base : ℕ) (items : List Bounds) (a n : ℕ) → a ≤ n → ItemsWithin addr context base items a → ItemsWithin addr context base items n
more_items addr context base [] a n le w = tt
more_items addr context base (item ∷ items) a n le (k, l, one, more, s) = (k, l, one, more, omega (arith, s, le))

items_join : (addr : List ℕ) (context : Context) (base : ℕ) (xs ys : List Bounds) (a b n : ℕ) → ItemsWithin addr context base xs a → ItemsWithin addr context base ys b → a + b ≤ n → ItemsWithin addr context base (xs ++ ys) n
items_join addr context base [] ys a b n v w le = more_items addr context base ys b n (omega (arith, le)) w
items_join addr context base (x ∷ xs) ys a b n (k, l, one, more, s) w le = (k, l + b, one, items_join addr context base xs ys l b (l + b) more w (omega arith), omega (arith, s, le))

items_split : (addr : List ℕ) (context : Context) (base : ℕ) (xs ys : List Bounds) (n : ℕ) → ItemsWithin addr context base (xs ++ ys) n → (a : ℕ) × (b : ℕ) × ItemsWithin addr context base xs a × ItemsWithin addr context base ys b × (a + b ≤ n)
items_split addr context base [] ys n w = (0, n, tt, w, omega arith)
items_split addr context base (x ∷ xs) ys n (k, l, one, more, s) =
    let r = items_split addr context base xs ys l more in
    (k + r.0, r.1, (k, r.0, one, r.2, omega arith), r.3, omega (arith, r.4, s))

items_more : (addr : List ℕ) (context : Context) (base : ℕ) (items : List Bounds) (item : Bounds) (sum cost : ℕ) → IsLeastCost (ItemsWithin addr context base items) sum → IsLeastCost (ItemWithin addr context base item) cost → IsLeastCost (ItemsWithin addr context base (items ++ item ∷ [])) (sum + cost)
items_more addr context base items item sum cost all one = record {
  enough = items_join addr context base items (item ∷ []) sum cost (sum + cost) all.enough (cost, 0, one.enough, tt, omega arith) (omega arith);
  least = λ n w.
      let r = items_split addr context base items (item ∷ []) n w in
      let last = r.3 in
      omega (arith, all.least r.0 r.2, one.least last.0 last.2, last.4, r.4);
}

-- ---- what is left

fill_enough : (addr : List ℕ) (context : Context) (base : ℕ) (items : List Bounds) (ps : List ℕ) (n w : ℕ) → IsFilled addr context base items ps n w → OnFrom addr context base items ps w
fill_enough addr context base items ps zero w e = record { taken = 0; bytes = 0; within = omega arith; enough = tt; sum = omega (arith, e) }
fill_enough addr context base [] ps (suc n) w f = absurd f
fill_enough addr context base (item ∷ items) [] (suc n) w f = absurd f
fill_enough addr context base (item ∷ items) (p ∷ ps) (suc n) w (cost, next, one, rest, e) =
    elim (cases_lt (next + cost) p) [
      | inl lt ↦ stays addr context base item items p ps (next + cost) w (omega (arith, e, lt)) (record { first = cost; rest = next; one = one.enough; others = fill_enough addr context base items ps n next rest; sum = omega arith })
      | inr ge ↦ record { taken = 0; bytes = 0; within = omega arith; enough = tt; sum = omega (arith, e, ge) }
    ]

fill_low : (addr : List ℕ) (context : Context) (base : ℕ) (items : List Bounds) (ps : List ℕ) (n w taken bytes : ℕ) → IsFilled addr context base items ps n w → taken ≤ n → ItemsWithin addr context base (take taken items) bytes → w ≤ bytes + potential (drop taken ps)
fill_low addr context base items ps zero w zero bytes e le within = omega (arith, e)
fill_low addr context base items ps zero w (suc t) bytes e le within = absurd (omega (arith, le))
fill_low addr context base [] ps (suc n) w taken bytes f le within = absurd f
fill_low addr context base (item ∷ items) [] (suc n) w taken bytes f le within = absurd f
fill_low addr context base (item ∷ items) (p ∷ ps) (suc n) w zero bytes (cost, next, one, rest, e) le within = omega (arith, e)
fill_low addr context base (item ∷ items) (p ∷ ps) (suc n) w (suc t) bytes (cost, next, one, rest, e) le (a, b, first, more, s) =
    let h : next ≤ b + potential (drop t ps) = fill_low addr context base items ps n next t b rest (omega (arith, le)) more in
    omega (arith, e, h, one.least a first, s)

-- items in two parts
take_parts : (n m : ℕ) (items : List Bounds) → take (n + m) items ≡ take n items ++ take m (drop n items)
take_parts n m items = sym (take-append-drop n (take (n + m) items)) ∙ ap (λ z. z ++ drop n (take (n + m) items)) (take-take n (n + m) items (omega arith)) ∙ ap (λ z. take n items ++ z) (drop-take n m items)

drop_parts : (n m : ℕ) (ps : List ℕ) → drop m (drop n ps) ≡ drop (n + m) ps
drop_parts zero m ps = ap (λ (z : ℕ). drop z ps) (omega arith)
drop_parts (suc n) m [] = drop_all m [] (omega arith) ∙ sym (drop_all (suc n + m) [] (omega arith))
drop_parts (suc n) m (p ∷ ps) = let e : suc (n + m) ≡ suc n + m = omega arith in drop_parts n m ps ∙ ap (λ (z : ℕ). drop z (p ∷ ps)) e

far_low : (addr : List ℕ) (context : Context) (base : ℕ) (items : List Bounds) (ps : List ℕ) (n w taken bytes : ℕ) → IsFilled addr context base items ps n w → IsFar addr context base items ps n → AcceptsFirst addr context (drop n items) (drop n ps) → base < 2 ^ 64 → n < taken → taken ≤ length items → ItemsWithin addr context base (take taken items) bytes → w ≤ bytes + potential (drop taken ps)
far_low addr context base items ps n w taken bytes filled far accepts fits lt within enough =
    let m : ℕ = taken - n in
    let e : taken ≡ n + m = omega (arith, lt) in
    let parts : ItemsWithin addr context base (take n items ++ take m (drop n items)) bytes = subst (λ (z : List Bounds). ItemsWithin addr context base z bytes) (ap (λ (z : ℕ). take z items) e ∙ take_parts n m items) enough in
    let r = items_split addr context base (take n items) (take m (drop n items)) bytes parts in
    let p : potential (drop n ps) ≤ 9 + r.1 + potential (drop m (drop n ps)) = accepts base 9 m r.1 fits (BaseAddress, base, refl, omega arith) (omega (arith, lt)) (omega (arith, length-drop n items, within)) r.3 in
    let q : potential (drop m (drop n ps)) ≡ potential (drop taken ps) = ap potential (drop_parts n m ps) ∙ ap (λ (z : ℕ). potential (drop z ps)) (sym e) in
    let low : w ≤ far.bytes + potential (drop far.taken ps) = fill_low addr context base items ps n w far.taken far.bytes filled far.within far.enough in
    omega (arith, p, q, low, far.far r.0 r.2, r.4)

pub fill_least : (addr : List ℕ) (context : Context) (base : ℕ) (items : List Bounds) (ps : List ℕ) (n w : ℕ) → IsFilled addr context base items ps n w → n ≤ length items → (n < length items → IsFar addr context base items ps n) → AreGreatest addr context items ps → base < 2 ^ 64 → IsLeastCost (OnFrom addr context base items ps) w
fill_least addr context base items ps n w filled inside far greatest fits = record {
  enough = fill_enough addr context base items ps n w filled;
  least = λ m on. elim (cases_lt n on.taken) [
    | inl lt ↦
        let l : n < length items = omega (arith, lt, on.within) in
        let low : w ≤ on.bytes + potential (drop on.taken ps) = far_low addr context base items ps n w on.taken on.bytes filled (far l) (each_accepted addr context items ps greatest n l) fits lt on.within on.enough in
        omega (arith, low, on.sum)
    | inr ge ↦ omega (arith, fill_low addr context base items ps n w on.taken on.bytes filled ge on.enough, on.sum)
  ];
}

pub greatest_behind : (addr : List ℕ) (context : Context) (items : List Bounds) (ps : List ℕ) (n : ℕ) → AreGreatest addr context items ps → AreGreatest addr context (drop n items) (drop n ps)
greatest_behind addr context items ps zero g = g
greatest_behind addr context [] [] (suc n) g = refl
greatest_behind addr context [] (p ∷ ps) (suc n) g = absurd (omega (arith, ap length g))
greatest_behind addr context (item ∷ items) [] (suc n) g = absurd g
greatest_behind addr context (item ∷ items) (p ∷ ps) (suc n) g = greatest_behind addr context items ps n g.2

-- ---- how far one looks

scan_start : (addr : List ℕ) (context : Context) (base : ℕ) (items : List Bounds) (ps : List ℕ) (best : ℕ) → best ≡ potential ps → IsScanned addr context base items ps 0 0 best
scan_start addr context base items ps best e = record {
  whole = record { enough = tt; least = λ n w. omega arith };
  taken = 0;
  bytes = 0;
  within = omega arith;
  enough = tt;
  is = omega (arith, e);
}

scan_more : (addr : List ℕ) (context : Context) (base : ℕ) (items : List Bounds) (ps : List ℕ) (n sum best cost next : ℕ) (d : Bounds) → IsScanned addr context base items ps n sum best → n < length items → IsLeastCost (ItemWithin addr context base (get_or items n d)) cost → next ≡ min best (sum + potential (drop n ps)) → IsScanned addr context base items ps (n + 1) (sum + cost) next
scan_more addr context base items ps n sum best cost next d s lt one e =
    let w : IsLeastCost (ItemsWithin addr context base (take (n + 1) items)) (sum + cost) = subst (λ (z : List Bounds). IsLeastCost (ItemsWithin addr context base z) (sum + cost)) (sym (take_more items n d lt)) (items_more addr context base (take n items) (get_or items n d) sum cost s.whole one) in
    elim (cases_lt (sum + potential (drop n ps)) best) [
      | inl less ↦ record { whole = w; taken = n; bytes = sum; within = omega arith; enough = s.whole.enough; is = omega (arith, e, less) }
      | inr ge ↦ record { whole = w; taken = s.taken; bytes = s.bytes; within = omega (arith, s.within); enough = s.enough; is = omega (arith, e, ge, s.is) }
    ]

potential_at : (ps : List ℕ) (from at : ℕ) → from ≤ at → at < length ps → potential (drop (at - from) (drop from ps)) ≡ get_or ps at 0
potential_at ps from at le lt =
    let e : from + (at - from) ≡ at = omega (arith, le) in
    ap potential (drop_parts from (at - from) ps) ∙ ap (λ (z : ℕ). potential (drop z ps)) e ∙ ap potential (drop_more ps at 0 lt)

item_at_place : (items : List Item) (from at : ℕ) (d : Item) → from ≤ at → at < length items → get_or (map bounds_of (drop from items)) (at - from) elsewhere ≡ bounds_of (get_or items at d)
item_at_place items from at d le lt =
    let e : from + (at - from) ≡ at = omega (arith, le) in
    get_or-map bounds_of (drop from items) (at - from) d elsewhere (omega (arith, length-drop from items, le, lt)) ∙ ap bounds_of (get_or-drop from items (at - from) d) ∙ ap (λ (z : ℕ). bounds_of (get_or items z d)) e

count_left : (items : List Item) (from : ℕ) → length (map bounds_of (drop from items)) ≡ length items - from
count_left items from = length-map (drop from items) bounds_of ∙ length-drop from items

pub scan_on : (addr : List ℕ) (context : Context) (base : ℕ) (items : List Item) (ps : List ℕ) (from at sum best cost next : ℕ) (d : Item) → from ≤ at → at < length items → length ps ≡ length items → IsScanned addr context base (map bounds_of (drop from items)) (drop from ps) (at - from) sum best → IsLeastCost (ItemWithin addr context base (bounds_of (get_or items at d))) cost → next ≡ min best (sum + get_or ps at 0) → IsScanned addr context base (map bounds_of (drop from items)) (drop from ps) (at + 1 - from) (sum + cost) next
scan_on addr context base items ps from at sum best cost next d le lt same s one e =
    let k : at - from + 1 ≡ at + 1 - from = omega (arith, le) in
    let one2 : IsLeastCost (ItemWithin addr context base (get_or (map bounds_of (drop from items)) (at - from) elsewhere)) cost = subst (λ (z : Bounds). IsLeastCost (ItemWithin addr context base z) cost) (sym (item_at_place items from at d le lt)) one in
    subst (λ (z : ℕ). IsScanned addr context base (map bounds_of (drop from items)) (drop from ps) z (sum + cost) next) k (
    scan_more addr context base (map bounds_of (drop from items)) (drop from ps) (at - from) sum best cost next elsewhere s (omega (arith, count_left items from, le, lt)) one2 (omega (arith, e, potential_at ps from at le (omega (arith, lt, same))))
    )

pub scan_from : (addr : List ℕ) (context : Context) (base : ℕ) (items : List Item) (ps : List ℕ) (from : ℕ) → from < length ps → IsScanned addr context base (map bounds_of (drop from items)) (drop from ps) (from - from) 0 (get_or ps from 0)
scan_from addr context base items ps from lt =
    let z : 0 ≡ from - from = omega arith in
    subst (λ (n : ℕ). IsScanned addr context base (map bounds_of (drop from items)) (drop from ps) n 0 (get_or ps from 0)) z (
    scan_start addr context base (map bounds_of (drop from items)) (drop from ps) (get_or ps from 0) (sym (ap potential (drop_more ps from 0 lt))))

pub scan_stop : (addr : List ℕ) (context : Context) (base : ℕ) (items : List Item) (ps : List ℕ) (from at sum best : ℕ) → from ≤ at → at < length ps → IsScanned addr context base (map bounds_of (drop from items)) (drop from ps) (at - from) sum best → best + 9 ≤ sum + get_or ps at 0 → IsFar addr context base (map bounds_of (drop from items)) (drop from ps) (at - from)
scan_stop addr context base items ps from at sum best le lt s far = record {
  taken = s.taken;
  bytes = s.bytes;
  within = s.within;
  enough = s.enough;
  far = λ more w. omega (arith, far, s.is, s.whole.least more w, potential_at ps from at le lt);
}

-- ---- from each item on

pub potential_there : (ps : List ℕ) (i : ℕ) → i < length ps → potential (drop i ps) ≡ get_or ps i 0
potential_there ps i lt = ap potential (drop_more ps i 0 lt)

pub potential_end : (ps : List ℕ) (i : ℕ) → length ps ≤ i → potential (drop i ps) ≡ 1
potential_end ps i le = ap potential (drop_all i ps le)

pub filled_from : (addr : List ℕ) (context : Context) (base : ℕ) (items : List Item) (ps bytes : List ℕ) (i from to : ℕ) → i ≡ from → AreFilled addr context base items ps i to bytes → AreFilled addr context base items ps from to bytes
filled_from addr context base items ps bytes i from to e filled = subst (λ (z : ℕ). AreFilled addr context base items ps z to bytes) e filled

pub filled_end : (addr : List ℕ) (context : Context) (base : ℕ) (items : List Item) (ps bytes : List ℕ) (to w : ℕ) → bytes ≡ w ∷ [] → w ≡ potential (drop to ps) → AreFilled addr context base items ps to to bytes
filled_end addr context base items ps bytes to w e is = record {
  size = omega (arith, ap length e);
  each = λ i from upto.
      let k : i ≡ to = omega (arith, from, upto) in
      let z : 0 ≡ to - i = omega (arith, k) in
      let f : w ≡ get_or bytes (to - i) 0 = ap (λ l. get_or l 0 0) (sym e) ∙ ap (λ n. get_or bytes n 0) z in
      subst (λ (x : ℕ). IsFilled addr context base (map bounds_of (drop i items)) (drop i ps) (to - i) x) f (
      subst (λ (n : ℕ). IsFilled addr context base (map bounds_of (drop i items)) (drop i ps) n w) z (is ∙ ap (λ (x : ℕ). potential (drop x ps)) (sym k)));
}

pub last_filled : (i from to w : ℕ) (old new : List ℕ) → length old ≡ to - from + 1 → from ≡ i + 1 → from ≤ to → new ≡ old ++ w ∷ [] → w ≡ get_or new (to - i) 0
last_filled i from to w old new size next order e =
    let m : length old ≡ to - i = omega (arith, size, next, order) in
    sym (get_or-append_seam old w [] 0) ∙ ap (λ z. get_or z (length old) 0) (sym e) ∙ ap (λ n. get_or new n 0) m

pub filled_more : (addr : List ℕ) (context : Context) (base : ℕ) (items : List Item) (ps old new : List ℕ) (i from to : ℕ) (d : Item) (cost left w : ℕ) → length ps ≡ length items → from ≡ i + 1 → from ≤ to → to ≤ length items → AreFilled addr context base items ps from to old → left ≡ get_or old (to - from) 0 → IsLeastCost (ItemWithin addr context base (bounds_of (get_or items i d))) cost → w ≡ min (get_or ps i 0) (left + cost) → new ≡ old ++ w ∷ [] → AreFilled addr context base items ps i to new
filled_more addr context base items ps old new i from to d cost left w same next order inside filled is one l e =
    let grown : length new ≡ length old + 1 = ap length e ∙ length-append old (w ∷ []) in
    let rest : IsFilled addr context base (map bounds_of (drop from items)) (drop from ps) (to - from) left = subst (IsFilled addr context base (map bounds_of (drop from items)) (drop from ps) (to - from)) (sym is) (filled.each from (omega arith) order) in
    let x : map bounds_of (drop i items) ≡ bounds_of (get_or items i d) ∷ map bounds_of (drop from items) = ap (map bounds_of) (drop_more items i d (omega (arith, next, order, inside))) ∙ ap (λ n. bounds_of (get_or items i d) ∷ map bounds_of (drop n items)) (sym next) in
    let y : drop i ps ≡ get_or ps i 0 ∷ drop from ps = drop_more ps i 0 (omega (arith, next, order, inside, same)) ∙ ap (λ n. get_or ps i 0 ∷ drop n ps) (sym next) in
    let n : suc (to - from) ≡ to - i = omega (arith, next, order) in
    let here : IsFilled addr context base (map bounds_of (drop i items)) (drop i ps) (to - i) w
    = subst (λ (b : List Bounds). IsFilled addr context base b (drop i ps) (to - i) w) (sym x) (
    subst (λ (p : List ℕ). IsFilled addr context base (bounds_of (get_or items i d) ∷ map bounds_of (drop from items)) p (to - i) w) (sym y) (
    subst (λ (k : ℕ). IsFilled addr context base (bounds_of (get_or items i d) ∷ map bounds_of (drop from items)) (get_or ps i 0 ∷ drop from ps) k w) n (cost, left, one, rest, l)))
    in
    record {
      size = omega (arith, grown, filled.size, next, order);
      each = λ j low high. elim (cases_lt i j) [
        | inl lt ↦
            let f : get_or new (to - j) 0 ≡ get_or old (to - j) 0 = ap (λ z. get_or z (to - j) 0) e ∙ get_or_append_left old (w ∷ []) 0 (to - j) (omega (arith, filled.size, lt, next, high)) in
            subst (IsFilled addr context base (map bounds_of (drop j items)) (drop j ps) (to - j)) (sym f) (filled.each j (omega (arith, lt, next)) high)
        | inr ge ↦
            let k : i ≡ j = omega (arith, ge, low) in
            let f : w ≡ get_or new (to - i) 0 = last_filled i from to w old new filled.size next order e in
            subst (λ (z : ℕ). IsFilled addr context base (map bounds_of (drop z items)) (drop z ps) (to - z) (get_or new (to - z) 0)) k (subst (IsFilled addr context base (map bounds_of (drop i items)) (drop i ps) (to - i)) f here)
      ];
    }

pub filled_least : (addr : List ℕ) (context : Context) (base : ℕ) (items : List Item) (ps bytes : List ℕ) (from to : ℕ) → from ≤ to → to ≤ length items → base < 2 ^ 64 → AreFilled addr context base items ps from to bytes → (to < length items → IsFar addr context base (map bounds_of (drop from items)) (drop from ps) (to - from)) → AreGreatest addr context (map bounds_of items) ps → IsLeastCost (OnFrom addr context base (map bounds_of (drop from items)) (drop from ps)) (get_or bytes (to - from) 0)
filled_least addr context base items ps bytes from to order inside fits filled far greatest =
    let behind : AreGreatest addr context (map bounds_of (drop from items)) (drop from ps) = subst (λ (z : List Bounds). AreGreatest addr context z (drop from ps)) (drop-map bounds_of from items) (greatest_behind addr context (map bounds_of items) ps from greatest) in
    fill_least addr context base (map bounds_of (drop from items)) (drop from ps) (to - from) (get_or bytes (to - from) 0) (filled.each from (omega arith) order) (omega (arith, count_left items from, inside)) (λ lt. far (omega (arith, count_left items from, lt, order))) behind fits

-- what is left is one number
fill_same : (addr : List ℕ) (context : Context) (base : ℕ) (items : List Bounds) (ps : List ℕ) (n v w : ℕ) → IsFilled addr context base items ps n v → IsFilled addr context base items ps n w → v ≡ w
fill_same addr context base items ps zero v w e f = e ∙ sym f
fill_same addr context base [] ps (suc n) v w e f = absurd e
fill_same addr context base (item ∷ items) [] (suc n) v w e f = absurd e
fill_same addr context base (item ∷ items) (p ∷ ps) (suc n) v w (cost, next, one, rest, e) (cost2, next2, one2, rest2, f) =
    omega (arith, e, f, fill_same addr context base items ps n next next2 rest rest2, one.least cost2 one2.enough, one2.least cost one.enough)

pub filled_step : (addr : List ℕ) (context : Context) (base : ℕ) (items : List Item) (ps bytes : List ℕ) (from to i : ℕ) (d : Item) (cost : ℕ) → AreFilled addr context base items ps from to bytes → from ≤ i → i < to → to ≤ length items → length ps ≡ length items → IsLeastCost (ItemWithin addr context base (bounds_of (get_or items i d))) cost → get_or bytes (to - i) 0 ≡ min (get_or ps i 0) (get_or bytes (to - i - 1) 0 + cost)
filled_step addr context base items ps bytes from to i d cost filled low lt inside same one =
    let n : to - i ≡ suc (to - (i + 1)) = omega (arith, lt) in
    let k : to - (i + 1) ≡ to - i - 1 = omega arith in
    let here : IsFilled addr context base (bounds_of (get_or items i d) ∷ map bounds_of (drop (i + 1) items)) (get_or ps i 0 ∷ drop (i + 1) ps) (suc (to - (i + 1))) (get_or bytes (to - i) 0)
    = subst (λ (b : List Bounds). IsFilled addr context base b (get_or ps i 0 ∷ drop (i + 1) ps) (suc (to - (i + 1))) (get_or bytes (to - i) 0)) (ap (map bounds_of) (drop_more items i d (omega (arith, lt, inside)))) (
    subst (λ (p : List ℕ). IsFilled addr context base (map bounds_of (drop i items)) p (suc (to - (i + 1))) (get_or bytes (to - i) 0)) (drop_more ps i 0 (omega (arith, lt, inside, same))) (
    subst (λ (m : ℕ). IsFilled addr context base (map bounds_of (drop i items)) (drop i ps) m (get_or bytes (to - i) 0)) n (filled.each i low (omega (arith, lt)))))
    in
    let next : here.1 ≡ get_or bytes (to - (i + 1)) 0 = fill_same addr context base (map bounds_of (drop (i + 1) items)) (drop (i + 1) ps) (to - (i + 1)) here.1 (get_or bytes (to - (i + 1)) 0) here.3 (filled.each (i + 1) (omega (arith, low)) (omega (arith, lt))) in
    omega (arith, here.4, next, ap (λ (z : ℕ). get_or bytes z 0) k, one.least here.0 here.2.enough, here.2.least cost one.enough)

pub filled_last : (addr : List ℕ) (context : Context) (base : ℕ) (items : List Item) (ps bytes : List ℕ) (from to i : ℕ) → AreFilled addr context base items ps from to bytes → from ≤ i → i ≡ to → get_or bytes (to - i) 0 ≡ potential (drop i ps)
filled_last addr context base items ps bytes from to i filled low e =
    let z : to - i ≡ 0 = omega (arith, e) in
    let last : IsFilled addr context base (map bounds_of (drop i items)) (drop i ps) 0 (get_or bytes (to - i) 0) = subst (λ (n : ℕ). IsFilled addr context base (map bounds_of (drop i items)) (drop i ps) n (get_or bytes (to - i) 0)) z (filled.each i low (omega (arith, e))) in
    last
