-- The order is kept by what comes next.
use Rattle.std.proofs.Common.{◌≡◌, ◌≤◌, ◌<◌, ◌+◌, ◌^◌, ℕ, List, [], ◌∷◌, ◌++◌, length, get_or, refl, sym, subst, arith, inl, inr}
use Rattle.std.specs.Prelude.{◌⊎◌, Option, IfSome}
use Rattle.std.proofs.lemmas.List.{get_or_append_left, get_or_push, length_push}
use Rattle.std.proofs.lemmas.List.Elements.{AllZip-get_or, length_all_zip}
use Rattle.std.proofs.lemmas.Bool.{cases_lt}
use Rattle.dw_base.specs.declared.fault.Span.{Span}
use Rattle.form_codec.specs.declared.value.Value.{Value}
use Rattle.form_codec.specs.declared.value.Value.TheVariants as value
use Rattle.form_codec.specs.Values.{LiesIn}
use Rattle.entry_arena.specs.declared.entry.Entry.{Entry}
use Rattle.entry_arena.specs.declared.entry.ChainEnd.{ChainEnd}
use Rattle.entry_arena.specs.Arena.{Arena, entry_at, value_at, chain_end_at, span_of, with_entry, with_value, with_values, with_end}
use Rattle.entry_arena.specs.Order.{ComesBefore, SpansRise, LendAlike, IsInOrder, IsHeld, IsNextEntry, IsNextValue, IsNextEnd}

-- an item of a list with one more is an old one or the new one
pub at_more : {X : Type 0} (P : X → Type 0) (xs : List X) (x d : X) (i : ℕ) → (i < length xs → P (get_or xs i d)) → (i ≡ length xs → P x) → i < length (xs ++ x ∷ []) → P (get_or (xs ++ x ∷ []) i d)
at_more {X} P xs x d i old new inside =
    let count : length (xs ++ x ∷ []) ≡ length xs + 1 = length_push xs x in
    elim (cases_lt i (length xs)) [
      | inl l ↦ subst P (sym (get_or_append_left xs (x ∷ []) d i l)) (old l)
      | inr g ↦ let last : i ≡ length xs = omega arith in subst P (sym (get_or_push xs x d i (sym last))) (new last)
    ]

-- two items, of which the second comes later
pub pair_more : {X : Type 0} (R : X → X → Type 0) (xs : List X) (x d : X) → ((i j : ℕ) → i < j → j < length xs → R (get_or xs i d) (get_or xs j d)) → ((i : ℕ) → i < length xs → R (get_or xs i d) x) → (i j : ℕ) → i < j → j < length (xs ++ x ∷ []) → R (get_or (xs ++ x ∷ []) i d) (get_or (xs ++ x ∷ []) j d)
pair_more {X} R xs x d old new i j less inside =
    let count : length (xs ++ x ∷ []) ≡ length xs + 1 = length_push xs x in
    at_more (λ y. R y (get_or (xs ++ x ∷ []) j d)) xs x d i
    (λ li. at_more (λ y. R (get_or xs i d) y) xs x d j (λ lj. old i j less lj) (λ e. new i li) inside)
    (λ e. absurd (omega arith))
    (omega arith)

-- two neighbours
pub next_more : {X : Type 0} (R : X → X → Type 0) (xs : List X) (x d : X) → ((i : ℕ) → i + 1 < length xs → R (get_or xs i d) (get_or xs (i + 1) d)) → ((last : ℕ) → last + 1 ≡ length xs → R (get_or xs last d) x) → (i : ℕ) → i + 1 < length (xs ++ x ∷ []) → R (get_or (xs ++ x ∷ []) i d) (get_or (xs ++ x ∷ []) (i + 1) d)
next_more {X} R xs x d old new i inside =
    let count : length (xs ++ x ∷ []) ≡ length xs + 1 = length_push xs x in
    at_more (λ y. R y (get_or (xs ++ x ∷ []) (i + 1) d)) xs x d i
    (λ li. at_more (λ y. R (get_or xs i d) y) xs x d (i + 1) (λ lj. old i lj) (λ e. new i e) inside)
    (λ e. absurd (omega arith))
    (omega arith)

-- one more value, behind all others
pub spans_more : (values : List Value) (v : Value) (size : ℕ) → SpansRise values size → LiesIn size v → ((i : ℕ) → i < length values → ComesBefore (value_at values i) v) → SpansRise (values ++ v ∷ []) size
spans_more values v size spans lies after = record {
  inside = λ i inside. at_more (λ z. LiesIn size z) values v (value.Addr 0) i (spans.inside i) (λ _. lies) inside;
  rising = pair_more ComesBefore values v (value.Addr 0) spans.rising after;
}

pub value_in_order : (f : Arena) (v : Value) → IsInOrder f → IsNextValue f v → IsInOrder (with_value f v)
value_in_order f v order next =
    let count : length (f.values ++ v ∷ []) ≡ length f.values + 1 = length_push f.values v in
    record {
      preorder = order.preorder;
      valued = record { first = order.valued.first; adjacent = order.valued.adjacent; inside = λ i inside. omega (arith, order.valued.inside i inside) };
      entered = order.entered;
      ended = order.ended;
      apart = order.apart;
      spans = spans_more f.values v (length f.section) order.spans next.inside next.after;
    }

pub value_held : (f : Arena) (v : Value) → IsHeld f → IsNextValue f v → length f.values + 1 < 2 ^ 32 → IsHeld (with_value f v)
value_held f v held next few = record {
  order = value_in_order f v held.order next;
  count = record { entries = held.count.entries; values = omega (arith, length_push f.values v); ends = held.count.ends };
}

abbrev pub no_entry : Entry
no_entry = record { at = 0; len = 0; depth = 0; decl = 0; first = 0; count = 0 }

-- the first of a list with one more
first_more : {X : Type 0} (P : X → Type 0) (xs : List X) (x d : X) → (0 < length xs → P (get_or xs 0 d)) → (xs ≡ [] → P x) → P (get_or (xs ++ x ∷ []) 0 d)
first_more {X} P [] x d old new = new refl
first_more {X} P (y ∷ ys) x d old new = old (omega arith)

pub entry_in_order : (f : Arena) (e : Entry) → IsInOrder f → IsNextEntry f e → IsInOrder (with_entry f e)
entry_in_order f e order next =
    let es = f.entries in
    let count : length (es ++ e ∷ []) ≡ length es + 1 = length_push es e in
    record {
      preorder = record {
        root = λ _. first_more (λ z. z.depth ≡ 0) es e no_entry order.preorder.root (λ none. (next.root none).0);
        below = next_more (λ y z. z.depth ≤ y.depth + 1) es e no_entry order.preorder.below next.below;
      };
      valued = record {
        first = λ _. first_more (λ z. z.first ≡ 0) es e no_entry order.valued.first (λ none. (next.root none).1);
        adjacent = next_more (λ y z. z.first ≡ y.first + y.count) es e no_entry order.valued.adjacent next.adjacent;
        inside = λ i inside. at_more (λ z. z.first + z.count ≤ length f.values) es e no_entry i (order.valued.inside i) (λ _. next.valued) inside;
      };
      entered = record {
        wide = λ i inside. at_more (λ z. 0 < z.len) es e no_entry i (order.entered.wide i) (λ _. next.wide) inside;
        inside = λ i inside. at_more (λ z. z.at + z.len ≤ length f.section) es e no_entry i (order.entered.inside i) (λ _. next.inside) inside;
        rising = pair_more (λ y z. y.at + y.len ≤ z.at) es e no_entry order.entered.rising next.place.entered;
      };
      ended = record {
        owned = λ i inside. omega (arith, order.ended.owned i inside, count);
        inside = order.ended.inside;
        rising = order.ended.rising;
      };
      apart = λ i j li lj.
          at_more (λ z. ((chain_end_at f.ends j).at < z.at) ⊎ (z.at + z.len ≤ (chain_end_at f.ends j).at)) es e no_entry i (λ l. order.apart i j l lj) (λ _. inl (next.place.ended j lj)) li;
      spans = order.spans;
    }

pub end_in_order : (f : Arena) (id place : ℕ) → IsInOrder f → IsNextEnd f id place → IsInOrder (with_end f (record { entry = id; at = place }))
end_in_order f id place order next =
    let end : ChainEnd = record { entry = id; at = place } in
    let none : ChainEnd = record { entry = 0; at = 0 } in
    let count : length (f.ends ++ end ∷ []) ≡ length f.ends + 1 = length_push f.ends end in
    record {
      preorder = order.preorder;
      valued = order.valued;
      entered = order.entered;
      ended = record {
        owned = λ i inside. at_more (λ z. z.entry < length f.entries) f.ends end none i (order.ended.owned i) (λ _. next.owned) inside;
        inside = λ i inside. at_more (λ z. z.at < length f.section) f.ends end none i (order.ended.inside i) (λ _. next.inside) inside;
        rising = pair_more (λ y z. y.at < z.at) f.ends end none order.ended.rising next.after.ended;
      };
      apart = λ i j li lj.
          at_more (λ z. (z.at < (entry_at f.entries i).at) ⊎ ((entry_at f.entries i).at + (entry_at f.entries i).len ≤ z.at)) f.ends end none j (λ l. order.apart i j li l) (λ _. inr (next.after.entered i li)) lj;
      spans = order.spans;
    }

-- OTHER VALUES

abbrev pub LendSame : Value → Value → Type 0
LendSame v w = span_of w ≡ span_of v

-- where the bytes lie that a value lends, and the other way round
lent : (size : ℕ) (v : Value) → LiesIn size v → IfSome (span_of v) (λ s. s.at + s.len ≤ size)
lent size (value.Wide16 span) lies = lies
lent size (value.Block span) lies = lies
lent size (value.Expr span) lies = lies
lent size (value.Text span) lies = lies
lent size v lies = tt

lies : (size : ℕ) (v : Value) → IfSome (span_of v) (λ s. s.at + s.len ≤ size) → LiesIn size v
lies size (value.Wide16 span) lent = lent
lies size (value.Block span) lent = lent
lies size (value.Expr span) lent = lent
lies size (value.Text span) lent = lent
lies size v lent = tt

spans_alike : (olds news : List Value) (size : ℕ) → LendAlike olds news → SpansRise olds size → SpansRise news size
spans_alike olds news size alike spans =
    let count : length olds ≡ length news = length_all_zip LendSame olds news alike in
    let same : (i : ℕ) → i < length news → span_of (value_at news i) ≡ span_of (value_at olds i) = λ i inside. AllZip-get_or LendSame olds news i (value.Addr 0) (value.Addr 0) alike (omega arith) in
    record {
      inside = λ i inside.
          lies size (value_at news i) (subst (λ (o : Option Span). IfSome o (λ s. s.at + s.len ≤ size)) (sym (same i inside)) (lent size (value_at olds i) (spans.inside i (omega arith))));
      rising = λ i j less inside.
          let before : ComesBefore (value_at olds i) (value_at olds j) = spans.rising i j less (omega arith) in
          let first = subst (λ (o : Option Span). IfSome o (λ s. IfSome (span_of (value_at olds j)) (λ t. s.at + s.len ≤ t.at))) (sym (same i (omega arith))) before in
          subst (λ (o : Option Span). IfSome (span_of (value_at news i)) (λ s. IfSome o (λ t. s.at + s.len ≤ t.at))) (sym (same j inside)) first;
    }

-- other values that lend the same bytes are in order too
pub values_held : (f : Arena) (values : List Value) → IsHeld f → LendAlike f.values values → IsHeld (with_values f values)
values_held f values held alike =
    let count : length f.values ≡ length values = length_all_zip LendSame f.values values alike in
    let order = held.order in
    record {
      order = record {
        preorder = order.preorder;
        valued = record { first = order.valued.first; adjacent = order.valued.adjacent; inside = λ i inside. omega (arith, order.valued.inside i inside) };
        entered = order.entered;
        ended = order.ended;
        apart = order.apart;
        spans = spans_alike f.values values (length f.section) alike order.spans;
      };
      count = record { entries = held.count.entries; values = omega (arith, held.count.values); ends = held.count.ends };
    }
