-- A walk lists things in the order in which a forest holds them.
use Rattle.std.proofs.Common.{◌≡◌, ◌≤◌, ◌<◌, ◌+◌, ◌-◌, ℕ, suc, List, [], ◌∷◌, ◌++◌, length, true, false, Bool, refl, sym, ap, subst, ◌∙◌, arith, length-append, append_assoc}
use Rattle.std.specs.Prelude.{ℤ, if◌then◌else◌}
use Rattle.std.proofs.lemmas.List.{append-nil, length_push}
use Rattle.form_codec.specs.declared.value.Value.{Value}
use Rattle.form_codec.specs.declared.value.Value.TheVariants as value
use Rattle.form_codec.specs.Forms.{SpellsValue}
use Rattle.form_codec.specs.Values.{meant_in, IsPlaced}
use Rattle.abbrev_tables.specs.declared.decl.Spec.{Spec}
use Rattle.abbrev_tables.specs.Tables.{Declared}
use Rattle.entry_arena.specs.declared.entry.Entry.{Entry}
use Rattle.entry_arena.specs.declared.entry.ChainEnd.{ChainEnd}
use Rattle.entry_arena.specs.Arena.{entry_at, value_at}
use Rattle.entry_arena.specs.Order.{IsInOrder, SpansRise, ComesAfterAll, IsNextEntry, IsNextValue, IsNextEnd}
use Rattle.entry_arena.specs.Trees.{Listed, SpellsBetween, ValuesBetween, declared_at, nothing_from, AddsEntry, AddsEnd}
use Rattle.entry_arena.specs.Walks.{Item, Walks, opened}
use Rattle.entry_arena.specs.Walks.Item.{AnEntry, AnEnd}
use Rattle.entry_arena.specs.Places.{held_of, held_with}
use Rattle.entry_arena.proofs.Held.{at_more, spans_more, entry_in_order, end_in_order, no_entry}
use Rattle.entry_arena.proofs.Spans.{EndsBy, lies_between, lies_in, comes_before, ends_later, ends_by}
use Rattle.entry_arena.proofs.StepLaws.{code_rises, values_inside}

-- values that were listed up to a place
pub record SpansEnd (section : List ℕ) (values : List Value) (place : ℕ) : Type 0 where
  pub rise : SpansRise values (length section)
  pub end : (i : ℕ) → i < length values → EndsBy place (value_at values i)

value_ends : (section : List ℕ) (name code : ℕ) (constant : ℤ) (values : List Value) (v : Value) (from next : ℕ) → SpansEnd section values from → SpellsBetween (SpellsValue name code constant (meant_in section v)) section from next → IsPlaced v from next → SpansEnd section (values ++ v ∷ []) next
value_ends section name code constant values v from next spans spelled placed =
    let lies = lies_between section name code constant v from next spelled placed in
    record {
      rise = spans_more values v (length section) spans.rise (lies_in (length section) from next v spelled.inside lies) (λ i inside. comes_before (value_at values i) v from next (spans.end i inside) lies);
      end = λ i inside. at_more (λ z. EndsBy next z) values v (value.Addr 0) i (λ l. ends_later (value_at values i) from next spelled.order (spans.end i l)) (λ _. ends_by v from next lies) inside;
    }

-- the values of columns lie in order, from a place up to another
values_end : (section : List ℕ) (cs : List Spec) (vs values : List Value) (from to : ℕ) → ValuesBetween section cs vs from to → SpansEnd section values from → (from ≤ to) × SpansEnd section (values ++ vs) to
values_end section [] [] values from to e spans = (omega arith, subst (λ (l : List Value). SpansEnd section l to) (sym (append-nil values)) (subst (λ n. SpansEnd section values n) e spans))
values_end section [] (v ∷ vs) values from to p spans = absurd p
values_end section (c ∷ cs) [] values from to p spans = absurd p
values_end section (c ∷ cs) (v ∷ vs) values from to (next, spelled, placed, rest) spans =
    let more = values_end section cs vs (values ++ v ∷ []) next to rest (value_ends section c.name c.form c.constant values v from next spans spelled placed) in
    (omega (arith, spelled.order, more.0), subst (λ (l : List Value). SpansEnd section l to) (append_assoc values (v ∷ []) vs) more.1)

-- numbers below a count
abbrev pub AreBelow : ℕ → List ℕ → Type 0
AreBelow count [] = Unit {0}
AreBelow count (n ∷ ns) = (n < count) × AreBelow count ns

below_more : (a b : ℕ) (ns : List ℕ) → a ≤ b → AreBelow a ns → AreBelow b ns
below_more a b [] le p = tt
below_more a b (n ∷ ns) le p = (omega (arith, p.0), below_more a b ns le p.1)

-- what is true after each step of a walk
pub record IsOrderly (section : List ℕ) (now : Listed) (chains : List ℕ) : Type 0 where
  pub order : IsInOrder (held_of section now)
  pub after : ComesAfterAll now.entries now.ends now.place
  pub spans : SpansEnd section now.values now.place
  pub used : (last : ℕ) → last + 1 ≡ length now.entries → length now.values ≡ (entry_at now.entries last).first + (entry_at now.entries last).count
  pub depth : (last : ℕ) → last + 1 ≡ length now.entries → length chains ≤ (entry_at now.entries last).depth + 1
  pub owned : AreBelow (length now.entries) chains
  pub root : now.entries ≡ [] → (chains ≡ []) × (now.values ≡ [])

listed_nothing : (section : List ℕ) (start : ℕ) → IsOrderly section (nothing_from start) []
listed_nothing section start = record {
  order = record {
    preorder = record { root = λ _. refl; below = λ i inside. absurd (omega arith) };
    valued = record { first = λ _. refl; adjacent = λ i inside. absurd (omega arith); inside = λ i inside. absurd (omega arith) };
    entered = record { wide = λ i inside. absurd (omega arith); inside = λ i inside. absurd (omega arith); rising = λ i j less inside. absurd (omega arith) };
    ended = record { owned = λ i inside. absurd (omega arith); inside = λ i inside. absurd (omega arith); rising = λ i j less inside. absurd (omega arith) };
    apart = λ i j li lj. absurd (omega arith);
    spans = record { inside = λ i inside. absurd (omega arith); rising = λ i j less inside. absurd (omega arith) };
  };
  after = record { entered = λ i inside. absurd (omega arith); ended = λ i inside. absurd (omega arith) };
  spans = record { rise = record { inside = λ i inside. absurd (omega arith); rising = λ i j less inside. absurd (omega arith) }; end = λ i inside. absurd (omega arith) };
  used = λ last e. absurd (omega arith);
  depth = λ last e. absurd (omega arith);
  owned = tt;
  root = λ _. (refl, refl);
}

-- it may be pushed, once its values are
pub entry_next : (section : List ℕ) (ds : List Declared) (number : ℕ) (old new : Listed) (chains : List ℕ) → IsOrderly section old chains → (a : AddsEntry section ds (length chains) number old new) → IsNextEntry (held_with section old a.values) (record { at = old.place; len = new.place - old.place; depth = length chains; decl = number; first = length old.values; count = length a.values })
entry_next section ds number old new chains o a =
    let wide : old.place < a.values_at = code_rises section ((declared_at ds number).code) old.place a.values_at a.coded in
    let spans : SpansEnd section old.values a.values_at = record { rise = o.spans.rise; end = λ i inside. ends_later (value_at old.values i) old.place a.values_at (omega arith) (o.spans.end i inside) } in
    let more = values_end section ((declared_at ds number).columns) a.values old.values a.values_at new.place a.valued spans in
    let inside : new.place ≤ length section = values_inside section ((declared_at ds number).columns) a.values a.values_at new.place a.coded.inside a.valued in
    record {
      place = o.after;
      wide = omega (arith, more.0);
      inside = omega (arith, more.0);
      root = λ none. (ap length (o.root none).0, ap length (o.root none).1);
      below = o.depth;
      adjacent = o.used;
      valued = omega (arith, length-append old.values a.values);
    }

same_listed : (a : Listed) (es : List Entry) (vs : List Value) (xs : List ChainEnd) → a.entries ≡ es → a.values ≡ vs → a.ends ≡ xs → record { entries = es; values = vs; ends = xs; place = a.place } ≡ a
same_listed a es vs xs e v x = sym (ap (λ (z : List Entry). record { entries = z; values = a.values; ends = a.ends; place = a.place }) e ∙ ap (λ (z : List Value). record { entries = es; values = z; ends = a.ends; place = a.place }) v ∙ ap (λ (z : List ChainEnd). record { entries = es; values = vs; ends = z; place = a.place }) x)

opened_below : (children : Bool) (id : ℕ) (chains : List ℕ) (count : ℕ) → id < count → AreBelow count chains → AreBelow count (if children then id ∷ chains else chains)
opened_below true id chains count less p = (less, p)
opened_below false id chains count less p = p

opened_most : (children : Bool) (id : ℕ) (chains : List ℕ) → length (if children then id ∷ chains else chains) ≤ length chains + 1
opened_most true id chains = omega arith
opened_most false id chains = omega arith

no_push : {X : Type 0} (xs : List X) (x : X) → xs ++ x ∷ [] ≡ [] → ⊥
no_push xs x e = omega (arith, length_push xs x, ap length e)

pub entry_orderly : (section : List ℕ) (ds : List Declared) (number : ℕ) (old new : Listed) (chains : List ℕ) → IsOrderly section old chains → AddsEntry section ds (length chains) number old new → IsOrderly section new (opened ds number (length old.entries) chains)
entry_orderly section ds number old new chains o a =
    let e : Entry = record { at = old.place; len = new.place - old.place; depth = length chains; decl = number; first = length old.values; count = length a.values } in
    let wide : old.place < a.values_at = code_rises section ((declared_at ds number).code) old.place a.values_at a.coded in
    let spans : SpansEnd section old.values a.values_at = record { rise = o.spans.rise; end = λ i inside. ends_later (value_at old.values i) old.place a.values_at (omega arith) (o.spans.end i inside) } in
    let more = values_end section ((declared_at ds number).columns) a.values old.values a.values_at new.place a.valued spans in
    let count : length (old.entries ++ e ∷ []) ≡ length old.entries + 1 = length_push old.entries e in
    let size : length (old.values ++ a.values) ≡ length old.values + length a.values = length-append old.values a.values in
    let with_values : IsInOrder (held_with section old a.values) = record {
      preorder = o.order.preorder;
      valued = record { first = o.order.valued.first; adjacent = o.order.valued.adjacent; inside = λ i inside. omega (arith, o.order.valued.inside i inside) };
      entered = o.order.entered;
      ended = o.order.ended;
      apart = o.order.apart;
      spans = more.1.rise;
    } in
    let last_is : (P : Entry → Type 0) (last : ℕ) → last + 1 ≡ length (old.entries ++ e ∷ []) → P e → P (entry_at (old.entries ++ e ∷ []) last) = λ P last here p. at_more P old.entries e no_entry last (λ l. absurd (omega arith)) (λ _. p) (omega arith) in
    let next : Listed = record { entries = old.entries ++ e ∷ []; values = old.values ++ a.values; ends = old.ends; place = new.place } in
    let orderly : IsOrderly section next (opened ds number (length old.entries) chains) = record {
      order = entry_in_order (held_with section old a.values) e with_values (entry_next section ds number old new chains o a);
      after = record {
        entered = λ i inside. at_more (λ z. z.at + z.len ≤ new.place) old.entries e no_entry i (λ l. omega (arith, o.after.entered i l, more.0)) (λ _. omega (arith, more.0)) inside;
        ended = λ i inside. omega (arith, o.after.ended i inside, more.0);
      };
      spans = more.1;
      used = λ last here. last_is (λ z. length (old.values ++ a.values) ≡ z.first + z.count) last here size;
      depth = λ last here. last_is (λ z. length (opened ds number (length old.entries) chains) ≤ z.depth + 1) last here (opened_most ((declared_at ds number).children) (length old.entries) chains);
      owned = opened_below ((declared_at ds number).children) (length old.entries) chains (length (old.entries ++ e ∷ [])) (omega arith) (below_more (length old.entries) (length (old.entries ++ e ∷ [])) chains (omega arith) o.owned);
      root = λ none. absurd (no_push old.entries e none);
    } in
    subst (λ (z : Listed). IsOrderly section z (opened ds number (length old.entries) chains)) (same_listed new (old.entries ++ e ∷ []) (old.values ++ a.values) old.ends a.entered a.listed a.ended) orderly

-- the code 0 that a step adds may be pushed
pub end_next : (section : List ℕ) (id : ℕ) (old new : Listed) (chains outer : List ℕ) → IsOrderly section old chains → chains ≡ id ∷ outer → AddsEnd section id old new → IsNextEnd (held_of section old) id old.place
end_next section id old new chains outer o e a =
    let wide : old.place < new.place = code_rises section 0 old.place new.place a.coded in
    let below : AreBelow (length old.entries) (id ∷ outer) = subst (AreBelow (length old.entries)) e o.owned in
    record { after = o.after; inside = omega (arith, a.coded.inside); owned = below.0 }

pub end_orderly : (section : List ℕ) (id : ℕ) (old new : Listed) (chains outer : List ℕ) → IsOrderly section old chains → chains ≡ id ∷ outer → AddsEnd section id old new → IsOrderly section new outer
end_orderly section id old new chains outer o e a =
    let end : ChainEnd = record { entry = id; at = old.place } in
    let wide : old.place < new.place = code_rises section 0 old.place new.place a.coded in
    let below : AreBelow (length old.entries) (id ∷ outer) = subst (AreBelow (length old.entries)) e o.owned in
    let many : length chains ≡ suc (length outer) = ap length e in
    let next : Listed = record { entries = old.entries; values = old.values; ends = old.ends ++ end ∷ []; place = new.place } in
    let orderly : IsOrderly section next outer = record {
      order = end_in_order (held_of section old) id old.place o.order (end_next section id old new chains outer o e a);
      after = record {
        entered = λ i inside. omega (arith, o.after.entered i inside);
        ended = λ i inside. at_more (λ z. z.at < new.place) old.ends end (record { entry = 0; at = 0 }) i (λ l. omega (arith, o.after.ended i l)) (λ _. wide) inside;
      };
      spans = record { rise = o.spans.rise; end = λ i inside. ends_later (value_at old.values i) old.place new.place (omega arith) (o.spans.end i inside) };
      used = o.used;
      depth = λ last here. omega (arith, o.depth last here);
      owned = below.1;
      root = λ none. absurd (omega (arith, many, ap length (o.root none).0));
    } in
    subst (λ (z : Listed). IsOrderly section z outer) (same_listed new old.entries old.values (old.ends ++ end ∷ []) a.entered a.listed a.ended) orderly

walk_orderly : (section : List ℕ) (ds : List Declared) (items : List Item) (old new : Listed) (chains left : List ℕ) → IsOrderly section old chains → Walks section ds old chains items new left → IsOrderly section new left
walk_orderly section ds [] old new chains left o (same, none) =
    subst (λ (z : Listed). IsOrderly section z left) (sym same) (subst (λ (l : List ℕ). IsOrderly section old l) (sym none) o)
walk_orderly section ds (AnEntry number ∷ items) old new chains left o (going, (mid, added, rest)) =
    walk_orderly section ds items mid new (opened ds number (length old.entries) chains) left (entry_orderly section ds number old mid chains o added) rest
walk_orderly section ds (AnEnd ∷ items) old new chains left o (id, outer, mid, e, added, rest) =
    walk_orderly section ds items mid new outer left (end_orderly section id old mid chains outer o e added) rest

module _ (section : List ℕ) (ds : List Declared) (start : ℕ) (items : List Item) (now : Listed) (chains : List ℕ) (walked : Walks section ds (nothing_from start) [] items now chains) where
  pub walked_orderly : IsOrderly section now chains
  walked_orderly = walk_orderly section ds items (nothing_from start) now [] chains (listed_nothing section start) walked

  -- a value of the entry that stands next may be pushed, after those before it
  pub walked_value : (values_at from next : ℕ) (columns : List Spec) (values : List Value) (name code : ℕ) (constant : ℤ) (v : Value) → now.place ≤ values_at → ValuesBetween section columns values values_at from → SpellsBetween (SpellsValue name code constant (meant_in section v)) section from next → IsPlaced v from next → IsNextValue (held_with section now values) v
  walked_value values_at from next columns values name code constant v starts valued spelled placed =
      let o = walked_orderly in
      let spans : SpansEnd section now.values values_at = record { rise = o.spans.rise; end = λ i inside. ends_later (value_at now.values i) now.place values_at starts (o.spans.end i inside) } in
      let more = values_end section columns values now.values values_at from valued spans in
      let lies = lies_between section name code constant v from next spelled placed in
      record {
        inside = lies_in (length section) from next v spelled.inside lies;
        after = λ i inside. comes_before (value_at (now.values ++ values) i) v from next (more.1.end i inside) lies;
      }
