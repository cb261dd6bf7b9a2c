-- Places of the items of a walk: one more item at the end, all moved, and that there is one placing.
use Rattle.std.proofs.Common.{◌≡◌, ◌≤◌, ◌<◌, ◌+◌, ◌-◌, ℕ, zero, suc, List, [], ◌∷◌, ◌++◌, length, get_or, map, ◌∙◌, sym, ap, refl, subst, arith, add-zero}
use Rattle.form_codec.specs.declared.value.Value.{Value}
use Rattle.form_codec.specs.Values.{meant_in}
use Rattle.abbrev_tables.specs.declared.decl.Spec.{Spec}
use Rattle.abbrev_tables.specs.Listings.{Listing}
use Rattle.entry_arena.specs.Arena.{Arena, entry_at}
use Rattle.entry_arena.specs.Walks.{Item}
use Rattle.entry_arena.specs.Walks.Item.{AnEntry, AnEnd}
use Rattle.entry_read.specs.Units.{HeadAndForest, entries_at}
use Rattle.unit_write.specs.Values.{HaveSize, OneSize}
use Rattle.unit_write.specs.Moved.{IsPlacedAt}
use Rattle.unit_write.specs.Placing.{columns_of, values_in, among_values, EntrySize, ArePlaced, OnePlacing}

module _ (Size : ℕ → ℕ → Type 0) where
  pub placed_entry : (id at : ℕ) (items : List Item) (entries ends : List ℕ) (to number size : ℕ) → ArePlaced Size id items at entries ends to → Size (id + length entries) size → ArePlaced Size id (items ++ AnEntry number ∷ []) at (entries ++ to ∷ []) ends (to + size)
  placed_entry id at [] [] [] to number size p s =
      (sym p, (size, subst (λ (z : ℕ). Size z size) (add-zero id) s, ap (λ (z : ℕ). z + size) p))
  placed_entry id at [] [] (y ∷ ends) to number size p s = absurd p
  placed_entry id at [] (x ∷ entries) ends to number size p s = absurd p
  placed_entry id at (AnEntry k ∷ items) [] ends to number size p s = absurd p
  placed_entry id at (AnEntry k ∷ items) (x ∷ entries) ends to number size p s =
      let e : id + suc (length entries) ≡ suc id + length entries = omega arith in
      (p.0, (p.1.0, p.1.1, placed_entry (suc id) (at + p.1.0) items entries ends to number size p.1.2 (subst (λ (z : ℕ). Size z size) e s)))
  placed_entry id at (AnEnd ∷ items) entries [] to number size p s = absurd p
  placed_entry id at (AnEnd ∷ items) entries (y ∷ ends) to number size p s =
      (p.0, placed_entry id (at + 1) items entries ends to number size p.1 s)

  pub placed_end : (id at : ℕ) (items : List Item) (entries ends : List ℕ) (to : ℕ) → ArePlaced Size id items at entries ends to → ArePlaced Size id (items ++ AnEnd ∷ []) at entries (ends ++ to ∷ []) (to + 1)
  placed_end id at [] [] [] to p = (sym p, ap (λ (z : ℕ). z + 1) p)
  placed_end id at [] [] (y ∷ ends) to p = absurd p
  placed_end id at [] (x ∷ entries) ends to p = absurd p
  placed_end id at (AnEntry k ∷ items) [] ends to p = absurd p
  placed_end id at (AnEntry k ∷ items) (x ∷ entries) ends to p = (p.0, (p.1.0, p.1.1, placed_end (suc id) (at + p.1.0) items entries ends to p.1.2))
  placed_end id at (AnEnd ∷ items) entries [] to p = absurd p
  placed_end id at (AnEnd ∷ items) entries (y ∷ ends) to p = (p.0, placed_end id (at + 1) items entries ends to p.1)

  -- they end behind where they begin
  pub placed_order : (id at : ℕ) (items : List Item) (entries ends : List ℕ) (to : ℕ) → ArePlaced Size id items at entries ends to → at ≤ to
  placed_order id at [] [] [] to p = omega (arith, p)
  placed_order id at [] [] (y ∷ ends) to p = absurd p
  placed_order id at [] (x ∷ entries) ends to p = absurd p
  placed_order id at (AnEntry k ∷ items) [] ends to p = absurd p
  placed_order id at (AnEntry k ∷ items) (x ∷ entries) ends to (here, (size, sized, more)) = let up : at + size ≤ to = placed_order (suc id) (at + size) items entries ends to more in omega arith
  placed_order id at (AnEnd ∷ items) entries [] to p = absurd p
  placed_order id at (AnEnd ∷ items) entries (y ∷ ends) to (here, more) = let up : at + 1 ≤ to = placed_order id (at + 1) items entries ends to more in omega arith

  -- no entry stands behind the end
  pub entries_below : (id at : ℕ) (items : List Item) (entries ends : List ℕ) (to k : ℕ) → ArePlaced Size id items at entries ends to → k < length entries → get_or entries k 0 ≤ to
  entries_below id at [] [] ends to k p lt = absurd (omega arith)
  entries_below id at [] (x ∷ entries) ends to k p lt = absurd p
  entries_below id at (AnEntry n ∷ items) [] ends to k p lt = absurd p
  entries_below id at (AnEntry n ∷ items) (x ∷ entries) ends to zero (here, (size, sized, more)) lt = let up : at + size ≤ to = placed_order (suc id) (at + size) items entries ends to more in omega (arith, here, up)
  entries_below id at (AnEntry n ∷ items) (x ∷ entries) ends to (suc k) (here, (size, sized, more)) lt = entries_below (suc id) (at + size) items entries ends to k more (omega arith)
  entries_below id at (AnEnd ∷ items) entries [] to k p lt = absurd p
  entries_below id at (AnEnd ∷ items) entries (y ∷ ends) to k (here, more) lt = entries_below id (at + 1) items entries ends to k more lt

  -- nor a code 0
  pub ends_below : (id at : ℕ) (items : List Item) (entries ends : List ℕ) (to k : ℕ) → ArePlaced Size id items at entries ends to → k < length ends → get_or ends k 0 ≤ to
  ends_below id at [] entries [] to k p lt = absurd (omega arith)
  ends_below id at [] [] (y ∷ ends) to k p lt = absurd p
  ends_below id at [] (x ∷ entries) (y ∷ ends) to k p lt = absurd p
  ends_below id at (AnEntry n ∷ items) [] ends to k p lt = absurd p
  ends_below id at (AnEntry n ∷ items) (x ∷ entries) ends to k (here, (size, sized, more)) lt = ends_below (suc id) (at + size) items entries ends to k more lt
  ends_below id at (AnEnd ∷ items) entries [] to k p lt = absurd p
  ends_below id at (AnEnd ∷ items) entries (y ∷ ends) to zero (here, more) lt = let up : at + 1 ≤ to = placed_order id (at + 1) items entries ends to more in omega (arith, here, up)
  ends_below id at (AnEnd ∷ items) entries (y ∷ ends) to (suc k) (here, more) lt = ends_below id (at + 1) items entries ends to k more (omega arith)

  -- from another place on each stands as much further on
  pub placed_moved : (start id at : ℕ) (items : List Item) (entries ends : List ℕ) (to : ℕ) → ArePlaced Size id items at entries ends to → ArePlaced Size id items (start + at) (map (λ (place : ℕ). place + start) entries) (map (λ (place : ℕ). place + start) ends) (start + to)
  placed_moved start id at [] [] [] to p = ap (λ (z : ℕ). start + z) p
  placed_moved start id at [] [] (y ∷ ends) to p = absurd p
  placed_moved start id at [] (x ∷ entries) ends to p = absurd p
  placed_moved start id at (AnEntry k ∷ items) [] ends to p = absurd p
  placed_moved start id at (AnEntry k ∷ items) (x ∷ entries) ends to (here, (size, sized, more)) =
      let next : start + (at + size) ≡ start + at + size = omega arith in
      let rest = placed_moved start (suc id) (at + size) items entries ends to more in
      (omega (arith, here), (size, sized, subst (λ (z : ℕ). ArePlaced Size (suc id) items z (map (λ (place : ℕ). place + start) entries) (map (λ (place : ℕ). place + start) ends) (start + to)) next rest))
  placed_moved start id at (AnEnd ∷ items) entries [] to p = absurd p
  placed_moved start id at (AnEnd ∷ items) entries (y ∷ ends) to (here, more) =
      let next : start + (at + 1) ≡ start + at + 1 = omega arith in
      let rest = placed_moved start id (at + 1) items entries ends to more in
      (omega (arith, here), subst (λ (z : ℕ). ArePlaced Size id items z (map (λ (place : ℕ). place + start) entries) (map (λ (place : ℕ). place + start) ends) (start + to)) next rest)

  abbrev AreSame : List ℕ → List ℕ → List ℕ → List ℕ → ℕ → ℕ → Type 0
  AreSame entries others ends other_ends to other = (entries ≡ others) × (ends ≡ other_ends) × (to ≡ other)

  -- where each thing has one size, items are placed in one way
  pub placed_once : ((id m n : ℕ) → Size id m → Size id n → m ≡ n) → (id at : ℕ) (items : List Item) (entries others ends other_ends : List ℕ) (to other : ℕ) → ArePlaced Size id items at entries ends to → ArePlaced Size id items at others other_ends other → AreSame entries others ends other_ends to other
  placed_once one id at [] [] [] [] [] to other p q = (refl, refl, sym p ∙ q)
  placed_once one id at [] (x ∷ entries) others ends other_ends to other p q = absurd p
  placed_once one id at [] [] others (y ∷ ends) other_ends to other p q = absurd p
  placed_once one id at [] [] (x ∷ others) [] other_ends to other p q = absurd q
  placed_once one id at [] [] [] [] (y ∷ other_ends) to other p q = absurd q
  placed_once one id at (AnEntry k ∷ items) [] others ends other_ends to other p q = absurd p
  placed_once one id at (AnEntry k ∷ items) (x ∷ entries) [] ends other_ends to other p q = absurd q
  placed_once one id at (AnEntry k ∷ items) (x ∷ entries) (z ∷ others) ends other_ends to other p q =
      let size : q.1.0 ≡ p.1.0 = one id q.1.0 p.1.0 q.1.1 p.1.1 in
      let moved = subst (λ (n : ℕ). ArePlaced Size (suc id) items (at + n) others other_ends other) size q.1.2 in
      let more = placed_once one (suc id) (at + p.1.0) items entries others ends other_ends to other p.1.2 moved in
      let here : x ≡ z = p.0 ∙ sym q.0 in
      let same : entries ≡ others = more.0 in
      (cc, more.1, more.2)
  placed_once one id at (AnEnd ∷ items) entries others [] other_ends to other p q = absurd p
  placed_once one id at (AnEnd ∷ items) entries others (y ∷ ends) [] to other p q = absurd q
  placed_once one id at (AnEnd ∷ items) entries others (y ∷ ends) (w ∷ other_ends) to other p q =
      let more = placed_once one id (at + 1) items entries others ends other_ends to other p.1 q.1 in
      let here : y ≡ w = p.0 ∙ sym q.0 in
      let same : ends ≡ other_ends = more.1 in
      (more.0, cc, more.2)

-- values have one size together
have_one_size : OneSize → (section : List ℕ) (columns : List Spec) (values : List Value) (lens : List ℕ) (m n : ℕ) → HaveSize section columns values lens m → HaveSize section columns values lens n → m ≡ n
have_one_size one section [] [] [] m n p q = p ∙ sym q
have_one_size one section [] [] (l ∷ lens) m n p q = absurd p
have_one_size one section [] (v ∷ values) lens m n p q = absurd p
have_one_size one section (c ∷ columns) [] lens m n p q = absurd p
have_one_size one section (c ∷ columns) (v ∷ values) [] m n p q = absurd p
have_one_size one section (c ∷ columns) (v ∷ values) (l ∷ lens) m n p q =
    let first : p.0 ≡ q.0 = one c (meant_in section v) l p.0 q.0 p.2 q.2 in
    let rest : p.1 ≡ q.1 = have_one_size one section columns values lens p.1 q.1 p.3 q.3 in
    let here : m ≡ p.0 + p.1 = p.4 in
    let there : n ≡ q.0 + q.1 = q.4 in
    omega arith

entry_one_size : OneSize → (table : Listing) (columns : List Spec) (numbers : List ℕ) (f : Arena) (lens : List ℕ) (id m n : ℕ) → EntrySize table columns numbers f lens id m → EntrySize table columns numbers f lens id n → m ≡ n
entry_one_size one table columns numbers f lens id m n p q =
    let rest : p.0 ≡ q.0 = have_one_size one f.section (columns_of table columns (entry_at f.entries id).decl) (values_in f id) (among_values f lens id) p.0 q.0 p.1 q.1 in
    let here = p.2 in
    let there = q.2 in
    omega (arith, here, there)

-- the law, from that of values
pub one_placing : OneSize → OnePlacing
one_placing one table columns numbers f lens id at items entries others ends other_ends to other p q =
    placed_once (EntrySize table columns numbers f lens) (entry_one_size one table columns numbers f lens) id at items entries others ends other_ends to other p q

-- A PLACED UNIT

module _ (unit : HeadAndForest) (table : Listing) (columns : List Spec) (numbers lens : List ℕ) where
  abbrev own_size : ℕ → ℕ → Type 0
  own_size = EntrySize table columns numbers unit.forest lens

  -- its entries and codes 0 don't stand behind its end
  pub entries_inside : (start : ℕ) (entries ends : List ℕ) (to k : ℕ) → IsPlacedAt unit table columns numbers lens start entries ends to → k < length entries → get_or entries k 0 ≤ to
  entries_inside start entries ends to k p lt = entries_below own_size 0 (start + (entries_at unit.head - unit.head.at)) p.whole.items entries ends to k p.placed lt

  pub ends_inside : (start : ℕ) (entries ends : List ℕ) (to k : ℕ) → IsPlacedAt unit table columns numbers lens start entries ends to → k < length ends → get_or ends k 0 ≤ to
  ends_inside start entries ends to k p lt = ends_below own_size 0 (start + (entries_at unit.head - unit.head.at)) p.whole.items entries ends to k p.placed lt

  -- where it begins elsewhere, all is moved
  pub unit_moved : (start : ℕ) (entries ends : List ℕ) (to : ℕ) → IsPlacedAt unit table columns numbers lens 0 entries ends to → IsPlacedAt unit table columns numbers lens start (map (λ (place : ℕ). place + start) entries) (map (λ (place : ℕ). place + start) ends) (start + to)
  unit_moved start entries ends to p =
      let first : ℕ = entries_at unit.head - unit.head.at in
      let here : start + (0 + first) ≡ start + first = omega arith in
      record {
        place = p.place;
        values = p.values;
        whole = p.whole;
        placed = subst (λ (z : ℕ). ArePlaced own_size 0 p.whole.items z (map (λ (place : ℕ). place + start) entries) (map (λ (place : ℕ). place + start) ends) (start + to)) here (placed_moved own_size start 0 (0 + first) p.whole.items entries ends to p.placed);
      }
