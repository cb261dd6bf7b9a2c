-- Each entry and each code 0 has its place, behind the beginning of its unit.
use Rattle.std.proofs.Common.{◌≡◌, ◌≤◌, ◌<◌, ◌+◌, ◌-◌, ℕ, zero, suc, List, [], ◌∷◌, length, slice_index, ◌∙◌, ap, refl, arith}
use Rattle.std.specs.Prelude.{Bool, true, false, nat_eq, if◌then◌else◌}
use Rattle.std.proofs.lemmas.List.{length-append}
use Rattle.abbrev_tables.specs.Tables.{Declared}
use Rattle.entry_arena.specs.declared.entry.Entry.{Entry}
use Rattle.entry_arena.specs.declared.entry.ChainEnd.{ChainEnd}
use Rattle.entry_arena.specs.Trees.{Listed, nothing_from}
use Rattle.entry_arena.specs.Walks.{Item, opened, Walks}
use Rattle.entry_arena.specs.Walks.Item.{AnEntry, AnEnd}
use Rattle.abbrev_tables.specs.declared.decl.Spec.{Spec}
use Rattle.abbrev_tables.specs.Listings.{Listing}
use Rattle.entry_read.specs.Heads.{type_unit, skeleton_unit, header_size}
use Rattle.entry_read.specs.Units.{HeadAndForest, entries_at, declarations_of}
use Rattle.unit_write.specs.declared.places.Places.{Places}
use Rattle.unit_write.specs.Placing.{EntrySize, ArePlaced}
use Rattle.unit_write.specs.Moved.{IsPlacedAt}
use Rattle.value_links.specs.World.{World}
use Rattle.rewriter.specs.declared.tables.NewTable.{NewTable}
use Rattle.rewriter.specs.inside.Placed.{places_at, written_in, ArePlacesOf}
use Rattle.rewriter.specs.inside.Held.{HavePlaces, AllHavePlaces}

-- as many entries, and as many ends, as places
abbrev Counts : Listed → Listed → List ℕ → List ℕ → Type 0
Counts old new entries ends = (length new.entries ≡ length old.entries + length entries) × (length new.ends ≡ length old.ends + length ends)

module _ (Size : ℕ → ℕ → Type 0) where
  placed_counts : (section : List ℕ) (ds : List Declared) (old : Listed) (chains : List ℕ) (new : Listed) (left : List ℕ) (id at : ℕ) (items : List Item) (entries ends : List ℕ) (to : ℕ) → Walks section ds old chains items new left → ArePlaced Size id items at entries ends to → Counts old new entries ends
  placed_counts section ds old chains new left id at [] [] [] to w p =
      let same_entries : length new.entries ≡ length old.entries = ap (λ (z : Listed). length z.entries) w.0 in
      let same_ends : length new.ends ≡ length old.ends = ap (λ (z : Listed). length z.ends) w.0 in
      (omega arith, omega arith)
  placed_counts section ds old chains new left id at [] [] (y ∷ ends) to w p = absurd p
  placed_counts section ds old chains new left id at [] (x ∷ entries) ends to w p = absurd p
  placed_counts section ds old chains new left id at (AnEntry k ∷ items) [] ends to w p = absurd p
  placed_counts section ds old chains new left id at (AnEntry k ∷ items) (x ∷ entries) ends to (going, (mid, adds, walk)) p =
      let e : Entry = record { at = old.place; len = mid.place - old.place; depth = length chains; decl = k; first = length old.values; count = length adds.values } in
      let one : length mid.entries ≡ length old.entries + 1 = ap length adds.entered ∙ length-append old.entries (e ∷ []) in
      let none : length mid.ends ≡ length old.ends = ap length adds.ended in
      let more = placed_counts section ds mid (opened ds k (length old.entries) chains) new left (suc id) (at + p.1.0) items entries ends to walk p.1.2 in
      let more_entries : length new.entries ≡ length mid.entries + length entries = more.0 in
      let more_ends : length new.ends ≡ length mid.ends + length ends = more.1 in
      (omega arith, omega arith)
  placed_counts section ds old chains new left id at (AnEnd ∷ items) entries [] to w p = absurd p
  placed_counts section ds old chains new left id at (AnEnd ∷ items) entries (y ∷ ends) to (parent, outer, mid, e, adds, walk) p =
      let c : ChainEnd = record { entry = parent; at = old.place } in
      let none : length mid.entries ≡ length old.entries = ap length adds.entered in
      let one : length mid.ends ≡ length old.ends + 1 = ap length adds.ended ∙ length-append old.ends (c ∷ []) in
      let more = placed_counts section ds mid outer new left id (at + 1) items entries ends to walk p.1 in
      let more_entries : length new.entries ≡ length mid.entries + length entries = more.0 in
      let more_ends : length new.ends ≡ length mid.ends + length ends = more.1 in
      (omega arith, omega arith)

  entries_after : (id at : ℕ) (items : List Item) (entries ends : List ℕ) (to k : ℕ) → ArePlaced Size id items at entries ends to → k < length entries → at ≤ slice_index entries k
  entries_after id at [] [] ends to k p inside = absurd (let b : k < 0 = inside in omega arith)
  entries_after id at [] (x ∷ entries) ends to k p inside = absurd p
  entries_after id at (AnEntry n ∷ items) [] ends to k p inside = absurd p
  entries_after id at (AnEntry n ∷ items) (x ∷ entries) ends to zero p inside = let same : x ≡ at = p.0 in let le : at ≤ x = omega arith in le
  entries_after id at (AnEntry n ∷ items) (x ∷ entries) ends to (suc k) p inside =
      let more : at + p.1.0 ≤ slice_index entries k = entries_after (suc id) (at + p.1.0) items entries ends to k p.1.2 (omega arith) in
      let le : at ≤ slice_index entries k = omega arith in
      le
  entries_after id at (AnEnd ∷ items) entries [] to k p inside = absurd p
  entries_after id at (AnEnd ∷ items) entries (y ∷ ends) to k p inside =
      let more : at + 1 ≤ slice_index entries k = entries_after id (at + 1) items entries ends to k p.1 inside in
      omega arith

  ends_after : (id at : ℕ) (items : List Item) (entries ends : List ℕ) (to k : ℕ) → ArePlaced Size id items at entries ends to → k < length ends → at ≤ slice_index ends k
  ends_after id at [] [] [] to k p inside = absurd (let b : k < 0 = inside in omega arith)
  ends_after id at [] [] (y ∷ ends) to k p inside = absurd p
  ends_after id at [] (x ∷ entries) ends to k p inside = absurd p
  ends_after id at (AnEntry n ∷ items) [] ends to k p inside = absurd p
  ends_after id at (AnEntry n ∷ items) (x ∷ entries) ends to k p inside =
      let more : at + p.1.0 ≤ slice_index ends k = ends_after (suc id) (at + p.1.0) items entries ends to k p.1.2 inside in
      omega arith
  ends_after id at (AnEnd ∷ items) entries [] to k p inside = absurd p
  ends_after id at (AnEnd ∷ items) entries (y ∷ ends) to zero p inside = let same : y ≡ at = p.0 in let le : at ≤ y = omega arith in le
  ends_after id at (AnEnd ∷ items) entries (y ∷ ends) to (suc k) p inside =
      let more : at + 1 ≤ slice_index ends k = ends_after id (at + 1) items entries ends to k p.1 (omega arith) in
      let le : at ≤ slice_index ends k = omega arith in
      le

pub placed_have : (unit : HeadAndForest) (table : Listing) (columns : List Spec) (numbers lens : List ℕ) (start : ℕ) (entries ends : List ℕ) (to : ℕ) → IsPlacedAt unit table columns numbers lens start entries ends to → HavePlaces unit.forest (record { start = start; entries = entries; ends = ends; end = to })
placed_have unit table columns numbers lens start entries ends to p =
    let first : ℕ = start + (entries_at unit.head - unit.head.at) in
    let counts = placed_counts (EntrySize table columns numbers unit.forest lens) unit.forest.section (declarations_of table) (nothing_from (entries_at unit.head)) [] (record { entries = unit.forest.entries; values = p.values; ends = unit.forest.ends; place = p.place }) [] 0 (start + (entries_at unit.head - unit.head.at)) p.whole.items entries ends to p.whole.walked p.placed in
    let count_entries : length unit.forest.entries ≡ 0 + length entries = counts.0 in
    let count_ends : length unit.forest.ends ≡ 0 + length ends = counts.1 in
    record {
      entries = omega arith;
      ends = omega arith;
      entries_after = λ k inside. let le : start + (entries_at unit.head - unit.head.at) ≤ slice_index entries k = entries_after (EntrySize table columns numbers unit.forest lens) 0 (start + (entries_at unit.head - unit.head.at)) p.whole.items entries ends to k p.placed inside in omega arith;
      ends_after = λ k inside. let le : start + (entries_at unit.head - unit.head.at) ≤ slice_index ends k = ends_after (EntrySize table columns numbers unit.forest lens) 0 (start + (entries_at unit.head - unit.head.at)) p.whole.items entries ends to k p.placed inside in omega arith;
    }

-- a header has bytes, so that no entry stands at the first byte of its unit
header_some : (a b : Bool) → 0 < (if a then 24 else if b then 20 else 12)
header_some true b = omega arith
header_some false true = omega arith
header_some false false = omega arith

pub has_header : (kind : ℕ) → 0 < header_size kind
has_header kind = header_some (nat_eq kind type_unit) (nat_eq kind skeleton_unit)

pub placed_behind : (unit : HeadAndForest) (table : Listing) (columns : List Spec) (numbers lens : List ℕ) (start : ℕ) (entries ends : List ℕ) (to : ℕ) → IsPlacedAt unit table columns numbers lens start entries ends to → (k : ℕ) → k < length unit.forest.entries → start < slice_index entries k
placed_behind unit table columns numbers lens start entries ends to p k inside =
    let have = placed_have unit table columns numbers lens start entries ends to p in
    let count : length entries ≡ length unit.forest.entries = have.entries in
    let from : start + (entries_at unit.head - unit.head.at) ≤ slice_index entries k = entries_after (EntrySize table columns numbers unit.forest lens) 0 (start + (entries_at unit.head - unit.head.at)) p.whole.items entries ends to k p.placed (omega (arith, count, inside)) in
    let some = has_header unit.head.kind in
    let begins : entries_at unit.head ≡ unit.head.at + header_size unit.head.kind = refl in
    omega (arith, from, some, begins)

pub all_placed : (world : World) (tables : List NewTable) (places : List Places) (size : ℕ) → ArePlacesOf world tables places size → AllHavePlaces world places
all_placed world tables places size are = record {
  count = are.count;
  each = λ u inside.
      let have = placed_have (written_in world tables u) _ _ _ _ (places_at places u).start (places_at places u).entries (places_at places u).ends (places_at places u).end (are.each u inside).placed in
      record { entries = have.entries; ends = have.ends; entries_after = have.entries_after; ends_after = have.ends_after };
}
