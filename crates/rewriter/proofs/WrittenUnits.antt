-- Units that stand anew, each at its place, are read of the new section, and are the old ones moved.
use Rattle.std.proofs.Common.{◌≡◌, ◌≤◌, ◌<◌, ◌+◌, ◌-◌, ◌++◌, ℕ, zero, suc, List, [], ◌∷◌, length, slice_index, take, drop, ◌∙◌, sym, ap, refl, subst, arith}
use Rattle.std.specs.Prelude.{map}
use Rattle.std.specs.List.{All, AllZip, sum_by}
use Rattle.std.proofs.lemmas.List.{take-append-drop, length-take-le}
use Rattle.std.proofs.lemmas.List.Elements.{All-from_get_or, length_all_zip}
use Rattle.std.proofs.lemmas.List.Sums.{sum_by-cons}
use Rattle.dw_base.specs.declared.classes.Classes.{Classes}
use Rattle.dw_base.specs.declared.fault.Reach.{Reach}
use Rattle.abbrev_tables.specs.Listings.{Listing, IsTableAt}
use Rattle.entry_arena.specs.declared.entry.Entry.{Entry}
use Rattle.entry_arena.specs.declared.entry.ChainEnd.{ChainEnd}
use Rattle.entry_arena.specs.Arena.{entry_at}
use Rattle.entry_arena.specs.Trees.{listed_to}
use Rattle.entry_read.specs.declared.head.UnitHead.{UnitHead}
use Rattle.fixed_width.specs.InitialLengths.{unit_end}
use Rattle.entry_read.specs.Heads.{IsHead, Follow}
use Rattle.entry_read.specs.Units.{HeadAndForest, end_of, declarations_of, IsUnit, IsWithin}
use Rattle.unit_write.specs.declared.places.Places.{Places}
use Rattle.unit_write.specs.Placing.{IsRenumbered}
use Rattle.entry_read.specs.Short.{StandsShort, EndsShort}
use Rattle.unit_write.specs.Moved.{IsMovedEntry, IsMovedEnd, AreMovedValues, IsWrittenAnew, new_values, lens_anew}
use Rattle.value_links.specs.Reading.{UnitRead, Reading, no_unit, unit_heads, unit_among, unit_at, counts_of, AreWithin, IsUnitRead, AreUnitsIn}
use Rattle.value_links.specs.World.{World, head_and_forest, table_at, Holds, IsWorldOf}
use Rattle.rewriter.specs.declared.tables.NewTable.{NewTable}
use Rattle.rewriter.specs.declared.new_places.NewPlaces.{NewPlaces}
use Rattle.rewriter.specs.inside.Tables.{new_table_at, IsTableWritten, AreTablesWritten}
use Rattle.rewriter.specs.inside.Placed.{PlacesAnew, places_anew, places_at, unit_in, written_in, AreTaken, PlacesFollow, ArePlacesOf}
use Rattle.rewriter.specs.inside.Numbers.{AreNewNumbers}
use Rattle.rewriter.specs.inside.Units.{IsUnitMoved, AreUnitsWritten}
use Rattle.rewriter.specs.inside.Held.{table_for, IsUnitBehind, StandAnew}
use Rattle.rewriter.proofs.HeadsStay.{head_stays}
use Rattle.rewriter.proofs.UnitsStay.{unit_stays, moved_stay, short_stays, ends_stay, written_fills, written_read}
use Rattle.rewriter.proofs.Standing.{held_count, held_unit}
use Rattle.rewriter.proofs.TakenLaws.{taken_count}
use Rattle.rewriter.proofs.Final.{table_known, unit_once}
use Rattle.rewriter.proofs.Written.{one_place, table_coded}

-- LISTS OF UNITS

-- so many units, of each of which something holds by its number
record Gathered (n : ℕ) (P : ℕ → UnitRead → Type 0) : Type 0 where
  pub units : List UnitRead
  pub count : length units ≡ n
  pub each : (u : ℕ) → u < n → P u (unit_among units u)

each_further : (P : ℕ → UnitRead → Type 0) (x : UnitRead) (xs : List UnitRead) (n : ℕ) → P 0 x → ((u : ℕ) → u < n → P (suc u) (unit_among xs u)) → (u : ℕ) → u < suc n → P u (unit_among (x ∷ xs) u)
each_further P x xs n first more zero below = first
each_further P x xs n first more (suc u) below = more u (omega arith)

gathered : (n : ℕ) (P : ℕ → UnitRead → Type 0) → ((u : ℕ) → u < n → (unit : UnitRead) × P u unit) → Gathered n P
gathered zero P some = record { units = []; count = refl; each = λ u below. absurd (let b : u < 0 = below in omega arith) }
gathered (suc n) P some =
    let first : (unit : UnitRead) × P 0 unit = some 0 (omega arith) in
    let more : Gathered n (λ (u : ℕ) (x : UnitRead). P (suc u) x) = gathered n (λ (u : ℕ) (x : UnitRead). P (suc u) x) (λ u below. some (suc u) (let b : u < n = below in omega arith)) in
    record { units = first.0 ∷ more.units; count = ap suc more.count; each = each_further P first.0 more.units n first.1 more.each }

-- the head is that of a unit at these places
record HeadsPlaces (info : List ℕ) (place : PlacesAnew) (head : UnitHead) : Type 0 where
  pub stands : IsHead info head
  pub at : head.at ≡ place.start
  pub ends : end_of head ≡ place.end

heads_follow : (info : List ℕ) (units : List UnitRead) (places : List Places) (at end : ℕ) → length units ≡ length places → ((u : ℕ) → u < length units → HeadsPlaces info (places_at places u) (unit_among units u).head) → PlacesFollow places at end → Follow info (unit_heads units) at end
heads_follow info [] [] at end size each same = same
heads_follow info [] (p ∷ places) at end size each follow = absurd (let e : 0 ≡ length (p ∷ places) = size in omega arith)
heads_follow info (x ∷ units) [] at end size each follow = absurd (let e : length (x ∷ units) ≡ 0 = size in omega arith)
heads_follow info (x ∷ units) (p ∷ places) at end size each (first, rest) =
    let here : HeadsPlaces info (places_anew p) x.head = each 0 (omega arith) in
    let place : x.head.at ≡ p.start = here.at in
    let begins : p.start ≡ at = first in
    let ends : x.head.at + x.head.len ≡ p.end = here.ends in
    let next : p.end ≡ at + x.head.len = omega arith in
    let later : (u : ℕ) → u < length units → HeadsPlaces info (places_at places u) (unit_among units u).head = λ u inside. each (suc u) (let i : u < length units = inside in omega arith) in
    let more : Follow info (unit_heads units) p.end end = heads_follow info units places p.end end (let e : length (x ∷ units) ≡ length (p ∷ places) = size in omega arith) later rest in
    (place ∙ begins, here.stands, subst (λ (z : ℕ). Follow info (unit_heads units) z end) next more)

sums_same : (f : UnitRead → ℕ) (xs ys : List UnitRead) → length xs ≡ length ys → ((u : ℕ) → u < length xs → f (unit_among xs u) ≡ f (unit_among ys u)) → sum_by f xs ≡ sum_by f ys
sums_same f [] [] size each = refl
sums_same f [] (y ∷ ys) size each = absurd (let e : 0 ≡ length (y ∷ ys) = size in omega arith)
sums_same f (x ∷ xs) [] size each = absurd (let e : length (x ∷ xs) ≡ 0 = size in omega arith)
sums_same f (x ∷ xs) (y ∷ ys) size each =
    let here : f x ≡ f y = each 0 (omega arith) in
    let more : sum_by f xs ≡ sum_by f ys = sums_same f xs ys (let e : length (x ∷ xs) ≡ length (y ∷ ys) = size in omega arith) (λ u inside. each (suc u) (let i : u < length xs = inside in omega arith)) in
    sum_by-cons f x xs ∙ ap (λ (n : ℕ). n + sum_by f xs) here ∙ ap (λ (n : ℕ). f y + n) more ∙ sym (sum_by-cons f y ys)

module _ {classes : Classes} (world : World) (reach : Reach) (tables : List NewTable) (places : List Places) (new_places : NewPlaces) (abbrevs info : List ℕ) (whole : ℕ) (is : IsWorldOf world.image reach world) (written : AreTablesWritten classes world abbrevs tables) (are : ArePlacesOf world tables places whole) (taken : AreTaken world tables) (file : List ℕ) (r : Reading) (holds : Holds file world r) where
  -- A unit is read of the new section, and is the old one with a number, moved.
  record IsUnitAnew (u : ℕ) (new : UnitRead) : Type 0 where
    pub read : IsUnitRead info abbrevs new
    pub head : IsHead info new.head
    pub moved : IsUnitMoved world r.links tables places new_places u new

  -- ONE UNIT

  module _ (u : ℕ) (known : u < length world.units) (behind : IsUnitBehind world tables places new_places u (take (places_at places u).end info)) (fits : (places_at places u).end ≤ length info) where
    read_known : u < length r.links.units
    read_known = let size : length world.units ≡ length r.links.units = held_count file world r holds in omega arith

    valid_known : u < length is.r.links.units
    valid_known = let size : length world.units ≡ length is.r.links.units = held_count world.image world is.r is.holds in omega arith

    held_as : unit_in world.units u ≡ head_and_forest (unit_at r.links u)
    held_as = held_unit file world r u holds

    anew : IsTableWritten classes world.units abbrevs (table_at world.tables (slice_index world.table_of u)) (new_table_at tables (slice_index world.table_of u))
    anew = written.each (slice_index world.table_of u) (is.holds.tables.inside u valid_known)

    w : IsWrittenAnew (written_in world tables u) (table_for world u) (new_table_at tables (slice_index world.table_of u)).columns (new_table_at tables (slice_index world.table_of u)).numbers (declarations_of anew.listing) behind.numbers.table behind.numbers.type_offset (new_values behind.numbers) (places_at places u).start (take (places_at places u).end info)
    w = behind.written (declarations_of anew.listing) anew.renumbered

    numbered : AreNewNumbers world r.links tables places new_places u behind.numbers
    numbered = behind.numbered file r holds

    joined : take (places_at places u).end info ++ drop (places_at places u).end info ≡ info
    joined = take-append-drop (places_at places u).end info

    abbrev read_in : List ℕ → UnitRead
    read_in section = record { head = w.head; table = anew.listing; forest = record { section = section; entries = w.forest.entries; values = w.forest.values; ends = w.forest.ends } }

    unit_read : IsUnitRead info abbrevs (read_in info)
    unit_read =
        let inside : behind.numbers.table < length abbrevs = subst (λ (n : ℕ). n < length abbrevs) (sym numbered.table_at) anew.inside in
        let stands : IsTableAt abbrevs behind.numbers.table anew.listing = subst (λ (n : ℕ). IsTableAt abbrevs n anew.listing) (sym numbered.table_at) anew.stands in
        let first = written_read (written_in world tables u) (table_for world u) anew.listing (new_table_at tables (slice_index world.table_of u)).columns (new_table_at tables (slice_index world.table_of u)).numbers behind.numbers.table behind.numbers.type_offset (new_values behind.numbers) (places_at places u).start (take (places_at places u).end info) (drop (places_at places u).end info) abbrevs w inside stands in
        subst (λ (z : List ℕ). IsUnitRead z abbrevs (read_in z)) joined first

    head_there : IsHead info w.head
    head_there = subst (λ (z : List ℕ). IsHead z w.head) joined (head_stays (take (places_at places u).end info) (drop (places_at places u).end info) w.head w.is_head)

    ends_there : end_of w.head ≡ (places_at places u).end
    ends_there =
        let at : w.head.at ≡ (places_at places u).start = w.fields.at in
        let len : w.head.len ≡ length (take (places_at places u).end info) - (places_at places u).start = w.fields.len in
        let room : unit_end (take (places_at places u).end info) w.head.at ≤ length (take (places_at places u).end info) = w.is_head.rules.inside in
        let size : length (take (places_at places u).end info) ≡ (places_at places u).end = length-take-le (places_at places u).end info fits in
        let below : (places_at places u).start ≤ length (take (places_at places u).end info) = omega arith in
        omega (arith, at, len, size, below)

    values_there : AreMovedValues (written_in world tables u).forest (new_values behind.numbers) info (listed_to (read_in info).forest 0)
    values_there =
        let stay : AreMovedValues (written_in world tables u).forest (new_values behind.numbers) (take (places_at places u).end info ++ drop (places_at places u).end info) w.forest = moved_stay (take (places_at places u).end info) (drop (places_at places u).end info) w.head (declarations_of anew.listing) w.forest w.is_unit (written_in world tables u).forest (new_values behind.numbers) w.values in
        let here : AreMovedValues (written_in world tables u).forest (new_values behind.numbers) info w.forest = subst (λ (z : List ℕ). AreMovedValues (written_in world tables u).forest (new_values behind.numbers) z w.forest) joined stay in
        record { count = here.count; each = here.each }

    short_there : (id : ℕ) → id < length w.forest.entries → StandsShort info (declarations_of anew.listing) w.forest.values (entry_at w.forest.entries id)
    short_there id inside =
        let stays : StandsShort (take (places_at places u).end info ++ drop (places_at places u).end info) (declarations_of anew.listing) w.forest.values (entry_at w.forest.entries id) = short_stays (take (places_at places u).end info) (drop (places_at places u).end info) w.head (declarations_of anew.listing) w.forest w.is_unit (entry_at w.forest.entries id) (w.short id inside) in
        subst (λ (z : List ℕ). StandsShort z (declarations_of anew.listing) w.forest.values (entry_at w.forest.entries id)) joined stays

    ends_short_there : All (EndsShort info) w.forest.ends
    ends_short_there =
        subst (λ (z : List ℕ). All (EndsShort z) w.forest.ends) joined (ends_stay (take (places_at places u).end info) (drop (places_at places u).end info) (declarations_of anew.listing) w.forest.ends w.ends_short)

    filled_there : IsUnit info w.head (declarations_of anew.listing) (listed_to (read_in info).forest (end_of w.head))
    filled_there =
        let fills : end_of w.head ≡ w.forest.place = written_fills (written_in world tables u) (table_for world u) (new_table_at tables (slice_index world.table_of u)).columns (new_table_at tables (slice_index world.table_of u)).numbers (declarations_of anew.listing) behind.numbers.table behind.numbers.type_offset (new_values behind.numbers) (places_at places u).start (take (places_at places u).end info) w in
        let stays : IsUnit (take (places_at places u).end info ++ drop (places_at places u).end info) w.head (declarations_of anew.listing) w.forest = unit_stays (take (places_at places u).end info) (drop (places_at places u).end info) w.head (declarations_of anew.listing) w.forest w.is_unit fills in
        let here : IsUnit info w.head (declarations_of anew.listing) w.forest = subst (λ (z : List ℕ). IsUnit z w.head (declarations_of anew.listing) w.forest) joined stays in
        subst (λ (place : ℕ). IsUnit info w.head (declarations_of anew.listing) (listed_to (read_in info).forest place)) (sym fills) here

    placed_there : (map (λ (e : Entry). e.at) w.forest.entries ≡ (places_at places u).entries) × (map (λ (e : ChainEnd). e.at) w.forest.ends ≡ (places_at places u).ends) × (length (take (places_at places u).end info) ≡ (places_at places u).end)
    placed_there = one_place (written_in world tables u) (table_for world u) (new_table_at tables (slice_index world.table_of u)).columns (new_table_at tables (slice_index world.table_of u)).numbers (lens_anew (written_in world tables u).forest (new_values behind.numbers)) (places_at places u).start (map (λ (e : Entry). e.at) w.forest.entries) (places_at places u).entries (map (λ (e : ChainEnd). e.at) w.forest.ends) (places_at places u).ends (length (take (places_at places u).end info)) (places_at places u).end (table_coded world reach u is known) w.placed behind.placed

    moved_there : IsUnitMoved world r.links tables places new_places u (read_in info)
    moved_there = record {
      numbers = behind.numbers;
      numbered = numbered;
      at = w.fields.at;
      ends = ends_there;
      kind = w.fields.kind ∙ ap (λ (h : HeadAndForest). h.head.kind) held_as;
      extra = w.fields.extra ∙ ap (λ (h : HeadAndForest). h.head.extra) held_as;
      type_at = w.fields.type_at;
      table_at = w.fields.table ∙ numbered.table_at;
      renumbered = subst (λ (t : Listing). IsRenumbered t (new_table_at tables (slice_index world.table_of u)).columns (new_table_at tables (slice_index world.table_of u)).numbers (declarations_of anew.listing)) (table_known file world r u holds read_known) anew.renumbered;
      entries = subst (λ (h : HeadAndForest). AllZip (IsMovedEntry (new_table_at tables (slice_index world.table_of u)).numbers) h.forest.entries w.forest.entries) held_as w.entries;
      values = values_there;
      chain_ends = subst (λ (h : HeadAndForest). AllZip IsMovedEnd h.forest.ends w.forest.ends) held_as w.ends;
      short = short_there;
      ends_short = ends_short_there;
      filled = filled_there;
      entry_places = placed_there.0;
      end_places = placed_there.1;
    }

    unit_anew : (new : UnitRead) × IsUnitAnew u new
    unit_anew = (read_in info, record { read = unit_read; head = head_there; moved = moved_there })

  -- ALL UNITS

  module _ (g : Gathered (length world.units) IsUnitAnew) where
    entries_kept : (u : ℕ) → u < length g.units → length (unit_among g.units u).forest.entries ≡ length (unit_at is.r.links u).forest.entries
    entries_kept u inside =
        let known : u < length world.units = subst (λ (n : ℕ). u < n) g.count inside in
        let moved : IsUnitMoved world r.links tables places new_places u (unit_among g.units u) = (g.each u known).moved in
        sym (length_all_zip (IsMovedEntry (new_table_at tables (slice_index world.table_of u)).numbers) (unit_at r.links u).forest.entries (unit_among g.units u).forest.entries moved.entries) ∙ ap (λ (x : UnitRead). length x.forest.entries) (unit_once file world.image world r is.r u holds is.holds known)

    values_kept : (u : ℕ) → u < length g.units → length (unit_among g.units u).forest.values ≡ length (unit_at is.r.links u).forest.values
    values_kept u inside =
        let known : u < length world.units = subst (λ (n : ℕ). u < n) g.count inside in
        let moved : IsUnitMoved world r.links tables places new_places u (unit_among g.units u) = (g.each u known).moved in
        moved.values.count ∙ taken_count (unit_in world.units u) (written_in world tables u) (taken u known) ∙ ap (λ (h : HeadAndForest). length h.forest.values) (held_unit world.image world is.r u is.holds)

    within : AreWithin g.units
    within =
        let size : length g.units ≡ length is.r.links.units = g.count ∙ held_count world.image world is.r is.holds in
        let entries : (counts_of g.units).entries ≡ (counts_of is.r.links.units).entries = sums_same (λ (x : UnitRead). length x.forest.entries) g.units is.r.links.units size entries_kept in
        let values : (counts_of g.units).values ≡ (counts_of is.r.links.units).values = sums_same (λ (x : UnitRead). length x.forest.values) g.units is.r.links.units size values_kept in
        subst (λ (n : ℕ). IsWithin (counts_of []) n (counts_of g.units).values) (sym entries) (subst (IsWithin (counts_of []) (counts_of is.r.links.units).entries) (sym values) is.read.links.units.within)

    units_read : StandAnew world tables places new_places info (length world.units) → AreUnitsIn info abbrevs g.units
    units_read stand =
        let size : length g.units ≡ length places = g.count ∙ sym are.count in
        record {
          tiled = heads_follow info g.units places 0 (length info) size (λ u inside. (let one : IsUnitAnew u (unit_among g.units u) = g.each u (subst (λ (n : ℕ). u < n) g.count inside) in record { stands = one.head; at = one.moved.at; ends = one.moved.ends })) (stand.size.1 refl);
          each = All-from_get_or (IsUnitRead info abbrevs) g.units no_unit (λ u inside. (g.each u (subst (λ (n : ℕ). u < n) g.count inside)).read);
          within = within;
        }

    all_written : StandAnew world tables places new_places info (length world.units) → AreUnitsWritten world r.links tables places new_places info abbrevs g.units
    all_written stand =
        let size : length world.units ≡ length r.links.units = held_count file world r holds in
        record {
          read = units_read stand;
          count = g.count ∙ size;
          each = λ u inside. (g.each u (subst (λ (n : ℕ). u < n) (sym size) inside)).moved;
        }

  -- units that stand anew, each at its place, are read
  pub units_written : StandAnew world tables places new_places info (length world.units) → (units : List UnitRead) × AreUnitsWritten world r.links tables places new_places info abbrevs units
  units_written stand =
      let g : Gathered (length world.units) IsUnitAnew = gathered (length world.units) IsUnitAnew (λ u below. unit_anew u below (stand.each u below) (stand.inside u below)) in
      (g.units, all_written g stand)
