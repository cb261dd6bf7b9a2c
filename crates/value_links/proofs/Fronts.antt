-- The front of the units of a section: what is held of it, one unit more, the faults after it, and the end.
use Rattle.std.proofs.Common.{◌≡◌, ◌≤◌, ◌<◌, ◌+◌, ◌∙◌, ◌++◌, inl, inr, ℕ, suc, List, [], ◌∷◌, length, get_or, take, drop, map, sym, ap, subst, refl, add-one, arith}
use Rattle.std.specs.List.{Contains, sum_by}
use Rattle.std.proofs.Math.Seq.{take-suc, take-length, drop-cons, get_or-append_seam}
use Rattle.std.proofs.lemmas.Bool.{cases_lt}
use Rattle.std.proofs.lemmas.Grind.{get_or_default_zero}
use Rattle.std.proofs.lemmas.List.{take-append-drop, map-append, length-append, length-map, get_or-map, get_or_append_left}
use Rattle.std.proofs.lemmas.List.Elements.{All-nil, All-push}
use Rattle.std.proofs.lemmas.List.Sums.{sum_by-cons, sum_by-append}
use Rattle.dw_base.specs.declared.fault.Fault.{Fault}
use Rattle.dw_base.specs.declared.fault.Kind.{Kind}
use Rattle.dw_base.specs.declared.fault.Kind.TheVariants.{Limit, Pointer}
use Rattle.dw_base.specs.Refusals.{IsFaultOf}
use Rattle.abbrev_tables.specs.Faults.{FaultTable}
use Rattle.abbrev_tables.specs.Listings.{IsTableAt}
use Rattle.entry_read.specs.declared.head.UnitHead.{UnitHead}
use Rattle.entry_read.specs.declared.unit.Counts.{Counts}
use Rattle.entry_read.specs.Heads.{no_head, head_numbered, Follow, Tile}
use Rattle.entry_read.specs.Units.{HeadAndForest, declarations_of, IsUnitHeld, IsWithin, entry_limit, value_limit}
use Rattle.entry_read.specs.Faults.{FaultUnit}
use Rattle.value_links.specs.declared.units.NamedTable.{NamedTable}
use Rattle.value_links.specs.declared.units.Units.{Units}
use Rattle.value_links.specs.Reading.{UnitRead, no_unit, unit_heads, unit_among, counts_of, AreWithin, IsUnitRead}
use Rattle.value_links.specs.Faults.{IsUnitOf, FaultOffset, FaultEntries, FaultUnits, InfoFault}
use Rattle.value_links.specs.World.{head_and_forest, table_at, named_by, AreTablesOf}
use Rattle.value_links.specs.Parts.{AreUnitsHeld, IsUnitsFault}
use Rattle.value_links.specs.inside.Tabled.{AreTablePlaces, AreNumbers, IsNamed, HoldFront, named_places, places_of}
use Rattle.value_links.proofs.TableLaws.{places_rise}

-- HEADS

-- a list around one of its elements
parted : {X : Type 0} (xs : List X) (i : ℕ) (d : X) → i < length xs → xs ≡ take i xs ++ get_or xs i d ∷ drop (suc i) xs
parted xs i d inside = sym (take-append-drop i xs) ∙ ap (λ z. take i xs ++ z) (drop-cons xs i d inside)

follow_front : (info : List ℕ) (before : List UnitHead) (head : UnitHead) (after : List UnitHead) (a e : ℕ) → Follow info (before ++ head ∷ after) a e → (end : ℕ) × Follow info (before ++ head ∷ []) a end
follow_front info [] head after a e (here, stands, rest) = (a + head.len, (here, stands, refl))
follow_front info (b ∷ before) head after a e (here, stands, rest) =
    let (end, front) = follow_front info before head after (a + b.len) e rest in
    (end, (here, stands, front))

-- a unit stands after those before it
front_of : (info : List ℕ) (heads : List UnitHead) (i : ℕ) → Tile info heads → i < length heads → (end : ℕ) × Follow info (take i heads ++ head_numbered heads i ∷ []) 0 end
front_of info heads i tile inside =
    follow_front info (take i heads) (head_numbered heads i) (drop (suc i) heads) 0 (length info) (subst (λ (z : List UnitHead). Follow info z 0 (length info)) (parted heads i no_head inside) tile)

pub unit_of : (info : List ℕ) (heads : List UnitHead) (i : ℕ) → Tile info heads → i < length heads → IsUnitOf info (head_numbered heads i)
unit_of info heads i tile inside =
    let (end, front) = front_of info heads i tile inside in
    (take i heads, end, front)

-- A FRONT

pub nothing_held : (info abbrevs : List ℕ) (heads : List UnitHead) (tables : List NamedTable) (numbers : List ℕ) (units : List HeadAndForest) → units ≡ [] → HoldFront info abbrevs heads tables numbers units (record { entries = 0; values = 0 }) 0
nothing_held info abbrevs heads tables numbers units none = record {
  read = [];
  held = none;
  front = refl;
  size = refl;
  each = All-nil (IsUnitRead info abbrevs);
  within = record { entries = omega arith; values = omega arith };
  counted = refl;
  tabled = λ u inside. absurd (omega arith);
}

-- what is read of the unit after a front, by the table that its header names
pub record IsNext (info abbrevs : List ℕ) (head : UnitHead) (named : NamedTable) (unit : HeadAndForest) : Type 0 where
  pub names : named.place ≡ head.table
  pub table : IsNamed abbrevs named
  pub heads : unit.head ≡ head
  pub section : unit.forest.section ≡ info
  pub entries : IsUnitHeld info head (declarations_of named.table) unit.forest

abbrev read_next : UnitHead → NamedTable → HeadAndForest → UnitRead
read_next head named unit = record { head = head; table = named.table; forest = unit.forest }

unit_is_read : (info abbrevs : List ℕ) (head : UnitHead) (named : NamedTable) (unit : HeadAndForest) → IsNext info abbrevs head named unit → IsUnitRead info abbrevs (read_next head named unit)
unit_is_read info abbrevs head named unit next =
    let inside : named.place < length abbrevs = next.table.inside in
    let place : named.place ≡ head.table = next.names in
    record { named = omega arith; table = subst (λ (z : ℕ). IsTableAt abbrevs z named.table) place next.table.stands; section = next.section; entries = next.entries }

sum_push : (f : UnitRead → ℕ) (read : List UnitRead) (u : UnitRead) → sum_by f (read ++ u ∷ []) ≡ sum_by f read + f u
sum_push f read u =
    let split : sum_by f (read ++ u ∷ []) ≡ sum_by f read + sum_by f (u ∷ []) = sum_by-append f read (u ∷ []) in
    let one : sum_by f (u ∷ []) ≡ f u + sum_by f [] = sum_by-cons f u [] in
    let none : sum_by f [] ≡ 0 = refl in
    omega arith

counts_push : (read : List UnitRead) (u : UnitRead) (counts : Counts) → counts ≡ counts_of read → (record { entries = counts.entries + length u.forest.entries; values = counts.values + length u.forest.values }) ≡ counts_of (read ++ u ∷ [])
counts_push read u counts before =
    let entries : counts.entries + length u.forest.entries ≡ sum_by (λ (v : UnitRead). length v.forest.entries) (read ++ u ∷ []) =
    ap (λ (z : Counts). z.entries + length u.forest.entries) before ∙ sym (sum_push (λ (v : UnitRead). length v.forest.entries) read u) in
    let values : counts.values + length u.forest.values ≡ sum_by (λ (v : UnitRead). length v.forest.values) (read ++ u ∷ []) =
    ap (λ (z : Counts). z.values + length u.forest.values) before ∙ sym (sum_push (λ (v : UnitRead). length v.forest.values) read u) in
    ap (λ (z : ℕ). record { entries = z; values = counts.values + length u.forest.values }) entries
    ∙ ap (λ (z : ℕ). record { entries = sum_by (λ (v : UnitRead). length v.forest.entries) (read ++ u ∷ []); values = z }) values

within_push : (read : List UnitRead) (u : UnitRead) (counts : Counts) → counts ≡ counts_of read → IsWithin counts (length u.forest.entries) (length u.forest.values) → AreWithin (read ++ u ∷ [])
within_push read u counts before few =
    let sums = counts_push read u counts before in
    let entries : counts.entries + length u.forest.entries ≡ (counts_of (read ++ u ∷ [])).entries = ap (λ (z : Counts). z.entries) sums in
    let values : counts.values + length u.forest.values ≡ (counts_of (read ++ u ∷ [])).values = ap (λ (z : Counts). z.values) sums in
    let entries_few : counts.entries + length u.forest.entries ≤ entry_limit = few.entries in
    let values_few : counts.values + length u.forest.values ≤ value_limit = few.values in
    let no_entries : (counts_of []).entries ≡ 0 = refl in
    let no_values : (counts_of []).values ≡ 0 = refl in
    record { entries = omega arith; values = omega arith }

tabled_push : (tables : List NamedTable) (numbers : List ℕ) (read : List UnitRead) (r : UnitRead) (i : ℕ) → length read ≡ i → ((u : ℕ) → u < i → table_at tables (get_or numbers u 0) ≡ named_by (unit_among read u)) → table_at tables (get_or numbers i 0) ≡ named_by r → (u : ℕ) → u < i + 1 → table_at tables (get_or numbers u 0) ≡ named_by (unit_among (read ++ r ∷ []) u)
tabled_push tables numbers read r i size before here u inside = elim (cases_lt u i) [
  | inl less ↦ before u less ∙ ap named_by (sym (get_or_append_left read (r ∷ []) no_unit u (omega arith)))
  | inr more ↦
      let same : u ≡ length read = omega arith in
      let last : u ≡ i = omega arith in
      ap (λ k. table_at tables (get_or numbers k 0)) last ∙ here ∙ ap named_by (sym (ap (λ k. unit_among (read ++ r ∷ []) k) same ∙ get_or-append_seam read r [] no_unit))
]

module _ (info abbrevs : List ℕ) (heads : List UnitHead) (tables : List NamedTable) (numbers : List ℕ) (units : List HeadAndForest) (counts : Counts) (i : ℕ) (h : HoldFront info abbrevs heads tables numbers units counts i) (inside : i < length heads) where
  -- with one unit more
  pub front_push : (unit : HeadAndForest) (new : List HeadAndForest) (more : Counts) → IsNext info abbrevs (head_numbered heads i) (table_at tables (get_or numbers i 0)) unit → IsWithin counts (length unit.forest.entries) (length unit.forest.values) → new ≡ units ++ unit ∷ [] → more ≡ record { entries = counts.entries + length unit.forest.entries; values = counts.values + length unit.forest.values } → HoldFront info abbrevs heads tables numbers new more (i + 1)
  front_push unit new more next few put summed =
      let named : NamedTable = table_at tables (get_or numbers i 0) in
      let head : UnitHead = head_numbered heads i in
      let r : UnitRead = read_next head named unit in
      let is : unit ≡ head_and_forest r = ap (λ (z : UnitHead). record { head = z; forest = unit.forest }) next.heads in
      let size : length h.read ≡ i = h.size in
      record {
        read = h.read ++ r ∷ [];
        held = put ∙ ap (λ z. z ++ unit ∷ []) h.held ∙ ap (λ z. map head_and_forest h.read ++ z ∷ []) is ∙ sym (map-append head_and_forest h.read (r ∷ []));
        front = map-append (λ (u : UnitRead). u.head) h.read (r ∷ []) ∙ ap (λ z. z ++ head ∷ []) h.front ∙ sym (take-suc heads i no_head inside) ∙ ap (λ z. take z heads) (sym (add-one i));
        size = let all : length (h.read ++ r ∷ []) ≡ length h.read + 1 = length-append h.read (r ∷ []) in omega arith;
        each = All-push (IsUnitRead info abbrevs) h.read r h.each (unit_is_read info abbrevs head named unit next);
        within = within_push h.read r counts h.counted few;
        counted = summed ∙ counts_push h.read r counts h.counted;
        tabled = tabled_push tables numbers h.read r i h.size h.tabled (ap (λ (z : ℕ). record { place = z; table = named.table }) next.names);
      }

  -- a fault of the next unit is one of the units
  pub next_fault : (named : NamedTable) (kind : Kind) (place : ℕ) → Tile info heads → named.place ≡ (head_numbered heads i).table → IsNamed abbrevs named → FaultUnit info (head_numbered heads i) (declarations_of named.table) counts kind place → FaultUnits info abbrevs kind place
  next_fault named kind place tile names table fault =
      let stands : IsTableAt abbrevs (head_numbered heads i).table named.table = subst (λ (z : ℕ). IsTableAt abbrevs z named.table) names table.stands in
      of_kind kind place (record { table = named.table; stands = stands; fault = fault })
    where
      of_kind : (kind : Kind) (place : ℕ) → FaultEntries info abbrevs counts (head_numbered heads i) kind place → FaultUnits info abbrevs kind place
      of_kind Limit place f =
          let (end, front) = front_of info heads i tile inside in
          record {
            before = h.read;
            head = head_numbered heads i;
            end = end;
            front = subst (λ (z : List UnitHead). Follow info (z ++ head_numbered heads i ∷ []) 0 end) (sym h.front) front;
            each = h.each;
            within = h.within;
            passes = subst (λ (z : Counts). FaultEntries info abbrevs z (head_numbered heads i) Limit place) h.counted f;
          }
      of_kind kind place f = (head_numbered heads i, counts, unit_of info heads i tile inside, f)

-- THE TABLE OF A UNIT

-- the table with the number of a unit stands where its header says
pub table_named : (heads : List UnitHead) (tables : List NamedTable) (numbers : List ℕ) (u : ℕ) → AreNumbers heads (places_of tables) numbers → u < length heads → (get_or numbers u 0 < length tables) × ((table_at tables (get_or numbers u 0)).place ≡ (head_numbered heads u).table)
table_named heads tables numbers u are inside =
    let size : length (places_of tables) ≡ length tables = length-map tables (λ (t : NamedTable). t.place) in
    let small : get_or numbers u 0 < length (places_of tables) = are.inside u inside in
    let within : get_or numbers u 0 < length tables = omega arith in
    (within, sym (get_or-map (λ (t : NamedTable). t.place) tables (get_or numbers u 0) (table_at [] 0) 0 within) ∙ are.each u inside)

-- ALL UNITS

tables_are : (info abbrevs : List ℕ) (heads : List UnitHead) (places : List ℕ) (tables : List NamedTable) (numbers : List ℕ) (units : List HeadAndForest) (counts : Counts) → AreTablePlaces heads places → places_of tables ≡ places → AreNumbers heads places numbers → (h : HoldFront info abbrevs heads tables numbers units counts (length heads)) → AreTablesOf h.read tables numbers
tables_are info abbrevs heads places tables numbers units counts are same numbered h =
    let count : length numbers ≡ length heads = numbered.count in
    let size : length h.read ≡ length heads = h.size in
    let width : length places ≡ length tables = ap length (sym same) ∙ length-map tables (λ (t : NamedTable). t.place) in
    let place_is = λ (k : ℕ) (k_in : k < length tables). sym (get_or-map (λ (t : NamedTable). t.place) tables k (table_at [] 0) 0 k_in) ∙ ap (λ z. get_or z k 0) same in
    record {
      count = omega arith;
      inside = λ u inside. let small : get_or numbers u 0 < length places = numbered.inside u (omega arith) in omega arith;
      each = λ u inside. h.tabled u (omega arith);
      rising = λ i j less inside.
          let rise : get_or places i 0 < get_or places j 0 = places_rise places are.rising i j less (omega arith) in
          let first : (table_at tables i).place ≡ get_or places i 0 = place_is i (omega arith) in
          let second : (table_at tables j).place ≡ get_or places j 0 = place_is j inside in
          omega arith;
      named = λ i inside. user i inside;
    }
  where
    user : (i : ℕ) → i < length tables → (u : ℕ) × (u < length h.read) × (get_or numbers u 0 ≡ i)
    user i inside =
        let size : length h.read ≡ length heads = h.size in
        let width : length places ≡ length tables = ap length (sym same) ∙ length-map tables (λ (t : NamedTable). t.place) in
        let here : i < length places = omega arith in
        let (u, u_in, is) = are.named (get_or places i 0) (i, here, get_or_default_zero places i (get_or places i 0) here) in
        let names : length (named_places heads) ≡ length heads = length-map heads (λ (head : UnitHead). head.table) in
        let u_inside : u < length heads = omega arith in
        let head : get_or (named_places heads) u (get_or places i 0) ≡ (head_numbered heads u).table = get_or-map (λ (head : UnitHead). head.table) heads u no_head (get_or places i 0) u_inside in
        let meets : get_or places (get_or numbers u 0) 0 ≡ get_or places i 0 = numbered.each u u_inside ∙ sym head ∙ is in
        let small : get_or numbers u 0 < length places = numbered.inside u u_inside in
        (u, omega arith, one_place (get_or numbers u 0) i small here meets)
      where
        one_place : (j k : ℕ) → j < length places → k < length places → get_or places j 0 ≡ get_or places k 0 → j ≡ k
        one_place j k j_in k_in e = elim (cases_lt j k) [
          | inl less ↦ let rise : get_or places j 0 < get_or places k 0 = places_rise places are.rising j k less k_in in absurd (omega arith)
          | inr more ↦ elim (cases_lt k j) [
            | inl less ↦ let rise : get_or places k 0 < get_or places j 0 = places_rise places are.rising k j less j_in in absurd (omega arith)
            | inr rest ↦ omega arith
          ]
        ]

pub units_held : (info abbrevs : List ℕ) (heads : List UnitHead) (places : List ℕ) (held : Units) (counts : Counts) → Tile info heads → AreTablePlaces heads places → places_of held.tables.items ≡ places → AreNumbers heads places held.table_of.items → HoldFront info abbrevs heads held.tables.items held.table_of.items held.units.items counts (length heads) → AreUnitsHeld info abbrevs held
units_held info abbrevs heads places held counts tile are same numbered h =
    let all : unit_heads h.read ≡ heads = h.front ∙ take-length heads in
    record {
      read = h.read;
      units = record { tiled = subst (λ (z : List UnitHead). Follow info z 0 (length info)) (sym all) tile; each = h.each; within = h.within };
      holds = record { units = h.held; tables = tables_are info abbrevs heads places held.tables.items held.table_of.items held.units.items counts are same numbered h };
    }

-- FAULTS

-- a header names no place of .debug_abbrev
pub offset_fault : (info abbrevs : List ℕ) (heads : List UnitHead) (u origin : ℕ) (fault : Fault) → Tile info heads → u < length heads → length abbrevs ≤ (head_numbered heads u).table → fault ≡ record { kind = Pointer; place = origin + (head_numbered heads u).at } → IsFaultOf (InfoFault info abbrevs) origin fault
offset_fault info abbrevs heads u origin fault tile inside past is =
    let named : FaultOffset info abbrevs Pointer ((head_numbered heads u).at) = (head_numbered heads u, unit_of info heads u tile inside, past, refl) in
    let here : IsFaultOf (InfoFault info abbrevs) origin (record { kind = Pointer; place = origin + (head_numbered heads u).at }) = ((head_numbered heads u).at, refl, inr (inl named)) in
    subst (IsFaultOf (InfoFault info abbrevs) origin) (sym is) here

-- a fault of a table that a unit names
pub named_fault : (info abbrevs : List ℕ) (heads : List UnitHead) (places : List ℕ) (info_origin origin : ℕ) (fault : Fault) → Tile info heads → AreTablePlaces heads places → ((u : ℕ) → u < length heads → (head_numbered heads u).table < length abbrevs) → (place : ℕ) × Contains places place × IsFaultOf (λ kind at. FaultTable kind at (drop place abbrevs)) (origin + place) fault → IsUnitsFault info abbrevs info_origin origin fault
named_fault info abbrevs heads places info_origin origin fault tile are offsets (place, among, (inner, here, rest)) =
    let (u, u_in, is) = are.named place among in
    let names : length (named_places heads) ≡ length heads = length-map heads (λ (head : UnitHead). head.table) in
    let inside : u < length heads = omega arith in
    let table : (head_numbered heads u).table ≡ place = sym (get_or-map (λ (head : UnitHead). head.table) heads u no_head place inside) ∙ is in
    let small : (head_numbered heads u).table < length abbrevs = offsets u inside in
    let sum : fault.place ≡ origin + (place + inner) = omega arith in
    inr (place + inner, sum, (place, inner, (head_numbered heads u, unit_of info heads u tile inside, table, omega arith), refl, rest))

-- places of tables lie in .debug_abbrev where those that headers name do
pub places_inside : (heads : List UnitHead) (places : List ℕ) (size place : ℕ) → AreTablePlaces heads places → ((u : ℕ) → u < length heads → (head_numbered heads u).table < size) → Contains places place → place < size
places_inside heads places size place are offsets among =
    let (u, u_in, is) = are.named place among in
    let names : length (named_places heads) ≡ length heads = length-map heads (λ (head : UnitHead). head.table) in
    let inside : u < length heads = omega arith in
    let table : (head_numbered heads u).table ≡ place = sym (get_or-map (λ (head : UnitHead). head.table) heads u no_head place inside) ∙ is in
    let small : (head_numbered heads u).table < size = offsets u inside in
    omega arith
