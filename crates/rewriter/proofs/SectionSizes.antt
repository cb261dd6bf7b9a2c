-- The abbreviation tables of a file that are written anew have at most so many bytes as its entries and values allow: a
-- declaration that is used has an entry, which has a value for each of its columns.
use Rattle.std.proofs.Common.{◌≡◌, ◌≤◌, ◌<◌, ◌+◌, ◌*◌, ◌-◌, ◌^◌, inl, inr, ℕ, zero, suc, List, [], ◌∷◌, length, take, get_or, cond, eqb, ltb, Bool, true, false, sym, ap, ◌∙◌, refl, subst, arith}
use Rattle.std.specs.Prelude.{slice_index, count_by}
use Rattle.std.specs.List.{sum_by}
use Rattle.std.proofs.lemmas.Bool.{cases_eq, cond_both, cond-true, eqb-true, eq-eqb}
use Rattle.std.proofs.lemmas.List.{take_all}
use Rattle.std.proofs.lemmas.List.Sums.{sum_by-cons, sum_by_more}
use Rattle.dw_base.specs.declared.classes.Classes.{Classes}
use Rattle.dw_base.specs.declared.fault.Reach.{Reach}
use Rattle.elf_place.proofs.Totals.{total, total-le}
use Rattle.abbrev_tables.specs.Listings.{decl_at}
use Rattle.entry_arena.specs.declared.entry.Entry.{Entry}
use Rattle.entry_arena.specs.Arena.{Arena, entry_at}
use Rattle.entry_arena.proofs.TreeLaws.{trees_are_walks}
use Rattle.entry_read.specs.Units.{HeadAndForest, value_limit}
use Rattle.value_links.specs.declared.units.NamedTable.{NamedTable}
use Rattle.value_links.specs.Sections.{debug_info, debug_abbrev}
use Rattle.value_links.specs.Reading.{UnitRead}
use Rattle.value_links.specs.World.{World, head_and_forest, table_at, IsWorldOf}
use Rattle.rewriter.specs.declared.uses.Uses.{Uses}
use Rattle.written_files.specs.Uses.{entries_with, uses_of}
use Rattle.rewriter.specs.inside.Tables.{TableAnew, AreColumnsChosen}
use Rattle.rewriter.specs.inside.Appended.{IsAppended}
use Rattle.rewriter.specs.inside.Placed.{unit_in}
use Rattle.rewriter.specs.inside.Counting.{AreCounted, counts_in}
use Rattle.rewriter.specs.inside.Held.{HaveAllValues}
use Rattle.rewriter.proofs.ColumnMeanings.{AreOfTable, entry_count, held_here}
use Rattle.rewriter.proofs.ColumnUnits.{entry_counted}
use Rattle.rewriter.proofs.ColumnsChosen.{columns_writable}
use Rattle.rewriter.proofs.Meant.{all_values, read_unit_at}
use Rattle.rewriter.proofs.TermSums.{total-none, total-once, total-sums, counted_once, sum_by-map, sum_by-le_at, sum_by-less_at}
use Rattle.rewriter.proofs.TableSizes.{declared_most, used_most, table_most, few_more}
use Rattle.rewriter.proofs.WorldFacts.{countable, table_known, of_table}
use Rattle.rewriter.proofs.Standing.{held_unit}

-- THE USED DECLARATIONS OF A TABLE

counts_true : (b : Bool) → ltb 0 (cond b 1 0) ≡ true → b ≡ true
counts_true true passes = refl
counts_true false passes = passes

module _ (term : ℕ → ℕ) (n : ℕ) where
  -- a declaration that an entry has is used by the entry
  entry_uses : (e : Entry) → total (λ (k : ℕ). cond (ltb 0 (cond (eqb e.decl k) 1 0)) (term k) 0) n ≤ term e.decl
  entry_uses e =
      let is : (k : ℕ) → ltb 0 (cond (eqb e.decl k) 1 0) ≡ true → e.decl ≡ k = λ k passes. eqb-true e.decl k (counts_true (eqb e.decl k) passes) in
      total-once (λ (k : ℕ). ltb 0 (cond (eqb e.decl k) 1 0)) term (term e.decl) n
      (λ k passes. subst (λ (m : ℕ). term m ≤ term e.decl) (is k passes) (omega arith))
      (λ i j less below one two. omega (arith, less, is i one, is j two))

  -- so those of entries are
  entries_use : (entries : List Entry) → total (λ (k : ℕ). cond (ltb 0 (count_by (λ (e : Entry). eqb e.decl k) entries)) (term k) 0) n ≤ sum_by (λ (e : Entry). term e.decl) entries
  entries_use entries =
      let one : ℕ → Entry → ℕ = λ (k : ℕ) (e : Entry). cond (eqb e.decl k) 1 0 in
      let split : total (λ (k : ℕ). cond (ltb 0 (sum_by (one k) entries)) (term k) 0) n ≤ total (λ (k : ℕ). sum_by (λ (e : Entry). cond (ltb 0 (one k e)) (term k) 0) entries) n = total-le (λ (k : ℕ). cond (ltb 0 (sum_by (one k) entries)) (term k) 0) (λ (k : ℕ). sum_by (λ (e : Entry). cond (ltb 0 (one k e)) (term k) 0) entries) n (λ k below. counted_once (one k) (term k) entries) in
      omega (arith, split, total-sums (λ (k : ℕ) (e : Entry). cond (ltb 0 (one k e)) (term k) 0) (λ (e : Entry). term e.decl) n entry_uses entries)

  -- what the entries of a unit use, if it names the table
  unit_uses : (named : Bool) (unit : HeadAndForest) → total (λ (k : ℕ). cond (ltb 0 (cond named (entries_with k unit) 0)) (term k) 0) n ≤ cond named (sum_by (λ (e : Entry). term e.decl) unit.forest.entries) 0
  unit_uses true unit = entries_use unit.forest.entries
  unit_uses false unit = omega (arith, total-none (λ (k : ℕ). cond (ltb 0 0) (term k) 0) n (λ k below. refl))

  -- and what those of all units use
  units_use : (units : List HeadAndForest) (place : ℕ) → total (λ (k : ℕ). cond (ltb 0 (uses_of units place k)) (term k) 0) n ≤ sum_by (λ (unit : HeadAndForest). cond (eqb unit.head.table place) (sum_by (λ (e : Entry). term e.decl) unit.forest.entries) 0) units
  units_use units place =
      let own : ℕ → HeadAndForest → ℕ = λ (k : ℕ) (unit : HeadAndForest). cond (eqb unit.head.table place) (entries_with k unit) 0 in
      let split : total (λ (k : ℕ). cond (ltb 0 (sum_by (own k) units)) (term k) 0) n ≤ total (λ (k : ℕ). sum_by (λ (unit : HeadAndForest). cond (ltb 0 (own k unit)) (term k) 0) units) n = total-le (λ (k : ℕ). cond (ltb 0 (sum_by (own k) units)) (term k) 0) (λ (k : ℕ). sum_by (λ (unit : HeadAndForest). cond (ltb 0 (own k unit)) (term k) 0) units) n (λ k below. counted_once (own k) (term k) units) in
      omega (arith, split, total-sums (λ (k : ℕ) (unit : HeadAndForest). cond (ltb 0 (own k unit)) (term k) 0) (λ (unit : HeadAndForest). cond (eqb unit.head.table place) (sum_by (λ (e : Entry). term e.decl) unit.forest.entries) 0) n (λ unit. unit_uses (eqb unit.head.table place) unit) units)

-- A UNIT

-- its part of its table: the bytes of a declaration for each entry, and one for the table's end
abbrev unit_most : HeadAndForest → ℕ
unit_most unit = 1 + sum_by (λ (e : Entry). declared_most e.count) unit.forest.entries

abbrev value_count : HeadAndForest → ℕ
value_count unit = length unit.forest.values

counts_sum : (entries : List Entry) → sum_by (λ (e : Entry). declared_most e.count) entries ≡ 23 * length entries + 30 * sum_by (λ (e : Entry). e.count) entries
counts_sum [] = refl
counts_sum (e ∷ es) = omega (arith, sum_by-cons (λ (x : Entry). declared_most x.count) e es, sum_by-cons (λ (x : Entry). x.count) e es, counts_sum es)

module _ (f : Arena) (all : HaveAllValues f) where
  values_before : (id : ℕ) → id < length f.entries → sum_by (λ (e : Entry). e.count) (take id f.entries) ≡ (entry_at f.entries id).first
  values_before zero below = sym all.first
  values_before (suc id) below =
      let next : id + 1 ≡ suc id = omega arith in
      let more : sum_by (λ (e : Entry). e.count) (take (id + 1) f.entries) ≡ (entry_at f.entries (id + 1)).first = sum_by_more (λ (e : Entry). e.count) f.entries id (entry_at [] 0) (omega arith) ∙ ap (λ (n : ℕ). n + (entry_at f.entries id).count) (values_before id (omega arith)) ∙ sym (all.adjacent id (omega arith)) in
      subst (λ (n : ℕ). sum_by (λ (e : Entry). e.count) (take n f.entries) ≡ (entry_at f.entries n).first) next more

  -- the entries have all values of the unit
  values_sum : sum_by (λ (e : Entry). e.count) f.entries ≡ length f.values
  values_sum =
      let last : ℕ = length f.entries - 1 in
      let end : last + 1 ≡ length f.entries = omega (arith, all.some) in
      let below : last < length f.entries = omega arith in
      ap (sum_by (λ (e : Entry). e.count)) (sym (take_all (last + 1) f.entries (omega arith)))
      ∙ sum_by_more (λ (e : Entry). e.count) f.entries last (entry_at [] 0) below
      ∙ ap (λ (n : ℕ). n + (entry_at f.entries last).count) (values_before last below)
      ∙ all.last last end

unit_part : (unit : HeadAndForest) → HaveAllValues unit.forest → unit_most unit ≤ 24 * entry_count unit + 30 * value_count unit
unit_part unit all = omega (arith, counts_sum unit.forest.entries, values_sum unit.forest all, all.some)

parts_sum : (units : List HeadAndForest) → sum_by (λ (unit : HeadAndForest). 24 * entry_count unit + 30 * value_count unit) units ≡ 24 * sum_by entry_count units + 30 * sum_by value_count units
parts_sum [] = refl
parts_sum (u ∷ us) = omega (arith, sum_by-cons (λ (unit : HeadAndForest). 24 * entry_count unit + 30 * value_count unit) u us, sum_by-cons entry_count u us, sum_by-cons value_count u us, parts_sum us)

-- A TABLE

-- the part of a unit, if it names the table
abbrev part_of : ℕ → HeadAndForest → ℕ
part_of place unit = cond (eqb unit.head.table place) (unit_most unit) 0

module _ (units : List HeadAndForest) (table : NamedTable) (section table_of : List ℕ) (i : ℕ) (of : AreOfTable units table section table_of i) where
  abbrev term : ℕ → ℕ
  term k = declared_most (decl_at table.table.decls k).count

  abbrev used_of : HeadAndForest → ℕ
  used_of unit = cond (eqb unit.head.table table.place) (sum_by (λ (e : Entry). declared_most (decl_at table.table.decls e.decl).count) unit.forest.entries) 0

  -- the declarations of a unit's entries have as many columns as the entries have values
  own_part : (u : ℕ) → u < length units → slice_index table_of u ≡ i → sum_by (λ (e : Entry). declared_most (decl_at table.table.decls e.decl).count) (unit_in units u).forest.entries < unit_most (unit_in units u)
  own_part u below is =
      let unit : HeadAndForest = unit_in units u in
      let narrow : sum_by (λ (e : Entry). declared_most (decl_at table.table.decls e.decl).count) unit.forest.entries ≤ sum_by (λ (e : Entry). declared_most e.count) unit.forest.entries =
      sum_by-le_at (λ (e : Entry). declared_most (decl_at table.table.decls e.decl).count) (λ (e : Entry). declared_most e.count) unit.forest.entries (entry_at [] 0) (λ id inside. omega (arith, entry_counted table.table unit of.stands (held_here units table section table_of i of u below is) id inside)) in
      omega (arith, narrow)

  -- so the entries of a unit that has the table use less than its part
  part_here : (u : ℕ) → u < length units → slice_index table_of u ≡ i → used_of (unit_in units u) < part_of table.place (unit_in units u)
  part_here u below is =
      let unit : HeadAndForest = unit_in units u in
      let named : eqb unit.head.table table.place ≡ true = eq-eqb unit.head.table table.place (of.named u below is) in
      let used : ℕ = sum_by (λ (e : Entry). declared_most (decl_at table.table.decls e.decl).count) unit.forest.entries in
      omega (arith, own_part u below is, cond-true {A = ℕ} (eqb unit.head.table table.place) used 0 named, cond-true {A = ℕ} (eqb unit.head.table table.place) (unit_most unit) 0 named)

  part_each : (u : ℕ) → u < length units → used_of (unit_in units u) ≤ part_of table.place (unit_in units u)
  part_each u below = elim (cases_eq (slice_index table_of u) i) [
    | inl same ↦ omega (arith, part_here u below same)
    | inr other ↦
        let unit : HeadAndForest = unit_in units u in
        let used : ℕ = sum_by (λ (e : Entry). declared_most (decl_at table.table.decls e.decl).count) unit.forest.entries in
        cond_both (eqb unit.head.table table.place) used 0 (λ (n : ℕ). n ≤ part_of table.place unit)
        (λ named. absurd (of.apart u below other (eqb-true unit.head.table table.place named)))
        (λ _. omega arith)
  ]

  -- a table that a unit has takes no more than the parts of its units
  table_part : (uses : List ℕ) → ((k : ℕ) → k < length table.table.decls → get_or uses k 0 ≡ uses_of units table.place k) → (u : ℕ) → u < length units → slice_index table_of u ≡ i → table_most table.table uses ≤ sum_by (part_of table.place) units
  table_part uses are u below is =
      let n : ℕ = length table.table.decls in
      let same : total (used_most table.table.decls uses) n ≤ total (λ (k : ℕ). cond (ltb 0 (uses_of units table.place k)) (term k) 0) n =
      total-le (used_most table.table.decls uses) (λ (k : ℕ). cond (ltb 0 (uses_of units table.place k)) (term k) 0) n (λ k inside. subst (λ (m : ℕ). used_most table.table.decls uses k ≤ cond (ltb 0 m) (term k) 0) (are k inside) (omega arith)) in
      let entries = units_use term n units table.place in
      omega (arith, same, entries, sum_by-less_at used_of (part_of table.place) units (unit_in [] 0) u part_each below (part_here u below is))

-- ALL TABLES

-- the bytes of the table with a number
abbrev pub tables_most : List NamedTable → List Uses → ℕ → ℕ
tables_most tables all i = table_most (table_at tables i).table (counts_in all i)

module _ (world : World) (reach : Reach) (is : IsWorldOf world.image reach world) (all : List Uses) (counted : AreCounted world.units world.tables all) where
  part_at : (i : ℕ) → i < length world.tables → tables_most world.tables all i ≤ sum_by (part_of (table_at world.tables i).place) world.units
  part_at i below =
      let named = is.holds.tables.named i below in
      let inside : named.0 < length world.units = omega (arith, named.1, (countable world reach is trees_are_walks).count, is.holds.tables.count) in
      table_part world.units (table_at world.tables i) (debug_info world.image) world.table_of i (of_table world reach is i below) (counts_in all i) (counted.each i below).each named.0 inside named.2

  -- a unit has a part of one table at most
  unit_once : (unit : HeadAndForest) → total (λ (i : ℕ). part_of (table_at world.tables i).place unit) (length world.tables) ≤ unit_most unit
  unit_once unit =
      total-once (λ (i : ℕ). eqb unit.head.table (table_at world.tables i).place) (λ (i : ℕ). unit_most unit) (unit_most unit) (length world.tables)
      (λ i named. omega arith)
      (λ i j less below one two. omega (arith, is.holds.tables.rising i j less below, eqb-true unit.head.table (table_at world.tables i).place one, eqb-true unit.head.table (table_at world.tables j).place two))

  -- its part by the counts that have limits
  unit_limit : (u : ℕ) → u < length world.units → unit_most (unit_in world.units u) ≤ 24 * entry_count (unit_in world.units u) + 30 * value_count (unit_in world.units u)
  unit_limit u below =
      let inside : u < length is.r.links.units = omega (arith, below, (countable world reach is trees_are_walks).count, is.holds.tables.count) in
      let held = held_unit world.image world is.r u is.holds in
      let read = read_unit_at world.image is.r u is.read.links.units.each inside in
      unit_part (unit_in world.units u) (subst (λ (unit : HeadAndForest). HaveAllValues unit.forest) (sym held) (all_values (debug_info world.image) (debug_abbrev world.image) _ read))

  values_within : sum_by value_count world.units ≤ value_limit
  values_within =
      let same : sum_by value_count world.units ≡ sum_by (λ (u : UnitRead). length u.forest.values) is.r.links.units = ap (sum_by value_count) is.holds.units ∙ sum_by-map value_count head_and_forest is.r.links.units in
      let most = is.read.links.units.within.values in
      omega (arith, same, most)

  -- a section with one table more has at most the bytes of that table more
  pub table_more : {classes : Classes} → (i : ℕ) → i < length world.tables → (before section : List ℕ) (new : TableAnew) → IsAppended (table_at world.tables i).table (counts_in all i) before section new → AreColumnsChosen classes world.units (table_at world.tables i) new.columns → length before ≤ total (tables_most world.tables all) i → length section ≤ total (tables_most world.tables all) (i + 1)
  table_more i below before section new appended chosen few =
      let old : NamedTable = table_at world.tables i in
      let uses = counted.each i below in
      let stands = table_known world reach is i below in
      let fine = columns_writable world.units old stands new.columns chosen in
      let grown = few_more old.table stands (counts_in all i) uses.count before section new fine appended in
      let next : suc i ≡ i + 1 = omega arith in
      subst (λ (n : ℕ). length section ≤ total (tables_most world.tables all) n) next (omega (arith, grown, few))

  -- so all tables together have fewer bytes than the 32-bit format can count
  pub tables_fit : total (tables_most world.tables all) (length world.tables) < 2 ^ 32 - 1
  tables_fit =
      let parts = total-le (tables_most world.tables all) (λ (i : ℕ). sum_by (part_of (table_at world.tables i).place) world.units) (length world.tables) part_at in
      let once = total-sums (λ (i : ℕ) (unit : HeadAndForest). part_of (table_at world.tables i).place unit) unit_most (length world.tables) unit_once world.units in
      let limits = sum_by-le_at unit_most (λ (unit : HeadAndForest). 24 * entry_count unit + 30 * value_count unit) world.units (unit_in [] 0) unit_limit in
      let few = (countable world reach is trees_are_walks).few in
      omega (arith, parts, once, limits, parts_sum world.units, few, values_within)
