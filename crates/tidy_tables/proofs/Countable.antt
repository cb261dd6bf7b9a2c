-- The uses of the declarations of a file can be counted.
use Rattle.std.proofs.Common.{◌≡◌, ◌<◌, ◌+◌, ℕ, List, [], ◌∷◌, length, map, get_or, sym, ap, ◌∙◌, refl, subst, arith}
use Rattle.std.specs.List.{All, sum_by}
use Rattle.std.proofs.lemmas.List.{length-map, get_or_default}
use Rattle.std.proofs.Math.ListN.{get_or-map}
use Rattle.std.proofs.lemmas.List.Elements.{All-get_or}
use Rattle.std.proofs.lemmas.List.Sums.{sum_by-cons}
use Rattle.dw_base.specs.declared.fault.Reach.{Reach}
use Rattle.entry_arena.specs.declared.entry.Entry.{Entry}
use Rattle.entry_arena.specs.Arena.{entry_at}
use Rattle.entry_read.specs.Units.{HeadAndForest}
use Rattle.entry_read.proofs.Declarations.{count_same}
use Rattle.entry_read.proofs.OwnerLaws.{values_belong}
use Rattle.value_links.specs.declared.units.NamedTable.{NamedTable}
use Rattle.value_links.specs.Sections.{debug_info, debug_abbrev}
use Rattle.value_links.specs.Reading.{UnitRead, declarations, unit_among, no_unit, IsUnitRead}
use Rattle.value_links.specs.Links.{held_at}
use Rattle.value_links.specs.World.{World, head_and_forest, table_at, IsWorldOf}
use Rattle.tidy_tables.specs.inside.UseCounts.{AreCountable}

-- units have as many entries as were read
entries_held : (units : List UnitRead) → sum_by (λ (unit : HeadAndForest). length unit.forest.entries) (map head_and_forest units) ≡ sum_by (λ (u : UnitRead). length u.forest.entries) units
entries_held [] = refl
entries_held (u ∷ units) =
    let here = sum_by-cons (λ (unit : HeadAndForest). length unit.forest.entries) (head_and_forest u) (map head_and_forest units) in
    let there = sum_by-cons (λ (unit : UnitRead). length unit.forest.entries) u units in
    here ∙ ap (λ (n : ℕ). length u.forest.entries + n) (entries_held units) ∙ sym there

module _ (world : World) (reach : Reach) (is : IsWorldOf world.image reach world) where
  abbrev read : List UnitRead
  read = is.r.links.units

  unit_count : length world.units ≡ length read
  unit_count = ap length is.holds.units ∙ length-map read head_and_forest

  unit_is : (u : ℕ) → held_at world.units u ≡ head_and_forest (unit_among read u)
  unit_is u = ap (λ (units : List HeadAndForest). held_at units u) is.holds.units ∙ get_or-map head_and_forest read u no_unit

  -- the declaration of an entry is one of the table that its unit names
  known : (u id : ℕ) → u < length read → id < length (unit_among read u).forest.entries → (entry_at (unit_among read u).forest.entries id).decl < length (table_at world.tables (get_or world.table_of u 0)).table.decls
  known u id inside entry =
      let unit : UnitRead = unit_among read u in
      let here : IsUnitRead (debug_info world.image) (debug_abbrev world.image) unit = All-get_or (IsUnitRead (debug_info world.image) (debug_abbrev world.image)) read u no_unit inside is.read.links.units.each in
      let owned = values_belong (debug_info world.image) unit.head (declarations unit) unit.forest here.section here.entries in
      let size : length (declarations unit) ≡ length unit.table.decls = count_same unit.table in
      let table : length (table_at world.tables (get_or world.table_of u 0)).table.decls ≡ length unit.table.decls = ap (λ (t : NamedTable). length t.table.decls) (is.holds.tables.each u inside) in
      omega (arith, owned.declared id entry, size, table)

  pub countable : AreCountable world.units world.tables world.table_of
  countable = record {
    count = is.holds.tables.count ∙ sym unit_count;
    inside = λ u below. is.holds.tables.inside u (omega (arith, below, unit_count));
    place = λ u below.
        ap (λ (x : HeadAndForest). x.head.table) (unit_is u) ∙ sym (ap (λ (t : NamedTable). t.place) (is.holds.tables.each u (omega (arith, below, unit_count))));
    entries = λ u below.
        subst (λ (x : HeadAndForest). All (λ (e : Entry). e.decl < length (table_at world.tables (get_or world.table_of u 0)).table.decls) x.forest.entries) (sym (unit_is u))
        (λ id d entry.
        subst (λ (e : Entry). e.decl < length (table_at world.tables (get_or world.table_of u 0)).table.decls)
        (get_or_default (unit_among read u).forest.entries id (record { at = 0; len = 0; depth = 0; decl = 0; first = 0; count = 0 }) d entry)
        (known u id (omega (arith, below, unit_count)) entry));
    rising = is.holds.tables.rising;
    few =
        let all : sum_by (λ (unit : HeadAndForest). length unit.forest.entries) world.units ≡ sum_by (λ (u : UnitRead). length u.forest.entries) read = ap (sum_by (λ (unit : HeadAndForest). length unit.forest.entries)) is.holds.units ∙ entries_held read in
        omega (arith, all, is.read.links.units.within.entries);
  }

  -- the same of lists that are the world's
  pub countable_as : (units : List HeadAndForest) (tables : List NamedTable) (table_of : List ℕ) → units ≡ world.units → tables ≡ world.tables → table_of ≡ world.table_of → AreCountable units tables table_of
  countable_as units tables table_of units_are tables_are numbers_are =
      let a : AreCountable units world.tables world.table_of = subst (λ (us : List HeadAndForest). AreCountable us world.tables world.table_of) (sym units_are) countable in
      let b : AreCountable units tables world.table_of = subst (λ (ts : List NamedTable). AreCountable units ts world.table_of) (sym tables_are) a in
      subst (λ (ns : List ℕ). AreCountable units tables ns) (sym numbers_are) b
