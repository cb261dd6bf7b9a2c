-- What a world says of the uses of its tables.
use Rattle.std.proofs.Common.{◌≡◌, ◌≢◌, ◌<◌, inl, inr, ℕ, List, [], ◌∷◌, length, get_or, sym, ap, ◌∙◌, subst, arith}
use Rattle.std.specs.List.{All, sum_by}
use Rattle.std.proofs.lemmas.Bool.{cases_lt}
use Rattle.std.proofs.lemmas.List.{length-map}
use Rattle.std.proofs.lemmas.List.Elements.{All-nil, All-push, All-get_or}
use Rattle.dw_base.specs.declared.fault.Reach.{Reach}
use Rattle.abbrev_tables.specs.Tables.{Declared}
use Rattle.abbrev_tables.specs.Listings.{Listing, declared_in}
use Rattle.entry_arena.specs.declared.entry.Entry.{Entry}
use Rattle.entry_arena.specs.ForestLaws.{TreesAreWalks}
use Rattle.entry_arena.specs.Trees.{Listed}
use Rattle.entry_arena.specs.Walks.{Item, Walks}
use Rattle.entry_arena.specs.Walks.Item.{AnEntry, AnEnd}
use Rattle.entry_arena.proofs.TreeLaws.{trees_are_walks}
use Rattle.entry_read.specs.Units.{HeadAndForest, declarations_of, IsTable, IsUnitHeld}
use Rattle.value_links.specs.declared.units.NamedTable.{NamedTable}
use Rattle.value_links.specs.Sections.{debug_info, debug_abbrev}
use Rattle.value_links.specs.Reading.{UnitRead, declarations, unit_among, no_unit, IsUnitRead}
use Rattle.value_links.specs.World.{World, head_and_forest, table_at, named_by, IsWorldOf}
use Rattle.rewriter.specs.inside.Placed.{unit_in}
use Rattle.rewriter.specs.inside.Counting.{AreCountable}
use Rattle.rewriter.proofs.TermSums.{sum_by-map}
use Rattle.rewriter.proofs.ColumnMeanings.{AreOfTable}
use Rattle.rewriter.proofs.Standing.{held_unit}

abbrev Known : List Declared → Entry → Type 0
Known ds e = e.decl < length ds

-- the entries of a walk have declarations of the table
entries_known : (section : List ℕ) (ds : List Declared) (old : Listed) (chains : List ℕ) (items : List Item) (new : Listed) (left : List ℕ) → Walks section ds old chains items new left → All (Known ds) old.entries → All (Known ds) new.entries
entries_known section ds old chains [] new left (same, _) known = subst (λ (l : Listed). All (Known ds) l.entries) (sym same) known
entries_known section ds old chains (AnEntry number ∷ items) new left (going, (mid, adds, rest)) known =
    entries_known section ds mid _ items new left rest (subst (λ (es : List Entry). All (Known ds) es) (sym adds.entered) (All-push (Known ds) old.entries _ known adds.known))
entries_known section ds old chains (AnEnd ∷ items) new left (id, outer, mid, e, adds, rest) known =
    entries_known section ds mid outer items new left rest (subst (λ (es : List Entry). All (Known ds) es) (sym adds.entered) known)

abbrev entries_in : HeadAndForest → ℕ
entries_in unit = length unit.forest.entries

module _ (world : World) (reach : Reach) (is : IsWorldOf world.image reach world) where
  abbrev units_read : List UnitRead
  units_read = is.r.links.units

  unit_count : length world.units ≡ length units_read
  unit_count = ap length is.holds.units ∙ length-map units_read head_and_forest

  unit_is : (u : ℕ) → unit_in world.units u ≡ head_and_forest (unit_among units_read u)
  unit_is u = held_unit world.image world is.r u is.holds

  read_at : (u : ℕ) → u < length units_read → IsUnitRead (debug_info world.image) (debug_abbrev world.image) (unit_among units_read u)
  read_at u inside = All-get_or (IsUnitRead (debug_info world.image) (debug_abbrev world.image)) units_read u no_unit inside is.read.links.units.each

  known_at : TreesAreWalks → (u : ℕ) → u < length units_read → All (Known (declarations (unit_among units_read u))) (unit_among units_read u).forest.entries
  known_at law u inside =
      let unit = unit_among units_read u in
      let held = (read_at u inside).entries in
      let whole = (law _ _ _ _).0 held.1.tree in
      entries_known _ (declarations unit) _ [] whole.items _ [] whole.walked (All-nil (Known (declarations unit)))

  pub countable : TreesAreWalks → AreCountable world.units world.tables world.table_of
  countable law = record {
    count = is.holds.tables.count ∙ sym unit_count;
    inside = λ u below. is.holds.tables.inside u (omega (arith, below, unit_count));
    place = λ u below.
        ap (λ (x : HeadAndForest). x.head.table) (unit_is u) ∙ sym (ap (λ (t : NamedTable). t.place) (is.holds.tables.each u (omega (arith, below, unit_count))));
    entries = λ u below.
        let within : u < length units_read = omega (arith, below, unit_count) in
        let unit = unit_among units_read u in
        let count : length (declarations unit) ≡ length (table_at world.tables (get_or world.table_of u 0)).table.decls =
        length-map unit.table.decls (declared_in unit.table.specs) ∙ sym (ap (λ (t : NamedTable). length t.table.decls) (is.holds.tables.each u within)) in
        let known : All (λ (e : Entry). e.decl < length (table_at world.tables (get_or world.table_of u 0)).table.decls) unit.forest.entries = subst (λ (n : ℕ). All (λ (e : Entry). e.decl < n) unit.forest.entries) count (known_at law u within) in
        subst (λ (x : HeadAndForest). All (λ (e : Entry). e.decl < length (table_at world.tables (get_or world.table_of u 0)).table.decls) x.forest.entries) (sym (unit_is u)) known;
    rising = is.holds.tables.rising;
    few =
        let all : sum_by entries_in world.units ≡ sum_by (λ (u : UnitRead). length u.forest.entries) units_read = ap (sum_by entries_in) is.holds.units ∙ sum_by-map entries_in head_and_forest units_read in
        let most = is.read.links.units.within.entries in
        omega (arith, all, most);
  }

  -- the same of lists that are the world's
  pub countable_as : (units : List HeadAndForest) (tables : List NamedTable) (table_of : List ℕ) → units ≡ world.units → tables ≡ world.tables → table_of ≡ world.table_of → TreesAreWalks → AreCountable units tables table_of
  countable_as units tables table_of units_are tables_are numbers_are law =
      let a : AreCountable units world.tables world.table_of = subst (λ (us : List HeadAndForest). AreCountable us world.tables world.table_of) (sym units_are) (countable law) in
      let b : AreCountable units tables world.table_of = subst (λ (ts : List NamedTable). AreCountable units ts world.table_of) (sym tables_are) a in
      subst (λ (ns : List ℕ). AreCountable units tables ns) (sym numbers_are) b

  -- each table stands somewhere
  pub table_known : (i : ℕ) → i < length world.tables → IsTable (table_at world.tables i).table
  table_known i below =
      let named = is.holds.tables.named i below in
      let u : ℕ = named.0 in
      let same : table_at world.tables i ≡ named_by (unit_among units_read u) = ap (table_at world.tables) (sym named.2) ∙ is.holds.tables.each u named.1 in
      let stands : IsTable (unit_among units_read u).table = (debug_abbrev world.image, (unit_among units_read u).head.table, (read_at u named.1).table) in
      subst (λ (t : NamedTable). IsTable t.table) (sym same) stands

  -- the units that have a table
  pub of_table : (i : ℕ) → i < length world.tables → AreOfTable world.units (table_at world.tables i) (debug_info world.image) world.table_of i
  of_table i below =
      let all : AreCountable world.units world.tables world.table_of = countable trees_are_walks in
      record {
        stands = table_known i below;
        named = λ u inside same. all.place u inside ∙ ap (λ (n : ℕ). (table_at world.tables n).place) same;
        apart = λ u inside other same. elim (cases_lt (get_or world.table_of u 0) i) [
          | inl less ↦ omega (arith, all.rising (get_or world.table_of u 0) i less below, all.place u inside, same)
          | inr more ↦
              let past : i < get_or world.table_of u 0 = (let o : get_or world.table_of u 0 ≢ i = other in omega arith) in
              omega (arith, all.rising i (get_or world.table_of u 0) past (all.inside u inside), all.place u inside, same)
        ];
        lent = λ u inside same. ap (λ (x : HeadAndForest). x.forest.section) (unit_is u) ∙ (read_at u (omega (arith, inside, unit_count))).section;
        held = λ u inside same.
            let within : u < length units_read = omega (arith, inside, unit_count) in
            let unit : UnitRead = unit_among units_read u in
            let table : unit.table ≡ (table_at world.tables i).table = sym (ap (λ (t : NamedTable). t.table) (is.holds.tables.each u within)) ∙ ap (λ (n : ℕ). (table_at world.tables n).table) same in
            let read : IsUnitHeld (debug_info world.image) unit.head (declarations_of (table_at world.tables i).table) unit.forest = subst (λ (t : Listing). IsUnitHeld (debug_info world.image) unit.head (declarations_of t) unit.forest) table (read_at u within).entries in
            subst (λ (x : HeadAndForest). IsUnitHeld (debug_info world.image) x.head (declarations_of (table_at world.tables i).table) x.forest) (sym (unit_is u)) read;
        few = all.few;
      }
