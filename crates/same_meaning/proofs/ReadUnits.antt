-- What a world holds of what is read of its file, which is read in one way and means something.
use Rattle.std.proofs.Common.{◌≡◌, ◌≤◌, ◌<◌, ◌+◌, ◌∙◌, ℕ, List, length, get_or, sym, ap, subst, arith}
use Rattle.std.specs.Prelude.{Some, slice_get, slice_index}
use Rattle.std.proofs.lemmas.List.{length-map, get_or_read}
use Rattle.std.proofs.lemmas.Option.{slice_get_within, get_or_from_slice_get}
use Rattle.std.proofs.lemmas.List.Elements.{All-get_or}
use Rattle.std.proofs.Math.ListN.{get_or-map}
use Rattle.abbrev_tables.specs.Listings.{Listing, decl_at, declared_in}
use Rattle.entry_arena.specs.Arena.{Arena, entry_at}
use Rattle.entry_arena.specs.Order.{IsInOrder}
use Rattle.entry_arena.specs.Trees.{declared_at}
use Rattle.entry_read.specs.Units.{HeadAndForest}
use Rattle.entry_read.specs.Places.{HaveOwners}
use Rattle.entry_read.proofs.Declarations.{count_same, declared_is}
use Rattle.entry_read.proofs.OwnerLaws.{values_belong}
use Rattle.entry_read.proofs.PlaceLaws.{units_lie}
use Rattle.value_links.specs.Sections.{debug_info, debug_abbrev}
use Rattle.value_links.specs.Reading.{UnitRead, Reading, no_unit, unit_at, declarations, IsUnitRead}
use Rattle.value_links.specs.Whole.{IsReading}
use Rattle.value_links.specs.Debug.{Debug, UnitMeaning, MeansUnit, MeansDebug, Means}
use Rattle.value_links.specs.Values.{entry_of, declaration_of}
use Rattle.value_links.specs.declared.units.NamedTable.{NamedTable}
use Rattle.value_links.specs.Laws.{OneReading}
use Rattle.value_links.specs.Links.{held_at}
use Rattle.value_links.specs.World.{World, head_and_forest, table_at, Holds}
use Rattle.same_meaning.specs.inside.Compared.{IsSomeWorld}
use Rattle.same_meaning.specs.inside.Values.{OfReading, entry_held}

-- as many units as are read, and each is the one that is read
pub held_count : (world : World) (r : Reading) → Holds world.image world r → length world.units ≡ length r.links.units
held_count world r holds = ap length holds.units ∙ length-map r.links.units head_and_forest

pub held_unit : (world : World) (r : Reading) (u : ℕ) → Holds world.image world r → held_at world.units u ≡ head_and_forest (unit_at r.links u)
held_unit world r u holds = ap (λ (units : List HeadAndForest). held_at units u) holds.units ∙ get_or-map head_and_forest r.links.units u no_unit

pub unit_read : (file : List ℕ) (r : Reading) (u : ℕ) → IsReading file r → u < length r.links.units → IsUnitRead (debug_info file) (debug_abbrev file) (unit_at r.links u)
unit_read file r u read inside = All-get_or (IsUnitRead (debug_info file) (debug_abbrev file)) r.links.units u no_unit inside read.links.units.each

-- each value of such a unit is one of an entry, and what is held of it is in order
pub owners : (info abbrevs : List ℕ) (unit : UnitRead) → IsUnitRead info abbrevs unit → HaveOwners (declarations unit) unit.forest
owners info abbrevs unit is = values_belong info unit.head (declarations unit) unit.forest is.section is.entries

pub orderly : (info abbrevs : List ℕ) (unit : UnitRead) → IsUnitRead info abbrevs unit → IsInOrder unit.forest
orderly info abbrevs unit is = (units_lie info unit.head (declarations unit) unit.forest is.section is.entries).order

-- what is read of the file of a world means something
pub world_means : OneReading → (world : World) → IsSomeWorld world → OfReading world (λ r. (debug : Debug) × MeansDebug world.image r debug)
world_means one world (reach, is) r read holds =
    subst (λ (z : Reading). (debug : Debug) × MeansDebug world.image z debug) (one world.image is.r r is.read read) (is.debug, is.means)

-- something is read of it
pub some_reading : (world : World) → IsSomeWorld world → (r : Reading) × IsReading world.image r × Holds world.image world r
some_reading world (reach, is) = (is.r, is.read, is.holds)

-- what a file means is said of what its world holds
pub means_read : OneReading → (world : World) → IsSomeWorld world → (c : Debug) → Means world.image c → (r : Reading) × IsReading world.image r × Holds world.image world r × MeansDebug world.image r c
means_read one world (reach, is) c (r, read, means) = (r, read, subst (Holds world.image world) (one world.image is.r r is.read read) is.holds, means)

pub unit_means : (file : List ℕ) (r : Reading) (c : Debug) (u : ℕ) (a : UnitMeaning) → MeansDebug file r c → slice_get c.units u ≡ Some a → MeansUnit r u a
unit_means file r c u a means is =
    subst (MeansUnit r u) (get_or_from_slice_get c.units u a a is) (means.units.each u a (slice_get_within c.units u a is))

-- WHAT IS LOOKED UP

-- a unit that is looked up is the one that is held
pub own_is : (world : World) (u : ℕ) (units : List HeadAndForest) (own : HeadAndForest) → u < length world.units → units ≡ world.units → own ≡ get_or units u own → own ≡ held_at world.units u
own_is world u units own inside same is =
    get_or_read world.units u own inside (subst (λ (z : List HeadAndForest). own ≡ get_or z u own) same is) (head_and_forest no_unit)

pub forest_is : (world : World) (u : ℕ) (units : List HeadAndForest) (own : HeadAndForest) (forest : Arena) → u < length world.units → units ≡ world.units → own ≡ get_or units u own → forest ≡ own.forest → forest ≡ (held_at world.units u).forest
forest_is world u units own forest inside same is there = there ∙ ap (λ (h : HeadAndForest). h.forest) (own_is world u units own inside same is)

-- so is its table
pub table_is : (world : World) (r : Reading) (u : ℕ) → Holds world.image world r → u < length r.links.units → (table_at world.tables (slice_index world.table_of u)).table ≡ (unit_at r.links u).table
table_is world r u holds inside = ap (λ (t : NamedTable). t.table) (holds.tables.each u inside)

-- the declaration of an entry is one of the table
module _ (world : World) (r : Reading) (u id : ℕ) (read : IsReading world.image r) (holds : Holds world.image world r) (inside : u < length world.units) (known : id < length (held_at world.units u).forest.entries) (table : Listing) (is : table ≡ (table_at world.tables (slice_index world.table_of u)).table) where
  pub within : u < length r.links.units
  within = let size : length world.units ≡ length r.links.units = held_count world r holds in omega arith

  pub entry_known : id < length (unit_at r.links u).forest.entries
  entry_known = subst (λ (h : HeadAndForest). id < length h.forest.entries) (held_unit world r u holds) known

  pub decl_same : (entry_held world u id).decl ≡ (entry_of (unit_at r.links u) id).decl
  decl_same = ap (λ (h : HeadAndForest). (entry_at h.forest.entries id).decl) (held_unit world r u holds)

  table_same : table ≡ (unit_at r.links u).table
  table_same = is ∙ table_is world r u holds within

  pub decl_inside : (entry_held world u id).decl < length table.decls
  decl_inside =
      let owned = owners (debug_info world.image) (debug_abbrev world.image) (unit_at r.links u) (unit_read world.image r u read within) in
      let there : (entry_of (unit_at r.links u) id).decl < length (declarations (unit_at r.links u)) = owned.declared id entry_known in
      let size : length (declarations (unit_at r.links u)) ≡ length (unit_at r.links u).table.decls = count_same (unit_at r.links u).table in
      let as_many : length table.decls ≡ length (unit_at r.links u).table.decls = ap (λ (t : Listing). length t.decls) table_same in
      let same : (entry_held world u id).decl ≡ (entry_of (unit_at r.links u) id).decl = decl_same in
      omega arith

  -- and is the one that was read
  pub declared_same : declared_in table.specs (decl_at table.decls (entry_held world u id).decl) ≡ declaration_of (unit_at r.links u) id
  declared_same =
      let d : ℕ = (entry_held world u id).decl in
      let there : d < length (unit_at r.links u).table.decls = subst (λ (t : Listing). d < length t.decls) table_same decl_inside in
      ap (λ (t : Listing). declared_in t.specs (decl_at t.decls d)) table_same
      ∙ sym (declared_is (unit_at r.links u).table d there)
      ∙ ap (declared_at (declarations (unit_at r.links u))) decl_same

-- the values of an entry are among those of its unit
pub values_within : (world : World) → IsSomeWorld world → (u id : ℕ) → u < length world.units → id < length (held_at world.units u).forest.entries → (entry_held world u id).first + (entry_held world u id).count ≤ length (held_at world.units u).forest.values
values_within world some u id inside known =
    let (r, read, holds) = some_reading world some in
    let size : length world.units ≡ length r.links.units = held_count world r holds in
    let there : id < length (unit_at r.links u).forest.entries = subst (λ (h : HeadAndForest). id < length h.forest.entries) (held_unit world r u holds) known in
    let owned = owners (debug_info world.image) (debug_abbrev world.image) (unit_at r.links u) (unit_read world.image r u read (omega arith)) in
    subst (λ (h : HeadAndForest). (entry_at h.forest.entries id).first + (entry_at h.forest.entries id).count ≤ length h.forest.values) (sym (held_unit world r u holds)) (owned.inside id there)
