-- What the world of a valid file holds: as many units as are read, each with a table.
use Rattle.std.proofs.Common.{◌≡◌, ◌≢◌, ◌<◌, ℕ, List, [], ◌∷◌, length, slice_index, ◌∙◌, ap, refl, arith, inl, inr}
use Rattle.std.specs.Prelude.{map}
use Rattle.std.proofs.lemmas.Bool.{cases_lt}
use Rattle.std.proofs.lemmas.List.{length-map, get_or_past}
use Rattle.std.proofs.Math.ListN.{get_or-map}
use Rattle.dw_base.specs.declared.fault.Reach.{Reach}
use Rattle.abbrev_tables.specs.declared.decl.Spec.{Spec}
use Rattle.abbrev_tables.specs.Listings.{Listing}
use Rattle.entry_arena.specs.declared.entry.Entry.{Entry}
use Rattle.entry_arena.specs.Arena.{entry_at, with_values}
use Rattle.entry_arena.specs.Trees.{listed_to}
use Rattle.entry_arena.proofs.TreeLaws.{trees_are_walks}
use Rattle.entry_read.specs.Units.{HeadAndForest, entries_at, declarations_of}
use Rattle.unit_write.specs.Lens.{AreLensFor}
use Rattle.unit_write.specs.Moved.{IsWritable}
use Rattle.value_links.specs.Reading.{Reading, no_unit, unit_at}
use Rattle.value_links.specs.World.{World, head_and_forest, table_at, Holds, IsWorldOf}
use Rattle.rewriter.specs.declared.tables.NewTable.{NewTable}
use Rattle.rewriter.specs.inside.Tables.{TableAnew, table_anew, new_table_at}
use Rattle.rewriter.specs.inside.Placed.{AreWritable, unit_in, written_in}
use Rattle.rewriter.specs.inside.Held.{HasTable}

-- some entry stands first, where there is one
pub filled : (entries : List Entry) → entries ≢ [] → 0 < length entries
filled [] some = absurd (some refl)
filled (e ∷ more) some = omega arith

-- a unit that can be written has an entry, so that its table has numbers
writable_numbers : (unit : HeadAndForest) (table : Listing) (columns : List Spec) (numbers lens : List ℕ) → IsWritable unit table columns numbers lens → numbers ≢ []
writable_numbers unit table columns numbers lens w none =
    let held = w.held.held in
    let walk = (trees_are_walks unit.forest.section (declarations_of table) (entries_at unit.head) (listed_to (with_values unit.forest w.held.values) held.0)).0 held.1.tree in
    let bad = w.used 0 (filled unit.forest.entries walk.some) in
    bad (ap (λ (z : List ℕ). slice_index z (entry_at unit.forest.entries 0).decl) none)

-- its new table is one of these
pub writable_new : (tables : List NewTable) (i : ℕ) (unit : HeadAndForest) (table : Listing) (lens : List ℕ) → IsWritable unit table (new_table_at tables i).columns (new_table_at tables i).numbers lens → i < length tables
writable_new tables i unit table lens w =
    elim (cases_lt i (length tables)) [
      | inl inside ↦ inside
      | inr past ↦
          let size : length (map table_anew tables) ≡ length tables = length-map tables table_anew in
          let none : new_table_at tables i ≡ record { at = 0; columns = []; numbers = [] } = get_or_past (map table_anew tables) i (record { at = 0; columns = []; numbers = [] }) (omega arith) in
          absurd (writable_numbers unit table _ _ lens w (ap (λ (t : TableAnew). t.numbers) none))
    ]

-- as many units as are read
pub held_count : (file : List ℕ) (world : World) (r : Reading) → Holds file world r → length world.units ≡ length r.links.units
held_count file world r holds = ap length holds.units ∙ length-map r.links.units head_and_forest

-- each is the one that is read
pub held_unit : (file : List ℕ) (world : World) (r : Reading) (u : ℕ) → Holds file world r → unit_in world.units u ≡ head_and_forest (unit_at r.links u)
held_unit file world r u holds =
    ap (λ (units : List HeadAndForest). unit_in units u) holds.units ∙ get_or-map head_and_forest r.links.units u no_unit

-- each has a table
pub has_table : (world : World) (tables : List NewTable) (u : ℕ) → ((reach : Reach) × IsWorldOf world.image reach world) → slice_index world.table_of u < length tables → u < length world.units → HasTable world tables u
has_table world tables u (reach, is) new known =
    let size : length world.units ≡ length is.r.links.units = held_count world.image world is.r is.holds in
    let count : length world.table_of ≡ length is.r.links.units = is.holds.tables.count in
    record { known = known; numbered = omega arith; old = is.holds.tables.inside u (omega arith); new = new }

pub has_written : (world : World) (tables : List NewTable) (u : ℕ) (lens : List ℕ) → ((reach : Reach) × IsWorldOf world.image reach world) → AreWritable world tables → u < length world.units → AreLensFor (written_in world tables u).forest lens → HasTable world tables u
has_written world tables u lens is writable known fit =
    has_table world tables u is (writable_new tables (slice_index world.table_of u) (written_in world tables u) (table_at world.tables (slice_index world.table_of u)).table lens (writable u lens known fit)) known
