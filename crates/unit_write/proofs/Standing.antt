-- The entries and values of a unit that is held stand in its section.
use Rattle.std.proofs.Common.{◌≡◌, ◌≢◌, ◌<◌, ◌+◌, ◌-◌, ℕ, List, [], ◌∷◌, length, ◌∙◌, sym, ap, arith, refl}
use Rattle.std.specs.List.{AllZip}
use Rattle.form_codec.specs.declared.value.Value.{Value}
use Rattle.abbrev_tables.specs.Listings.{Listing}
use Rattle.entry_arena.specs.declared.entry.Entry.{Entry}
use Rattle.entry_arena.specs.Arena.{Arena, entry_at, with_values}
use Rattle.entry_arena.specs.Standing.{StandsAs}
use Rattle.entry_arena.specs.Trees.{listed_to, declared_at}
use Rattle.entry_arena.specs.Walks.{IsWhole}
use Rattle.entry_arena.proofs.FrontLaws.{comes_to_entry}
use Rattle.entry_arena.proofs.TreeLaws.{trees_are_walks}
use Rattle.entry_arena.proofs.WalkPlaces.{walked_orderly}
use Rattle.entry_read.specs.Units.{HeadAndForest, entries_at, declarations_of}
use Rattle.entry_read.proofs.Declarations.{count_same}
use Rattle.entry_read.proofs.PlaceLaws.{entry_stands}
use Rattle.unit_write.specs.Taken.{StandsFor, IsHeldFor}
use Rattle.unit_write.specs.Placing.{values_in}
use Rattle.unit_write.specs.inside.Readings.{AreStanding}
use Rattle.unit_write.proofs.Sizing.{valued_between}
use Rattle.unit_write.proofs.TakenUnits.{zip_part, all_taken_in, as_many}

some_last : (entries : List Entry) → entries ≢ [] → length entries - 1 + 1 ≡ length entries
some_last [] some = absurd (some refl)
some_last (e ∷ entries) some = omega arith

module _ (unit : HeadAndForest) (table : Listing) (held : IsHeldFor unit table) where
  -- the unit with the values that were read
  abbrev pub as_read : Arena
  as_read = with_values unit.forest held.values

  -- the whole walk over the unit's entries
  pub whole_walk : IsWhole unit.forest.section (declarations_of table) (entries_at unit.head) (listed_to as_read held.held.0)
  whole_walk = (trees_are_walks unit.forest.section (declarations_of table) (entries_at unit.head) (listed_to as_read held.held.0)).0 held.held.1.tree

  -- each whole walk over them lists as many values
  pub values_counted : (values : List Value) (place : ℕ) → IsWhole unit.forest.section (declarations_of table) (entries_at unit.head) (listed_to (with_values unit.forest values) place) → length values ≡ length unit.forest.values
  values_counted values place whole =
      let last = some_last unit.forest.entries whole.some in
      let here = walked_orderly unit.forest.section (declarations_of table) (entries_at unit.head) whole.items (listed_to (with_values unit.forest values) place) [] whole.walked in
      let read = walked_orderly unit.forest.section (declarations_of table) (entries_at unit.head) whole_walk.items (listed_to as_read held.held.0) [] whole_walk.walked in
      here.used (length unit.forest.entries - 1) last ∙ sym (read.used (length unit.forest.entries - 1) last) ∙ sym (as_many unit table held)

  -- an entry with the values that were read
  pub read_stands : (id : ℕ) → id < length unit.forest.entries → StandsAs unit.forest.section (declarations_of table) held.values (entry_at unit.forest.entries id)
  read_stands = entry_stands unit.forest.section unit.head (declarations_of table) as_read refl held.held

  -- for which its own stand
  pub taken_in_entry : (id : ℕ) → AllZip (StandsFor unit.head) (values_in as_read id) (values_in unit.forest id)
  taken_in_entry id =
      let e = entry_at unit.forest.entries id in
      zip_part (StandsFor unit.head) e.first e.count held.values unit.forest.values held.taken

  pub values_stand : (id : ℕ) → id < length unit.forest.entries → AreStanding unit.forest.section (values_in unit.forest id)
  values_stand id inside small =
      let e = entry_at unit.forest.entries id in
      let s = read_stands id inside in
      let all = valued_between unit.forest.section small ((declared_at (declarations_of table) e.decl).columns) (values_in as_read id) s.values_at (e.at + e.len) s.valued in
      all_taken_in unit.forest.section unit.head (values_in as_read id) (values_in unit.forest id) (taken_in_entry id) all

  -- each has a declaration of the table
  pub entry_declared : (id : ℕ) → id < length unit.forest.entries → (entry_at unit.forest.entries id).decl < length table.decls
  entry_declared id inside =
      let c = comes_to_entry unit.forest.section (declarations_of table) (entries_at unit.head) whole_walk.items (listed_to as_read held.held.0) [] whole_walk.walked id inside in
      let number : (entry_at unit.forest.entries id).decl ≡ c.number = ap (λ (e : Entry). e.decl) c.here in
      let known : c.number < length (declarations_of table) = c.adds.known in
      let size : length (declarations_of table) ≡ length table.decls = count_same table in
      omega arith
