-- Where a unit that is written ends: where its places say.
use Rattle.std.proofs.Common.{◌≡◌, ◌<◌, ◌+◌, ◌-◌, ℕ, List, length, slice_index, sym, subst, arith}
use Rattle.dw_base.specs.declared.classes.Classes.{Classes}
use Rattle.dw_base.specs.declared.fault.Reach.{Reach}
use Rattle.abbrev_tables.specs.declared.decl.Spec.{Spec}
use Rattle.abbrev_tables.specs.Listings.{Listing}
use Rattle.entry_arena.specs.ForestLaws.{HaveCodes}
use Rattle.entry_arena.specs.Walks.{Item}
use Rattle.entry_arena.proofs.WalkLaws.{whole_once}
use Rattle.entry_read.specs.Units.{HeadAndForest, entries_at, declarations_of, IsTable}
use Rattle.entry_read.proofs.Declarations.{have_codes}
use Rattle.unit_write.specs.Placing.{EntrySize, ArePlaced, OnePlacing}
use Rattle.unit_write.specs.Moved.{IsPlacedAt, new_values, lens_anew}
use Rattle.unit_write.specs.declared.places.Places.{Places}
use Rattle.unit_write.proofs.Placed.{one_placing}
use Rattle.unit_write.proofs.ValueLaws.{one_size}
use Rattle.value_links.specs.Sections.{debug_abbrev}
use Rattle.value_links.specs.Reading.{unit_at}
use Rattle.value_links.specs.World.{World, IsWorldOf}
use Rattle.rewriter.specs.declared.tables.NewTable.{NewTable}
use Rattle.rewriter.specs.declared.new_places.NewPlaces.{NewPlaces}
use Rattle.rewriter.specs.inside.Tables.{AreTablesWritten}
use Rattle.rewriter.specs.inside.Placed.{places_at, written_in}
use Rattle.rewriter.specs.inside.Held.{table_for, IsUnitBehind}
use Rattle.rewriter.proofs.Standing.{held_count}
use Rattle.rewriter.proofs.Final.{table_known, unit_reads}

-- the law of unit_write, that the items of a walk have one place each
once_placed : OnePlacing
once_placed = one_placing one_size

-- so a unit has its places once
pub one_place : (unit : HeadAndForest) (table : Listing) (columns : List Spec) (numbers lens : List ℕ) (start : ℕ) (entries others ends other_ends : List ℕ) (to other : ℕ) → HaveCodes (declarations_of table) → IsPlacedAt unit table columns numbers lens start entries ends to → IsPlacedAt unit table columns numbers lens start others other_ends other → (entries ≡ others) × (ends ≡ other_ends) × (to ≡ other)
one_place unit table columns numbers lens start entries others ends other_ends to other codes p q =
    let first : ℕ = start + (entries_at unit.head - unit.head.at) in
    let same : p.whole.items ≡ q.whole.items = (whole_once unit.forest.section (declarations_of table) (entries_at unit.head) _ _ codes p.whole q.whole).0 in
    once_placed table columns numbers unit.forest lens 0 (start + (entries_at unit.head - unit.head.at)) p.whole.items entries others ends other_ends to other p.placed (subst (λ (items : List Item). ArePlaced (EntrySize table columns numbers unit.forest lens) 0 items (start + (entries_at unit.head - unit.head.at)) others other_ends other) (sym same) q.placed)

-- the table of a unit has codes of its own
pub table_coded : (world : World) (reach : Reach) (u : ℕ) → IsWorldOf world.image reach world → u < length world.units → HaveCodes (declarations_of (table_for world u))
table_coded world reach u is known =
    let size : length world.units ≡ length is.r.links.units = held_count world.image world is.r is.holds in
    let read = unit_reads world.image world is.r u reach is is.holds known in
    have_codes (table_for world u) (subst IsTable (sym (table_known world.image world is.r u is.holds (omega arith))) (debug_abbrev world.image, (unit_at is.r.links u).head.table, read.table))

-- a unit that stands behind others ends where its places do
pub unit_to : {classes : Classes} → (world : World) (reach : Reach) (tables : List NewTable) (places : List Places) (new_places : NewPlaces) (abbrevs section : List ℕ) (u : ℕ) → IsWorldOf world.image reach world → AreTablesWritten classes world abbrevs tables → u < length world.units → IsUnitBehind world tables places new_places u section → length section ≡ (places_at places u).end
unit_to world reach tables places new_places abbrevs section u is written known behind =
    let size : length world.units ≡ length is.r.links.units = held_count world.image world is.r is.holds in
    let old : slice_index world.table_of u < length world.tables = is.holds.tables.inside u (omega arith) in
    let table = written.each (slice_index world.table_of u) old in
    let anew = behind.written (declarations_of table.listing) table.renumbered in
    (one_place (written_in world tables u) (table_for world u) _ _ (lens_anew (written_in world tables u).forest (new_values behind.numbers)) (places_at places u).start _ _ _ _ (length section) (places_at places u).end (table_coded world reach u is known) anew.placed behind.placed).2
