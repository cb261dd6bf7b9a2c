-- What the new sections of a file mean.
use Rattle.std.specs.Prelude.{◌≡◌, ◌<◌, ℕ, List, length, slice_index}
use Rattle.dw_base.specs.declared.classes.Classes.{Classes}
use Rattle.line_write.specs.Meaning.{ProgramMeaning, HaveMeanings}
use Rattle.companions.specs.Aranges.{IsOutside, SetsTile}
use Rattle.unit_write.specs.declared.places.Places.{Places}
use Rattle.value_links.specs.Sections.{debug_line, debug_aranges}
use Rattle.value_links.specs.Reading.{Linkable, Reading, of_kind, lists_of, line_heads, unit_starts, program_at, AreProgramsIn}
use Rattle.list_model.specs.declared.entry.ListKind.{ListKind}
use Rattle.list_model.specs.declared.entry.ListKind.TheVariants.{Ranges, Locations}
use Rattle.written_files.specs.TidyLists.{IsFilled}
use Rattle.value_links.specs.Laws.{HaveFewRows}
use Rattle.value_links.specs.World.{World}
use Rattle.rewriter.specs.declared.tables.NewTable.{NewTable}
use Rattle.rewriter.specs.declared.new_places.NewPlaces.{NewPlaces}
use Rattle.rewriter.specs.declared.sections.NewSections.{NewSections}
use Rattle.rewriter.specs.inside.Tables.{AreTablesWritten}
use Rattle.rewriter.specs.inside.Placed.{places_at, IsPlacedBy}
use Rattle.rewriter.specs.inside.Recorded.{IsRecorded}
use Rattle.rewriter.specs.inside.Units.{AreUnitsWritten}
use Rattle.rewriter.specs.inside.ListsAnew.{AreListsAnew}
use Rattle.rewriter.specs.inside.ViewsAnew.{AreViewsAnew}
use Rattle.rewriter.specs.inside.NewPlaces.{moved_lists}

-- The programs of the new section begin at their new places, give few rows, and mean what the old ones mean, one by one.
pub record AreProgramsAnew (old_lines : List ℕ) (r s : Linkable) (lines : List ℕ) (new_places : NewPlaces) : Type 0 where
  pub read : AreProgramsIn lines s.programs
  pub few : HaveFewRows s.programs
  pub count : length s.programs ≡ length r.programs
  pub places : (p : ℕ) → p < length r.programs → (program_at s p).head.at ≡ slice_index new_places.programs.items p
  pub means : (meanings : List ProgramMeaning) → HaveMeanings old_lines (line_heads r.programs) meanings → HaveMeanings lines (line_heads s.programs) meanings

-- The sets of the new section name the units where they stand now, and no other byte differs.
pub record AreSetsAnew (old : List ℕ) (r s : Reading) (new : List ℕ) : Type 0 where
  pub same : s.sets ≡ r.sets
  pub tiled : SetsTile new (unit_starts s.links.units) s.sets
  pub size : length new ≡ length old
  pub bytes : (k : ℕ) → IsOutside r.sets k → slice_index new k ≡ slice_index old k

-- the new section of lists of a kind
abbrev pub new_lists : NewSections → ListKind → List ℕ
new_lists new Ranges = new.ranges.items
new_lists new Locations = new.locations.items

-- What is read of the new sections of a file, of which so much was read, where its units stand at their new places; and its certificate.
pub record AreAnew (classes : Classes) (file : List ℕ) (world : World) (r s : Reading) (new : NewSections) (certificate : List ℕ) : Type 0 where
  pub tables : List NewTable
  pub places : List Places
  pub new_places : NewPlaces
  pub tables_written : AreTablesWritten classes world new.abbrevs.items tables
  pub programs : AreProgramsAnew (debug_line file) r.links s.links new.lines.items new_places
  pub section : (kind : ListKind) → (of_kind s.links kind).section ≡ new_lists new kind
  pub lists : (kind : ListKind) → AreListsAnew classes r places kind (of_kind s.links kind) (lists_of s kind) (moved_lists new_places kind)
  pub views : AreViewsAnew r s new_places.views.items
  pub filled : (kind : ListKind) (p : ℕ) → p < length (of_kind s.links kind).parts → IsFilled kind s p
  pub addresses : s.links.addresses ≡ r.links.addresses
  pub contexts : s.links.contexts ≡ r.links.contexts
  pub units : AreUnitsWritten world r.links tables places new_places new.info.items new.abbrevs.items s.links.units
  pub placed : (u : ℕ) → u < length world.units → IsPlacedBy world tables u (places_at places u)
  pub sets : AreSetsAnew (debug_aranges file) r s new.aranges.items
  pub recorded : IsRecorded classes world r tables places new.lines.items certificate
