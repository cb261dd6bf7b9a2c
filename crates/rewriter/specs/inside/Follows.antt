-- A file that is written anew means what the old one means: laws of its units.
use Rattle.std.specs.Prelude.{◌≡◌, ◌<◌, ℕ, List, length, slice_index}
use Rattle.dw_base.specs.declared.classes.Classes.{Classes}
use Rattle.unit_write.specs.declared.places.Places.{Places}
use Rattle.value_links.specs.Reading.{Linkable, Reading, of_kind, lists_of, program_at}
use Rattle.value_links.specs.Whole.{IsReading}
use Rattle.value_links.specs.Debug.{UnitMeaning, MeanUnits}
use Rattle.dw_base.specs.declared.fault.Reach.TheVariants.{Wide}
use Rattle.value_links.specs.Laws.{AreExpressionsWithin}
use Rattle.written_files.specs.Tidy.{AreTidyExpressions}
use Rattle.value_links.specs.World.{World, Holds}
use Rattle.rewriter.specs.declared.tables.NewTable.{NewTable}
use Rattle.rewriter.specs.declared.new_places.NewPlaces.{NewPlaces}
use Rattle.rewriter.specs.inside.Tables.{AreTablesWritten}
use Rattle.rewriter.specs.inside.Units.{AreUnitsWritten}
use Rattle.list_model.specs.declared.entry.ListKind.{ListKind}
use Rattle.rewriter.specs.inside.ListsAnew.{AreListsAnew}
use Rattle.rewriter.specs.inside.ViewsAnew.{AreViewsAnew}
use Rattle.rewriter.specs.inside.NewPlaces.{moved_lists}

-- there are as many line number programs, and they begin at their new places
pub record AreProgramsMoved (r s : Linkable) (new_places : NewPlaces) : Type 0 where
  pub count : length s.programs ≡ length r.programs
  pub places : (p : ℕ) → p < length r.programs → (program_at s p).head.at ≡ slice_index new_places.programs.items p

-- What was read of a file, and what is read of the sections that are written anew for it.
pub record AreReadAnew (classes : Classes) (file : List ℕ) (world : World) (tables : List NewTable) (places : List Places) (new_places : NewPlaces) (info abbrevs : List ℕ) (r s : Reading) : Type 0 where
  pub read : IsReading file r
  pub holds : Holds file world r
  pub tables_written : AreTablesWritten classes world abbrevs tables
  pub units : AreUnitsWritten world r.links tables places new_places info abbrevs s.links.units
  pub programs : AreProgramsMoved r.links s.links new_places
  pub lists : (kind : ListKind) → AreListsAnew classes r places kind (of_kind s.links kind) (lists_of s kind) (moved_lists new_places kind)
  pub views : AreViewsAnew r s new_places.views.items
  pub addresses : s.links.addresses ≡ r.links.addresses
  pub contexts : s.links.contexts ≡ r.links.contexts

-- The units mean the same, with their entries and all values.
abbrev pub LinksFollow : Type 0
LinksFollow =
    (classes : Classes) (file : List ℕ) (world : World) (tables : List NewTable) (places : List Places) (new_places : NewPlaces) (info abbrevs : List ℕ) (r s : Reading) (units : List UnitMeaning) → AreReadAnew classes file world tables places new_places info abbrevs r s → MeanUnits r units → MeanUnits s units

-- And each expression is one within the wide limits.
abbrev pub ExpressionsAreWide : Type 0
ExpressionsAreWide =
    (classes : Classes) (file : List ℕ) (world : World) (tables : List NewTable) (places : List Places) (new_places : NewPlaces) (info abbrevs : List ℕ) (r s : Reading) → AreReadAnew classes file world tables places new_places info abbrevs r s → AreExpressionsWithin s.links Wide

-- The expressions are those of the old operations with new references.
abbrev pub ExpressionsAreTidy : Type 0
ExpressionsAreTidy =
    (classes : Classes) (file : List ℕ) (world : World) (tables : List NewTable) (places : List Places) (new_places : NewPlaces) (info abbrevs : List ℕ) (r s : Reading) → AreReadAnew classes file world tables places new_places info abbrevs r s → AreTidyExpressions r.links s.links
