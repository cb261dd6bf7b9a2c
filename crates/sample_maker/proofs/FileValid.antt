-- A generated file is valid.
use Rattle.std.proofs.Common.{◌≤◌, ◌<◌, ℕ, List, [], ◌∷◌, length, subst, arith}
use Rattle.std.specs.List.{All}
use Rattle.std.proofs.lemmas.List.Elements.{All-from_recursion, All-contains}
use Rattle.dw_base.specs.declared.fault.Reach.{Reach}
use Rattle.dw_base.specs.declared.fault.Reach.TheVariants.{Narrow}
use Rattle.form_codec.specs.declared.value.Value.{Value}
use Rattle.form_codec.specs.Forms.{Meaning}
use Rattle.form_codec.specs.Forms.Meaning.{Expression}
use Rattle.form_codec.specs.Values.{meant_in, bytes_in}
use Rattle.value_links.specs.Reading.{UnitRead, Linkable, unit_at}
use Rattle.value_links.specs.Values.{HasValueAt}
use Rattle.value_links.specs.Operations.{IsSomeExpression}
use Rattle.value_links.specs.Laws.{AreExpressionsWithin, AreUnitsInOrder, MeaningFilesAreValid}
use Rattle.value_links.specs.Faults.{IsValid}
use Rattle.value_links.proofs.HeldUnits.{unit_owners}
use Rattle.value_links.proofs.EntryValues.{value_stands}
use Rattle.sample_maker.specs.Drawn.{UnitDrawn}
use Rattle.sample_maker.specs.inside.Files.{info_bytes}
use Rattle.sample_maker.specs.inside.Images.{table_bytes}
use Rattle.sample_maker.specs.inside.Small.{IsUnitSmall}
use Rattle.sample_maker.specs.inside.ReadImage.{file_of}
use Rattle.sample_maker.specs.inside.ReadFile.{links_of, reading_of, UnitPlaced, placed_at, EntryPlaced, entry_numbered, attributes_said}
use Rattle.sample_maker.specs.inside.ReadFile.EntryPlaced.{TheRoot, TheFunction, TheParameter, TheBlock, TheType}
use Rattle.sample_maker.proofs.ReadExpressions.{frame_base_plain, is_some_expression}
use Rattle.sample_maker.proofs.ProgramsRead.{few_rows}
use Rattle.sample_maker.proofs.UnitsRead.{units_are_read}
use Rattle.sample_maker.proofs.GeneratedImage.{in_order}
use Rattle.sample_maker.proofs.UnitsPlaced.{count_is, context_is}
use Rattle.sample_maker.proofs.NamedLists.{lists_within}
use Rattle.sample_maker.proofs.SaidEntries.{read_is, value_is_said}
use Rattle.sample_maker.proofs.LinksRead.{programs_are, units_are, parts_are}
use Rattle.sample_maker.proofs.FileRead.{file_read}
use Rattle.sample_maker.proofs.FileMeans.{file_means}

-- EXPRESSIONS: the frame base of a function is the only one

abbrev IsFine : Reach → ℕ × Meaning → Type 0
IsFine reach (name, Expression bytes) = IsSomeExpression reach bytes
IsFine reach attribute = Unit {0}

attributes_fine : (reach : Reach) (u : ℕ) (p : UnitPlaced) (e : EntryPlaced) → All (IsFine reach) (attributes_said u p e)
attributes_fine reach u p TheRoot = All-from_recursion (IsFine reach) (attributes_said u p TheRoot) (tt, (tt, (tt, (tt, (tt, (tt, (tt, tt)))))))
attributes_fine reach u p (TheFunction f) = All-from_recursion (IsFine reach) (attributes_said u p (TheFunction f)) (tt, (tt, (tt, (tt, (tt, (tt, (tt, (is_some_expression reach (0x9c ∷ []) frame_base_plain, (tt, tt)))))))))
attributes_fine reach u p (TheParameter q) = All-from_recursion (IsFine reach) (attributes_said u p (TheParameter q)) (tt, (tt, (tt, (tt, (tt, tt)))))
attributes_fine reach u p (TheBlock b) = All-from_recursion (IsFine reach) (attributes_said u p (TheBlock b)) (tt, tt)
attributes_fine reach u p TheType = All-from_recursion (IsFine reach) (attributes_said u p TheType) (tt, (tt, (tt, tt)))

module _ (units : List UnitDrawn) (small : All IsUnitSmall units) (few : length units ≤ 4096) where
  abbrev r : Linkable
  r = links_of units

  expressions_within : (reach : Reach) → AreExpressionsWithin r reach
  expressions_within reach u number span known is =
      let inside : u < length units = omega (arith, known, count_is units) in
      let p : UnitPlaced = placed_at units u in
      let unit : UnitRead = unit_at r u in
      let (id, name, place, stands) = value_stands (info_bytes 0 0 0 0 units) table_bytes unit (read_is units small few u inside) (unit_owners (info_bytes 0 0 0 0 units) table_bytes r.units (units_are_read units small few) u known) number is.inside in
      let here : HasValueAt unit id number name (Expression (bytes_in unit.forest.section span)) place = subst (λ (z : Value). HasValueAt unit id number name (meant_in unit.forest.section z) place) is.is stands in
      let (among, said) = value_is_said units small few u inside id number name (Expression (bytes_in unit.forest.section span)) place here in
      All-contains (IsFine reach) (attributes_said u p (entry_numbered u p id)) (name, Expression (bytes_in unit.forest.section span)) (attributes_fine reach u p (entry_numbered u p id)) said

  units_in_order : AreUnitsInOrder (file_of units) Narrow r
  units_in_order = record {
    before = record { before = in_order units small few; programs = programs_are units small few; few = few_rows units small few };
    units = units_are units small few;
    lists = parts_are units small few;
  }

  -- by the law that a file of which all is read, that means something and keeps the limits is valid
  pub file_valid : MeaningFilesAreValid → IsValid (file_of units) Narrow
  file_valid law =
      law (file_of units) Narrow (reading_of units) _ units_in_order (file_read units small few) (file_means units small few) (expressions_within Narrow) (lists_within r.programs r.units r.addresses r.contexts units (reading_of units).sets small few (context_is units) Narrow)
