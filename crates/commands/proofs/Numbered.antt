-- The numbers of a file that is held.
use Rattle.std.proofs.Common.{◌≡◌, ◌<◌, ◌+◌, ◌^◌, ◌∙◌, ℕ, List, length, sym, ap, refl, subst, arith}
use Rattle.std.specs.List.{sum_by}
use Rattle.std.proofs.lemmas.List.{length-map}
use Rattle.dw_base.specs.declared.fault.Kind.{Kind}
use Rattle.dw_base.specs.declared.fault.Reach.TheVariants.{Narrow}
use Rattle.entry_read.specs.Units.{HeadAndForest}
use Rattle.line_write.specs.Faults.{LinesFault}
use Rattle.line_write.specs.Meaning.{ProgramMeaning, HaveMeanings}
use Rattle.line_write.specs.Programs.{Tile}
use Rattle.value_links.specs.Debug.{Means}
use Rattle.value_links.specs.Faults.Pass.{OfPrograms}
use Rattle.value_links.specs.Sections.{debug_line, line_name, offset_named}
use Rattle.value_links.specs.World.{World, IsWorldOf, head_and_forest}
use Rattle.commands.specs.declared.summary.Counts.{Counts}
use Rattle.commands.specs.inside.Summary.{AreCounts}
use Rattle.commands.proofs.EntryTotals.{entries_held, entries_meant}

-- a world of a file is one of its image
pub of_image : (file : List ℕ) (world : World) → IsWorldOf file Narrow world → IsWorldOf world.image Narrow world
of_image file world w = subst (λ (f : List ℕ). IsWorldOf f Narrow world) (sym w.holds.image) w

module _ (file : List ℕ) (world : World) (w : IsWorldOf file Narrow world) where
  -- the entries that are held are few
  pub few_entries : sum_by (λ (unit : HeadAndForest). length unit.forest.entries) world.units < 2 ^ 64
  few_entries =
      let same = entries_held w.r.links.units world.units w.holds.units in
      omega (arith, same, w.read.links.units.within.entries)

  -- the programs that are held are all of the section, and none has a fault
  pub programs_tile : Tile (debug_line file) world.programs
  programs_tile = subst (λ z. Tile (debug_line file) z) (sym w.holds.programs) w.read.links.programs.tiled

  pub faultless : (kind : Kind) (place : ℕ) → LinesFault (debug_line file) kind place → ⊥
  faultless kind place fault = w.valid OfPrograms kind (offset_named file line_name + place) (place, refl, fault)

  -- what is counted of what is held is so of what the file means
  pub counted : (counts : Counts) → counts.entries ≡ sum_by (λ (unit : HeadAndForest). length unit.forest.entries) world.units → ((programs : List ProgramMeaning) → HaveMeanings (debug_line file) world.programs programs → counts.rows ≡ sum_by (λ (program : ProgramMeaning). length program.rows) programs) → counts.units ≡ length world.units → AreCounts w.debug counts
  counted counts entries rows units = record {
    entries = entries ∙ entries_held w.r.links.units world.units w.holds.units ∙ sym (entries_meant w.r w.debug w.means.units);
    rows = rows w.debug.programs (subst (λ z. HaveMeanings (debug_line file) z w.debug.programs) (sym w.holds.programs) w.means.programs);
    units = units ∙ ap length w.holds.units ∙ length-map w.r.links.units head_and_forest ∙ sym w.means.units.count;
  }

  pub means : Means file w.debug
  means = (w.r, w.read, w.means)
