-- The file that is written of the sections of what is drawn is valid, and means what is drawn.
use Rattle.std.proofs.Common.{◌≡◌, ◌≤◌, ℕ, List, length, ◌∙◌, sym, ap, subst}
use Rattle.std.specs.List.{All}
use Rattle.dw_base.specs.declared.fault.Reach.TheVariants.{Narrow}
use Rattle.value_links.specs.Debug.{Means}
use Rattle.value_links.specs.Laws.{MeaningFilesAreValid}
use Rattle.value_links.specs.Faults.{IsValid}
use Rattle.sample_maker.specs.declared.units.Sections.{Sections}
use Rattle.sample_maker.specs.Drawn.{UnitDrawn, units_drawn}
use Rattle.sample_maker.specs.Generated.{Generated}
use Rattle.sample_maker.specs.inside.Files.{info_bytes, lines_bytes, ranges_bytes, locations_bytes}
use Rattle.sample_maker.specs.inside.Images.{image_bytes}
use Rattle.sample_maker.specs.inside.Sections.{AreSections}
use Rattle.sample_maker.specs.inside.Small.{IsUnitSmall}
use Rattle.sample_maker.specs.inside.ReadImage.{file_of}
use Rattle.sample_maker.specs.inside.ReadFile.{reading_of}
use Rattle.sample_maker.proofs.SmallDraws.{units_small, units_counted}
use Rattle.sample_maker.proofs.FileRead.{file_read}
use Rattle.sample_maker.proofs.FileMeans.{file_means}
use Rattle.sample_maker.proofs.FileValid.{file_valid}

image_is : (units : List UnitDrawn) (s : Sections) → AreSections units s → image_bytes s.info.items s.lines.items s.ranges.items s.locations.items s.aranges.items ≡ file_of units
image_is units s are =
    let info : List ℕ = info_bytes 0 0 0 0 units in
    let lines : List ℕ = lines_bytes 0 units in
    let ranges : List ℕ = ranges_bytes 0 units in
    let locations : List ℕ = locations_bytes units in
    ap (λ (z : List ℕ). image_bytes z s.lines.items s.ranges.items s.locations.items s.aranges.items) are.info
    ∙ ap (λ (z : List ℕ). image_bytes info z s.ranges.items s.locations.items s.aranges.items) are.lines
    ∙ ap (λ (z : List ℕ). image_bytes info lines z s.locations.items s.aranges.items) are.ranges
    ∙ ap (λ (z : List ℕ). image_bytes info lines ranges z s.aranges.items) are.locations
    ∙ ap (λ (z : List ℕ). image_bytes info lines ranges locations z) are.aranges

module _ (number count : ℕ) (few : count ≤ 4096) (s : Sections) (are : AreSections (units_drawn number count) s) (file : List ℕ) (is : file ≡ image_bytes s.info.items s.lines.items s.ranges.items s.locations.items s.aranges.items) where
  abbrev units : List UnitDrawn
  units = units_drawn number count

  small : All IsUnitSmall units
  small = units_small number count

  few_units : length units ≤ 4096
  few_units = subst (λ (n : ℕ). n ≤ 4096) (sym (units_counted number count)) few

  same : file_of units ≡ file
  same = sym (is ∙ image_is units s are)

  pub drawn_valid : MeaningFilesAreValid → IsValid file Narrow
  drawn_valid law = subst (λ (z : List ℕ). IsValid z Narrow) same (file_valid units small few_units law)

  pub drawn_means : Means file (Generated number count)
  drawn_means = subst (λ (z : List ℕ). Means z (Generated number count)) same (reading_of units, file_read units small few_units, file_means units small few_units)
