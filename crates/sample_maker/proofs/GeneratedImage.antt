-- The file of small units, as an image: both passes find it in order, its debug sections are those of the units, and its sets of address
-- ranges are of the units by where these begin.
use Rattle.std.proofs.Common.{◌≡◌, ◌≤◌, ◌+◌, ◌^◌, ℕ, suc, List, [], ◌∷◌, length, map, sym, ap, refl, subst, arith}
use Rattle.std.specs.List.{All}
use Rattle.dw_base.specs.declared.fault.Reach.TheVariants.{Narrow}
use Rattle.elf_sections.specs.Faults.{IsRead}
use Rattle.list_model.specs.declared.entry.ListKind.{ListKind}
use Rattle.list_model.specs.declared.entry.ListKind.TheVariants.{Ranges, Locations}
use Rattle.companions.specs.Aranges.{SetsTile}
use Rattle.value_links.specs.Debug.{SetMeaning, set_meaning}
use Rattle.value_links.specs.Sections.{debug_info, debug_abbrev, debug_line, debug_lists, debug_aranges, debug_addr}
use Rattle.sample_maker.specs.Numbered.{map_from}
use Rattle.sample_maker.specs.Drawn.{UnitDrawn}
use Rattle.sample_maker.specs.Generated.{set_meaning as set_drawn}
use Rattle.sample_maker.specs.inside.Files.{info_bytes, lines_bytes, ranges_bytes, locations_bytes, sets_bytes}
use Rattle.sample_maker.specs.inside.Images.{table_bytes, rows_for, sizes_of}
use Rattle.sample_maker.specs.inside.Small.{IsUnitSmall}
use Rattle.sample_maker.specs.inside.ReadImage.{file_of, lists_part, unit_places, set_size, sets_read}
use Rattle.sample_maker.proofs.ImageParts.{gap_small, file_length}
use Rattle.sample_maker.proofs.ImageRead.{image_read, info_is, abbrev_is, line_is, rnglists_is, loclists_is, aranges_is, addr_is}
use Rattle.sample_maker.proofs.UnitLengths.{sections_small}
use Rattle.sample_maker.proofs.SetsRead.{sets_tile}

-- the sets mean what is drawn
pub sets_mean : (at u : ℕ) (units : List UnitDrawn) → map set_meaning (sets_read at u units) ≡ map_from set_drawn u units
sets_mean at u [] = refl
sets_mean at u (unit ∷ units) = ap (λ (z : List SetMeaning). record { unit = u } ∷ z) (sets_mean (at + set_size) (suc u) units)

module _ (units : List UnitDrawn) (small : All IsUnitSmall units) (few : length units ≤ 4096) where
  abbrev info : List ℕ
  info = info_bytes 0 0 0 0 units

  abbrev lines : List ℕ
  lines = lines_bytes 0 units

  abbrev ranges : List ℕ
  ranges = ranges_bytes 0 units

  abbrev locations : List ℕ
  locations = locations_bytes units

  abbrev sets : List ℕ
  sets = sets_bytes 0 0 0 0 0 units

  total : sizes_of (rows_for info lines ranges locations sets) ≤ 2 ^ 27
  total = sections_small units small few

  pub in_order : IsRead (file_of units) Narrow
  in_order = image_read info lines ranges locations sets (file_of units) refl total

  pub file_short : length (file_of units) ≤ 2 ^ 28
  file_short = omega (arith, file_length info lines ranges locations sets (file_of units) refl total, gap_small info lines ranges locations sets, total)

  pub info_there : debug_info (file_of units) ≡ info_bytes 0 0 0 0 units
  info_there = info_is info lines ranges locations sets (file_of units) refl total

  pub abbrev_there : debug_abbrev (file_of units) ≡ table_bytes
  abbrev_there = abbrev_is info lines ranges locations sets (file_of units) refl total

  pub line_there : debug_line (file_of units) ≡ lines_bytes 0 units
  line_there = line_is info lines ranges locations sets (file_of units) refl total

  pub lists_there : (kind : ListKind) → debug_lists (file_of units) kind ≡ lists_part units kind
  lists_there Ranges = rnglists_is info lines ranges locations sets (file_of units) refl total
  lists_there Locations = loclists_is info lines ranges locations sets (file_of units) refl total

  pub addr_there : debug_addr (file_of units) ≡ []
  addr_there = addr_is info lines ranges locations sets (file_of units) refl total

  pub aranges_there : debug_aranges (file_of units) ≡ sets_bytes 0 0 0 0 0 units
  aranges_there = aranges_is info lines ranges locations sets (file_of units) refl total

  -- as `IsReading` asks, where the units begin at these places
  pub sets_there : SetsTile (debug_aranges (file_of units)) (unit_places 0 0 0 0 0 units) (sets_read 0 0 units)
  sets_there = subst (λ (z : List ℕ). SetsTile z (unit_places 0 0 0 0 0 units) (sets_read 0 0 units)) (sym aranges_there) (sets_tile units small few)
