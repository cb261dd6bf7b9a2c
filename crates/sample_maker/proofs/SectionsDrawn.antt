-- Sections grow by a unit.
use Rattle.std.proofs.Common.{◌≡◌, ◌<◌, ◌+◌, ◌-◌, ℕ, suc, List, [], ◌∷◌, ◌++◌, length, ◌∙◌, sym, ap, refl, subst, arith}
use Rattle.std.proofs.lemmas.List.{append-nil}
use Rattle.sample_maker.specs.declared.units.Sections.{Sections}
use Rattle.sample_maker.specs.Draws.{all_drawn}
use Rattle.sample_maker.specs.Drawn.{UnitDrawn, unit_drawn, behind_unit}
use Rattle.sample_maker.specs.inside.Bytes.{program_bytes, set_bytes}
use Rattle.sample_maker.specs.inside.Files.{unit_bytes, unit_locations, unit_ranges, info_bytes, lines_bytes, ranges_bytes, locations_bytes, sets_bytes}
use Rattle.sample_maker.specs.inside.Sections.{AreSections, LackUnits}
use Rattle.sample_maker.proofs.Entering.{longer, put_before}

-- what a unit adds
pub record AddsUnit (u : ℕ) (unit : UnitDrawn) (old new : Sections) : Type 0 where
  pub info : new.info.items ≡ old.info.items ++ unit_bytes u (length old.lines.items) (length old.locations.items) (length old.ranges.items) unit
  pub lines : new.lines.items ≡ old.lines.items ++ program_bytes u unit
  pub locations : new.locations.items ≡ old.locations.items ++ unit_locations unit
  pub ranges : new.ranges.items ≡ old.ranges.items ++ unit_ranges u unit
  pub aranges : new.aranges.items ≡ old.aranges.items ++ set_bytes (length old.info.items)

pub lack_one_less : (all rest : List UnitDrawn) (u : ℕ) (unit : UnitDrawn) (old new : Sections) → LackUnits all (unit ∷ rest) u old → AddsUnit u unit old new → LackUnits all rest (u + 1) new
lack_one_less all rest u unit old new lack adds =
    let next : suc u ≡ u + 1 = omega arith in
    let program = longer old.lines.items new.lines.items (program_bytes u unit) adds.lines in
    let l = longer old.locations.items new.locations.items (unit_locations unit) adds.locations in
    let r = longer old.ranges.items new.ranges.items (unit_ranges u unit) adds.ranges in
    let place = longer old.info.items new.info.items (unit_bytes u (length old.lines.items) (length old.locations.items) (length old.ranges.items) unit) adds.info in
    record {
      info = rw (sym next, program, l, r) (put_before old.info.items new.info.items (info_bytes 0 0 0 0 all) (unit_bytes u (length old.lines.items) (length old.locations.items) (length old.ranges.items) unit) (info_bytes u (length old.lines.items) (length old.locations.items) (length old.ranges.items) (unit ∷ rest)) (info_bytes (suc u) (length old.lines.items + length (program_bytes u unit)) (length old.locations.items + length (unit_locations unit)) (length old.ranges.items + length (unit_ranges u unit)) rest) refl lack.info adds.info);
      lines = rw (sym next) (put_before old.lines.items new.lines.items (lines_bytes 0 all) (program_bytes u unit) (lines_bytes u (unit ∷ rest)) (lines_bytes (suc u) rest) refl lack.lines adds.lines);
      ranges = rw (sym next) (put_before old.ranges.items new.ranges.items (ranges_bytes 0 all) (unit_ranges u unit) (ranges_bytes u (unit ∷ rest)) (ranges_bytes (suc u) rest) refl lack.ranges adds.ranges);
      locations = put_before old.locations.items new.locations.items (locations_bytes all) (unit_locations unit) (locations_bytes (unit ∷ rest)) (locations_bytes rest) refl lack.locations adds.locations;
      aranges = rw (sym next, program, l, r, place) (put_before old.aranges.items new.aranges.items (sets_bytes 0 0 0 0 0 all) (set_bytes (length old.info.items)) (sets_bytes (length old.info.items) u (length old.lines.items) (length old.locations.items) (length old.ranges.items) (unit ∷ rest)) (sets_bytes (length old.info.items + length (unit_bytes u (length old.lines.items) (length old.locations.items) (length old.ranges.items) unit)) (suc u) (length old.lines.items + length (program_bytes u unit)) (length old.locations.items + length (unit_locations unit)) (length old.ranges.items + length (unit_ranges u unit)) rest) refl lack.aranges adds.aranges);
    }

-- nothing lacks behind the last unit
pub lack_none : (all : List UnitDrawn) (u : ℕ) (s : Sections) → LackUnits all [] u s → AreSections all s
lack_none all u s lack = record {
  info = sym (append-nil s.info.items) ∙ lack.info;
  lines = sym (append-nil s.lines.items) ∙ lack.lines;
  ranges = sym (append-nil s.ranges.items) ∙ lack.ranges;
  locations = sym (append-nil s.locations.items) ∙ lack.locations;
  aranges = sym (append-nil s.aranges.items) ∙ lack.aranges;
}

-- the units that are left are drawn from the state
abbrev pub left_of : ℕ → ℕ → List UnitDrawn
left_of count state = all_drawn unit_drawn behind_unit count state

pub lack_next : (all : List UnitDrawn) (units u state now : ℕ) (unit : UnitDrawn) (old new : Sections) → u < units → unit ≡ unit_drawn state → now ≡ behind_unit state → LackUnits all (left_of (units - u) state) u old → AddsUnit u unit old new → LackUnits all (left_of (units - (u + 1)) now) (u + 1) new
lack_next all units u state now unit old new more is_unit is_now lack adds =
    let left : units - u ≡ suc (units - (u + 1)) = omega arith in
    let all_left : left_of (units - u) state ≡ unit ∷ left_of (units - (u + 1)) now = ap (λ (n : ℕ). left_of n state) left ∙ rw (is_unit, is_now) refl in
    lack_one_less all (left_of (units - (u + 1)) now) u unit old new (subst (λ (z : List UnitDrawn). LackUnits all z u old) all_left lack) adds
