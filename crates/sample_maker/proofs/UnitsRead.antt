-- The units of a generated file are read.
use Rattle.std.proofs.Common.{◌≡◌, ◌≤◌, ◌<◌, ◌+◌, ◌*◌, ◌^◌, ℕ, zero, suc, List, [], ◌∷◌, length, take, ◌∙◌, ap, refl, subst, arith}
use Rattle.std.specs.Prelude.{slice_index_or}
use Rattle.std.specs.List.{All, sum_by}
use Rattle.std.proofs.lemmas.List.{length-append}
use Rattle.std.proofs.lemmas.List.Sums.{sum_by-cons}
use Rattle.entry_read.specs.Heads.{Follow, IsHead}
use Rattle.value_links.specs.Reading.{UnitRead, unit_heads, unit_among, AreWithin, IsUnitRead, AreUnitsIn}
use Rattle.value_links.specs.Debug.{described}
use Rattle.sample_maker.specs.Drawn.{UnitDrawn}
use Rattle.sample_maker.specs.inside.Bytes.{program_bytes}
use Rattle.sample_maker.specs.inside.Images.{table_bytes}
use Rattle.sample_maker.specs.inside.Files.{type_place, unit_locations, unit_ranges, unit_bytes, info_bytes, lines_bytes, locations_bytes, ranges_bytes}
use Rattle.sample_maker.specs.inside.Small.{IsUnitSmall}
use Rattle.sample_maker.specs.inside.ReadUnits.{unit_read, units_read, drawn_at, unit_place, program_place, locations_place, ranges_place, part_numbered, unit_numbered}
use Rattle.sample_maker.proofs.Lengths.{join_length, program_length, unit_locations_length, unit_ranges_length}
use Rattle.sample_maker.proofs.PlacedBytes.{LiesAt, lies_whole, lies_first, lies_behind}
use Rattle.sample_maker.proofs.UnitsThere.{unit_size, unit_entries, unit_values, unit_head_there, unit_is_read, unit_says}

-- LENGTHS

locations_length : (units : List UnitDrawn) → All IsUnitSmall units → length (locations_bytes units) ≤ 800 * length units
locations_length [] small = omega arith
locations_length (unit ∷ units) small =
    omega (arith, length-append (unit_locations unit) (locations_bytes units), unit_locations_length unit (small 0 unit (omega arith)), locations_length units (λ k d lt. small (suc k) d (omega (arith, lt))))

-- What units add stands at places of 32 bits, where so many bytes of programs and of lists stand before.
pub record FitPlaces (u program l r : ℕ) (units : List UnitDrawn) : Type 0 where
  pub small : All IsUnitSmall units
  pub few : u + length units ≤ 4096
  pub programs : program + length (lines_bytes u units) < 256 ^ 4
  pub locations : 16 + (l + length (locations_bytes units)) < 256 ^ 4
  pub ranges : 16 + (r + length (ranges_bytes u units)) < 256 ^ 4

pub all_fit : (units : List UnitDrawn) → All IsUnitSmall units → length units ≤ 4096 → FitPlaces 0 0 0 0 units
all_fit units small few =
    let lines : length (lines_bytes 0 units) ≤ 3500 * length units = join_length program_bytes 3500 0 units (λ n k d lt. program_length n (slice_index_or units k d) (small k d lt)) in
    let ranges : length (ranges_bytes 0 units) ≤ 500 * length units = join_length unit_ranges 500 0 units (λ n k d lt. unit_ranges_length n (slice_index_or units k d) (small k d lt)) in
    record { small = small; few = omega (arith, few); programs = omega (arith, lines, few); locations = omega (arith, locations_length units small, few); ranges = omega (arith, ranges, few) }

fit_later : (u program l r : ℕ) (unit : UnitDrawn) (units : List UnitDrawn) → FitPlaces u program l r (unit ∷ units) → FitPlaces (suc u) (program + length (program_bytes u unit)) (l + length (unit_locations unit)) (r + length (unit_ranges u unit)) units
fit_later u program l r unit units fit = record {
  small = λ k d lt. fit.small (suc k) d (omega (arith, lt));
  few = omega (arith, fit.few);
  programs = omega (arith, fit.programs, length-append (program_bytes u unit) (lines_bytes (suc u) units));
  locations = omega (arith, fit.locations, length-append (unit_locations unit) (locations_bytes units));
  ranges = omega (arith, fit.ranges, length-append (unit_ranges u unit) (ranges_bytes (suc u) units));
}

-- A unit stands at a place, and its program and its lists do at places of 32 bits.
pub record IsUnitThere (section : List ℕ) (base u program l r : ℕ) (unit : UnitDrawn) : Type 0 where
  pub small : IsUnitSmall unit
  pub few : u < 4096
  pub programs : program < 256 ^ 4
  pub locations : 16 + (l + length (unit_locations unit)) < 256 ^ 4
  pub ranges : 16 + (r + length (unit_ranges u unit)) < 256 ^ 4
  pub there : LiesAt section base (unit_bytes u program l r unit)

first_there : (section : List ℕ) (base u program l r : ℕ) (unit : UnitDrawn) (units : List UnitDrawn) → FitPlaces u program l r (unit ∷ units) → LiesAt section base (info_bytes u program l r (unit ∷ units)) → IsUnitThere section base u program l r unit
first_there section base u program l r unit units fit there = record {
  small = fit.small 0 unit (omega arith);
  few = omega (arith, fit.few);
  programs = omega (arith, fit.programs);
  locations = omega (arith, fit.locations, length-append (unit_locations unit) (locations_bytes units));
  ranges = omega (arith, fit.ranges, length-append (unit_ranges u unit) (ranges_bytes (suc u) units));
  there = lies_first section base (unit_bytes u program l r unit) (info_bytes (suc u) (program + length (program_bytes u unit)) (l + length (unit_locations unit)) (r + length (unit_ranges u unit)) units) there;
}

later_there : (section : List ℕ) (base u program l r : ℕ) (unit : UnitDrawn) (units : List UnitDrawn) → LiesAt section base (info_bytes u program l r (unit ∷ units)) → LiesAt section (base + length (unit_bytes u program l r unit)) (info_bytes (suc u) (program + length (program_bytes u unit)) (l + length (unit_locations unit)) (r + length (unit_ranges u unit)) units)
later_there section base u program l r unit units there =
    lies_behind section base (unit_bytes u program l r unit) (info_bytes (suc u) (program + length (program_bytes u unit)) (l + length (unit_locations unit)) (r + length (unit_ranges u unit)) units) (length (unit_bytes u program l r unit)) refl there

head_is : (section : List ℕ) (base u program l r : ℕ) (unit : UnitDrawn) → IsUnitThere section base u program l r unit → IsHead section (unit_read section base u program l r unit).head
head_is section base u program l r unit t = unit_head_there section base u program l r unit t.small t.few t.programs t.locations t.ranges t.there

-- ALL UNITS

units_follow : (section : List ℕ) (base u program l r to : ℕ) (units : List UnitDrawn) → to ≡ base + length (info_bytes u program l r units) → FitPlaces u program l r units → LiesAt section base (info_bytes u program l r units) → Follow section (unit_heads (units_read section base u program l r units)) base to
units_follow section base u program l r to [] end fit there = omega (arith, end)
units_follow section base u program l r to (unit ∷ units) end fit there =
    let own : List ℕ = unit_bytes u program l r unit in
    let program2 : ℕ = program + length (program_bytes u unit) in
    let l2 : ℕ = l + length (unit_locations unit) in
    let r2 : ℕ = r + length (unit_ranges u unit) in
    let rest : List ℕ = info_bytes (suc u) program2 l2 r2 units in
    let behind : base + length own ≡ base + (type_place unit + 8) = ap (λ n. base + n) (unit_size u program l r unit) in
    let later : Follow section (unit_heads (units_read section (base + length own) (suc u) program2 l2 r2 units)) (base + length own) to =
    units_follow section (base + length own) (suc u) program2 l2 r2 to units (omega (arith, end, length-append own rest)) (fit_later u program l r unit units fit) (later_there section base u program l r unit units there) in
    (refl, head_is section base u program l r unit (first_there section base u program l r unit units fit there), subst (λ (z : ℕ). Follow section (unit_heads (units_read section (base + length own) (suc u) program2 l2 r2 units)) z to) behind later)

pub units_count : (section : List ℕ) (base u program l r : ℕ) (units : List UnitDrawn) → length (units_read section base u program l r units) ≡ length units
units_count section base u program l r [] = refl
units_count section base u program l r (unit ∷ units) = ap suc (units_count section (base + length (unit_bytes u program l r unit)) (suc u) (program + length (program_bytes u unit)) (l + length (unit_locations unit)) (r + length (unit_ranges u unit)) units)

units_each : (section : List ℕ) (base u program l r : ℕ) (units : List UnitDrawn) → FitPlaces u program l r units → LiesAt section base (info_bytes u program l r units) → (k : ℕ) (d : UnitRead) → k < length (units_read section base u program l r units) → IsUnitRead section table_bytes (slice_index_or (units_read section base u program l r units) k d)
units_each section base u program l r [] fit there k d lt = absurd (omega (arith, lt))
units_each section base u program l r (unit ∷ units) fit there zero d lt =
    let t : IsUnitThere section base u program l r unit = first_there section base u program l r unit units fit there in
    unit_is_read section base u program l r unit t.small t.few t.programs t.locations t.ranges t.there
units_each section base u program l r (unit ∷ units) fit there (suc k) d lt =
    units_each section (base + length (unit_bytes u program l r unit)) (suc u) (program + length (program_bytes u unit)) (l + length (unit_locations unit)) (r + length (unit_ranges u unit)) units (fit_later u program l r unit units fit) (later_there section base u program l r unit units there) k d (omega (arith, lt))

entries_within : (section : List ℕ) (base u program l r : ℕ) (units : List UnitDrawn) → All IsUnitSmall units → sum_by (λ (x : UnitRead). length x.forest.entries) (units_read section base u program l r units) ≤ 42 * length units
entries_within section base u program l r [] small = omega arith
entries_within section base u program l r (unit ∷ units) small =
    let rest : List UnitRead = units_read section (base + length (unit_bytes u program l r unit)) (suc u) (program + length (program_bytes u unit)) (l + length (unit_locations unit)) (r + length (unit_ranges u unit)) units in
    omega (arith, sum_by-cons (λ (x : UnitRead). length x.forest.entries) (unit_read section base u program l r unit) rest, unit_entries base u program l r unit (small 0 unit (omega arith)), entries_within section (base + length (unit_bytes u program l r unit)) (suc u) (program + length (program_bytes u unit)) (l + length (unit_locations unit)) (r + length (unit_ranges u unit)) units (λ k d lt. small (suc k) d (omega (arith, lt))))

values_within : (section : List ℕ) (base u program l r : ℕ) (units : List UnitDrawn) → All IsUnitSmall units → sum_by (λ (x : UnitRead). length x.forest.values) (units_read section base u program l r units) ≤ 210 * length units
values_within section base u program l r [] small = omega arith
values_within section base u program l r (unit ∷ units) small =
    let rest : List UnitRead = units_read section (base + length (unit_bytes u program l r unit)) (suc u) (program + length (program_bytes u unit)) (l + length (unit_locations unit)) (r + length (unit_ranges u unit)) units in
    omega (arith, sum_by-cons (λ (x : UnitRead). length x.forest.values) (unit_read section base u program l r unit) rest, unit_values base u program l r unit (small 0 unit (omega arith)), values_within section (base + length (unit_bytes u program l r unit)) (suc u) (program + length (program_bytes u unit)) (l + length (unit_locations unit)) (r + length (unit_ranges u unit)) units (λ k d lt. small (suc k) d (omega (arith, lt))))

-- THE UNIT WITH A NUMBER

-- the same where numbers and places are told otherwise
there_told : (section : List ℕ) (unit : UnitDrawn) (base base2 u u2 program program2 l l2 r r2 : ℕ) → base ≡ base2 → u ≡ u2 → program ≡ program2 → l ≡ l2 → r ≡ r2 → IsUnitThere section base u program l r unit → IsUnitThere section base2 u2 program2 l2 r2 unit
there_told section unit base base2 u u2 program program2 l l2 r r2 a b c d e t =
    subst (λ (z : ℕ). IsUnitThere section base2 u2 program2 l2 z unit) e (subst (λ (z : ℕ). IsUnitThere section base2 u2 program2 z r unit) d (subst (λ (z : ℕ). IsUnitThere section base2 u2 z l r unit) c (subst (λ (z : ℕ). IsUnitThere section base2 z program l r unit) b (subst (λ (z : ℕ). IsUnitThere section z u program l r unit) a t))))

read_told : (section : List ℕ) (unit : UnitDrawn) (base base2 u u2 program program2 l l2 r r2 : ℕ) → base ≡ base2 → u ≡ u2 → program ≡ program2 → l ≡ l2 → r ≡ r2 → unit_read section base u program l r unit ≡ unit_read section base2 u2 program2 l2 r2 unit
read_told section unit base base2 u u2 program program2 l l2 r r2 a b c d e =
    ap (λ z. unit_read section z u program l r unit) a ∙ ap (λ z. unit_read section base2 z program l r unit) b ∙ ap (λ z. unit_read section base2 u2 z l r unit) c ∙ ap (λ z. unit_read section base2 u2 program2 z r unit) d ∙ ap (λ z. unit_read section base2 u2 program2 l2 z unit) e

-- a unit among others that are read
record IsNumbered (section : List ℕ) (base u program l r : ℕ) (units : List UnitDrawn) (k base2 u2 program2 l2 r2 : ℕ) : Type 0 where
  is : unit_among (units_read section base u program l r units) k ≡ unit_read section base2 u2 program2 l2 r2 (drawn_at units k)
  there : IsUnitThere section base2 u2 program2 l2 r2 (drawn_at units k)

numbered : (section : List ℕ) (base u program l r : ℕ) (units : List UnitDrawn) (k base2 u2 program2 l2 r2 : ℕ) → base2 ≡ base + length (info_bytes u program l r (take k units)) → u2 ≡ u + k → program2 ≡ program + length (lines_bytes u (take k units)) → l2 ≡ l + length (locations_bytes (take k units)) → r2 ≡ r + length (ranges_bytes u (take k units)) → k < length units → FitPlaces u program l r units → LiesAt section base (info_bytes u program l r units) → IsNumbered section base u program l r units k base2 u2 program2 l2 r2
numbered section base u program l r [] k base2 u2 program2 l2 r2 a b c d e lt fit there = absurd (omega (arith, lt))
numbered section base u program l r (unit ∷ units) zero base2 u2 program2 l2 r2 a b c d e lt fit there =
    let a2 : base ≡ base2 = omega (arith, a) in
    let b2 : u ≡ u2 = omega (arith, b) in
    let c2 : program ≡ program2 = omega (arith, c) in
    let d2 : l ≡ l2 = omega (arith, d) in
    let e2 : r ≡ r2 = omega (arith, e) in
    record {
      is = read_told section unit base base2 u u2 program program2 l l2 r r2 a2 b2 c2 d2 e2;
      there = there_told section unit base base2 u u2 program program2 l l2 r r2 a2 b2 c2 d2 e2 (first_there section base u program l r unit units fit there);
    }
numbered section base u program l r (unit ∷ units) (suc k) base2 u2 program2 l2 r2 a b c d e lt fit there =
    let own : List ℕ = unit_bytes u program l r unit in
    let program3 : ℕ = program + length (program_bytes u unit) in
    let l3 : ℕ = l + length (unit_locations unit) in
    let r3 : ℕ = r + length (unit_ranges u unit) in
    let before : List UnitDrawn = take k units in
    let n : IsNumbered section (base + length own) (suc u) program3 l3 r3 units k base2 u2 program2 l2 r2 =
    numbered section (base + length own) (suc u) program3 l3 r3 units k base2 u2 program2 l2 r2 (omega (arith, a, length-append own (info_bytes (suc u) program3 l3 r3 before))) (omega (arith, b)) (omega (arith, c, length-append (program_bytes u unit) (lines_bytes (suc u) before))) (omega (arith, d, length-append (unit_locations unit) (locations_bytes before))) (omega (arith, e, length-append (unit_ranges u unit) (ranges_bytes (suc u) before))) (omega (arith, lt)) (fit_later u program l r unit units fit) (later_there section base u program l r unit units there) in
    record { is = n.is; there = n.there }

-- THE SECTION

module _ (units : List UnitDrawn) (small : All IsUnitSmall units) (few : length units ≤ 4096) where
  abbrev info : List ℕ
  info = info_bytes 0 0 0 0 units

  units_within : AreWithin (units_read info 0 0 0 0 0 units)
  units_within = record { entries = omega (arith, entries_within info 0 0 0 0 0 units small, few); values = omega (arith, values_within info 0 0 0 0 0 units small, few) }

  -- the units are all of it
  pub units_are_read : AreUnitsIn info table_bytes (units_read info 0 0 0 0 0 units)
  units_are_read =
      let fit : FitPlaces 0 0 0 0 units = all_fit units small few in
      record {
        tiled = units_follow info 0 0 0 0 0 (length info) units (omega arith) fit (lies_whole info);
        each = λ k d lt. units_each info 0 0 0 0 0 units fit (lies_whole info) k d lt;
        within = units_within;
      }

  unit_at_number : (k : ℕ) → k < length units → IsNumbered info 0 0 0 0 0 units k (unit_place units k) k (program_place units k) (locations_place units k) (ranges_place units k)
  unit_at_number k lt = numbered info 0 0 0 0 0 units k (unit_place units k) k (program_place units k) (locations_place units k) (ranges_place units k) (omega arith) (omega arith) (omega arith) (omega arith) (omega arith) lt (all_fit units small few) (lies_whole info)

  -- The unit with a number
  pub unit_is_numbered : (k : ℕ) → k < length units → unit_among (units_read info 0 0 0 0 0 units) k ≡ unit_numbered info units k
  unit_is_numbered k lt = (unit_at_number k lt).is

  -- stands at its place
  pub unit_numbered_there : (k : ℕ) → k < length units → IsUnitThere info (unit_place units k) k (program_place units k) (locations_place units k) (ranges_place units k) (drawn_at units k)
  unit_numbered_there k lt = (unit_at_number k lt).there

  -- and its entries say this
  pub unit_numbered_says : (k : ℕ) → k < length units → described (unit_numbered info units k) ≡ (part_numbered units k).says
  unit_numbered_says k lt =
      let t = unit_numbered_there k lt in
      unit_says info (unit_place units k) k (program_place units k) (locations_place units k) (ranges_place units k) (drawn_at units k) t.small t.few t.programs t.locations t.ranges t.there
