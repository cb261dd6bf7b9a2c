-- The sets of address ranges are read, each of the unit that begins where it says.
use Rattle.std.proofs.Common.{◌≡◌, ◌≤◌, ◌<◌, ◌+◌, ◌*◌, ◌^◌, ℕ, suc, List, [], ◌∷◌, ◌++◌, length, drop, get_or, ◌∙◌, sym, ap, refl, subst, arith}
use Rattle.std.specs.List.{All}
use Rattle.std.proofs.lemmas.List.{length-drop, get_or-drop, drop-drop}
use Rattle.std.proofs.lemmas.List.Elements.{All-head, All-tail}
use Rattle.fixed_width.specs.InitialLengths.{unit_length, version, unit_end}
use Rattle.companions.specs.Aranges.{debug_info_offset, BeginsAt, IsSet, SetsFollow, SetsTile}
use Rattle.sample_maker.specs.Drawn.{UnitDrawn}
use Rattle.sample_maker.specs.inside.Bytes.{half, word, program_bytes, set_bytes, set_rest}
use Rattle.sample_maker.specs.inside.Files.{unit_bytes, unit_locations, unit_ranges, sets_bytes}
use Rattle.sample_maker.specs.inside.Small.{IsUnitSmall}
use Rattle.sample_maker.specs.inside.ReadImage.{unit_places, set_size, sets_read}
use Rattle.sample_maker.proofs.Lengths.{half_length, word_length}
use Rattle.sample_maker.proofs.Standing.{StandsAt, stands_whole, stands_first, stands_second, stands_inside, half_at, word_at}
use Rattle.sample_maker.proofs.UnitLengths.{unit_small, set_length, sets_length}

-- A SET

module _ (section : List ℕ) (at place : ℕ) (low : place < 2 ^ 32) (stands : StandsAt section at (set_bytes place)) where
  set_fields : StandsAt section at (word 28 ++ (half 2 ++ (word place ++ set_rest)))
  unfolding set_bytes
  set_fields = stands

  set_length_is : unit_length section at ≡ 28
  set_length_is = word_at section at 28 (omega arith) (stands_first section at (word 28) (half 2 ++ (word place ++ set_rest)) set_fields)

  behind_length : StandsAt section (at + 4) (half 2 ++ (word place ++ set_rest))
  behind_length = stands_second section at 4 (at + 4) (word 28) (half 2 ++ (word place ++ set_rest)) (word_length 28) refl set_fields

  set_version_is : version section at ≡ 2
  set_version_is = half_at section (at + 4) 2 (omega arith) (stands_first section (at + 4) (half 2) (word place ++ set_rest) behind_length)

  set_unit_is : debug_info_offset section at ≡ place
  set_unit_is =
      let behind : StandsAt section (at + 6) (word place ++ set_rest) = stands_second section (at + 4) 2 (at + 6) (half 2) (word place ++ set_rest) (half_length 2) (omega arith) behind_length in
      word_at section (at + 6) place low (stands_first section (at + 6) (word place) set_rest behind)

  set_end : unit_end section at ≡ at + set_size
  set_end = omega (arith, set_length_is)

  set_inside : at + set_size ≤ length section
  set_inside = omega (arith, stands_inside section at (set_bytes place) (omega (arith, set_length place)) stands, set_length place)

  set_read : (starts : List ℕ) (u : ℕ) → BeginsAt starts u place → IsSet section starts (record { at = at; unit = u })
  set_read starts u (inside, begins) = record {
    whole = record { usual = omega (arith, set_length_is); inside = omega (arith, set_end, set_inside) };
    fits = omega (arith, set_length_is);
    of_version = set_version_is;
    of_unit = (inside, begins ∙ sym set_unit_is);
  }

-- SETS

-- the first of the places that are left
begins : (starts rest : List ℕ) (u place : ℕ) → drop u starts ≡ place ∷ rest → BeginsAt starts u place
begins starts rest u place left =
    let many : length (drop u starts) ≡ suc (length rest) = ap (λ (z : List ℕ). length z) left in
    let number : u + 0 ≡ u = omega arith in
    let there : get_or (drop u starts) 0 0 ≡ place = ap (λ (z : List ℕ). get_or z 0 0) left in
    (omega (arith, many, length-drop u starts), ap (λ (n : ℕ). get_or starts n 0) (sym number) ∙ sym (get_or-drop u starts 0 0) ∙ there)

behind_first : (starts rest : List ℕ) (u place : ℕ) → drop u starts ≡ place ∷ rest → drop (suc u) starts ≡ rest
behind_first starts rest u place left =
    let number : suc u ≡ u + 1 = omega arith in
    ap (λ (n : ℕ). drop n starts) number ∙ sym (drop-drop 1 u starts) ∙ ap (λ (z : List ℕ). drop 1 z) left

sets_follow : (section starts : List ℕ) (at place u program l r : ℕ) (units : List UnitDrawn) → All IsUnitSmall units → place + 900 * length units < 2 ^ 32 → StandsAt section at (sets_bytes place u program l r units) → drop u starts ≡ unit_places place u program l r units → SetsFollow section starts (sets_read at u units) at (at + set_size * length units)
sets_follow section starts at place u program l r [] small low stands left = omega arith
sets_follow section starts at place u program l r (unit ∷ units) small low stands left =
    let size : ℕ = length (unit_bytes u program l r unit) in
    let place' : ℕ = place + size in
    let program' : ℕ = program + length (program_bytes u unit) in
    let l' : ℕ = l + length (unit_locations unit) in
    let r' : ℕ = r + length (unit_ranges u unit) in
    let rest = unit_places place' (suc u) program' l' r' units in
    let more = sets_bytes place' (suc u) program' l' r' units in
    let few : size ≤ 900 = unit_small u program l r unit (All-head IsUnitSmall unit units small) in
    let fits : place < 2 ^ 32 = omega (arith, low) in
    let here : StandsAt section at (set_bytes place) = stands_first section at (set_bytes place) more stands in
    let next : StandsAt section (at + set_size) more = stands_second section at set_size (at + set_size) (set_bytes place) more (set_length place) refl stands in
    let follow = sets_follow section starts (at + set_size) place' (suc u) program' l' r' units (All-tail IsUnitSmall unit units small) (omega (arith, low, few)) next (behind_first starts rest u place left) in
    let end : at + set_size + set_size * length units ≡ at + set_size * suc (length units) = omega arith in
    (refl, set_read section at place fits here starts u (begins starts rest u place left), subst (λ (n : ℕ). SetsFollow section starts (sets_read (at + set_size) (suc u) units) n (at + set_size * suc (length units))) (sym (set_end section at place fits here)) (subst (λ (n : ℕ). SetsFollow section starts (sets_read (at + set_size) (suc u) units) (at + set_size) n) end follow))

pub sets_tile : (units : List UnitDrawn) → All IsUnitSmall units → length units ≤ 4096 → SetsTile (sets_bytes 0 0 0 0 0 units) (unit_places 0 0 0 0 0 units) (sets_read 0 0 units)
sets_tile units small few =
    let all = sets_bytes 0 0 0 0 0 units in
    let starts = unit_places 0 0 0 0 0 units in
    let end : 0 + set_size * length units ≡ length all = omega (arith, sets_length 0 0 0 0 0 units) in
    subst (λ (n : ℕ). SetsFollow all starts (sets_read 0 0 units) 0 n) end (sets_follow all starts 0 0 0 0 0 0 units small (omega (arith, few)) (stands_whole all) refl)
