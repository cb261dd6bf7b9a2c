-- Contributions that fill their section, by their numbers, and the places in them.
use Rattle.std.proofs.Common.{◌≡◌, ◌≤◌, ◌<◌, ◌+◌, ◌*◌, ◌^◌, inl, inr, ℕ, List, [], ◌∷◌, length, subst, arith}
use Rattle.std.specs.Prelude.{Some, None}
use Rattle.std.proofs.lemmas.Bool.{cases_lt}
use Rattle.std.proofs.lemmas.List.Elements.{All-get_or}
use Rattle.entry_read.proofs.Chained.{Chained, stand_apart, lies_once}
use Rattle.fixed_width.specs.InitialLengths.{unit_length}
use Rattle.list_model.specs.declared.contribution.Contribution.{Contribution}
use Rattle.list_model.specs.Contributions.{part_end, offset_place, IsContribution, ContributionsFollow, ContributionsTile, HoldsList}
use Rattle.list_model.proofs.Tiling.{part_inside, each_part}
use Rattle.value_links.specs.Reading.{ListSection, part_at}
use Rattle.value_links.specs.ListPlaces.{IsListPlace, IsOffsetsAt}
use Rattle.value_links.specs.inside.ListPlaces.{IsLastPart}

abbrev pub no_part : Contribution
no_part = record { at = 0; len = 0; slots = 0 }

abbrev pub start_of : Contribution → ℕ
start_of part = part.at

abbrev pub size_of : Contribution → ℕ
size_of part = part.len

pub parts_chained : (section : List ℕ) (parts : List Contribution) (a e : ℕ) → ContributionsFollow section parts a e → Chained start_of size_of parts a e
parts_chained section [] a e f = f
parts_chained section (p ∷ parts) a e (here, stands, rest) =
    let header : p.at + 12 ≤ p.at + p.len = (part_inside section p stands).0 in
    let some : 0 < p.len = omega arith in
    (here, some, parts_chained section parts (a + p.len) e (subst (λ (z : ℕ). ContributionsFollow section parts (z + p.len) e) here rest))

module _ (section : List ℕ) (parts : List Contribution) (tiled : ContributionsTile section parts) where
  abbrev all : ListSection
  all = record { section = section; parts = parts }

  pub part_stands : (p : ℕ) → p < length parts → IsContribution section (part_at all p)
  part_stands p inside = All-get_or (IsContribution section) parts p no_part inside (each_part section parts 0 (length section) tiled)

  -- each ends before a later one begins
  pub parts_apart : (i j : ℕ) → i < j → j < length parts → part_end (part_at all i) ≤ (part_at all j).at
  parts_apart i j less inside = stand_apart start_of size_of parts 0 (length section) i j no_part (parts_chained section parts 0 (length section) tiled) less inside

  pub parts_rise : (i j : ℕ) → i < j → j < length parts → (part_at all i).at < (part_at all j).at
  parts_rise i j less inside =
      let behind : (part_at all i).at + (part_at all i).len ≤ (part_at all j).at = parts_apart i j less inside in
      let header : (part_at all i).at + 12 ≤ (part_at all i).at + (part_at all i).len = (part_inside section (part_at all i) (part_stands i (omega arith))).0 in
      omega arith

  -- a slot lies in the section
  pub slot_inside : (p i : ℕ) → p < length parts → i < (part_at all p).slots → offset_place (part_at all p).at i + 4 ≤ length section
  slot_inside p i inside counted =
      let stands = part_stands p inside in
      let fits : (part_at all p).at + 12 + 4 * (part_at all p).slots ≤ (part_at all p).at + (part_at all p).len = stands.fits in
      let ends : (part_at all p).at + (part_at all p).len ≤ length section = (part_inside section (part_at all p) stands).1 in
      omega arith

  -- it has few of them
  pub slots_few : (p : ℕ) → p < length parts → (part_at all p).slots < 2 ^ 32
  slots_few p inside =
      let stands = part_stands p inside in
      let fits : (part_at all p).at + 12 + 4 * (part_at all p).slots ≤ (part_at all p).at + (part_at all p).len = stands.fits in
      let ends : (part_at all p).at + (part_at all p).len ≡ (part_at all p).at + 4 + unit_length section (part_at all p).at = stands.ends in
      let usual : unit_length section (part_at all p).at < 4294967280 = stands.whole.usual in
      omega arith

  -- the offsets at a place are those of one contribution
  pub offsets_once : (place p q : ℕ) → IsOffsetsAt all place p → IsOffsetsAt all place q → p ≡ q
  offsets_once place p q (p_in, p_at) (q_in, q_at) =
      let first : (part_at all p).at + 12 ≡ place = p_at in
      let second : (part_at all q).at + 12 ≡ place = q_at in
      elim (cases_lt p q) [
        | inl less ↦ let rise : (part_at all p).at < (part_at all q).at = parts_rise p q less q_in in absurd (omega arith)
        | inr rest ↦ elim (cases_lt q p) [
          | inl less ↦ let rise : (part_at all q).at < (part_at all p).at = parts_rise q p less p_in in absurd (omega arith)
          | inr more ↦ omega arith
        ]
      ]

  -- a list can begin at a place in no contribution but the last that begins there or before
  pub none_before : (place p : ℕ) → IsLastPart parts place None → ¬ IsListPlace all p place
  none_before place p none (inside, holds) =
      let past : place < (part_at all p).at = none p inside in
      let after : (part_at all p).at + 12 + 4 * (part_at all p).slots ≤ place = holds.after in
      omega arith

  pub none_in_last : (place last p : ℕ) → IsLastPart parts place (Some last) → (HoldsList (part_at all last) place → ⊥) → ¬ IsListPlace all p place
  none_in_last place last p (last_in, last_at, past) none (inside, holds) =
      let after : (part_at all p).at + 12 + 4 * (part_at all p).slots ≤ place = holds.after in
      let before : place < (part_at all p).at + (part_at all p).len = holds.before in
      elim (cases_lt p last) [
        | inl less ↦ let behind : (part_at all p).at + (part_at all p).len ≤ (part_at all last).at = parts_apart p last less last_in in omega arith
        | inr rest ↦ elim (cases_lt last p) [
          | inl less ↦ let later : place < (part_at all p).at = past p less inside in omega arith
          | inr more ↦ let same : p ≡ last = omega arith in none (subst (λ (z : ℕ). HoldsList (part_at all z) place) same holds)
        ]
      ]

  -- so a place lies in one contribution
  pub place_once : (place p q : ℕ) → IsListPlace all p place → IsListPlace all q place → p ≡ q
  place_once place p q (p_in, p_holds) (q_in, q_holds) =
      let p_from : (part_at all p).at + 12 + 4 * (part_at all p).slots ≤ place = p_holds.after in
      let q_from : (part_at all q).at + 12 + 4 * (part_at all q).slots ≤ place = q_holds.after in
      lies_once start_of size_of parts 0 (length section) p q place no_part (parts_chained section parts 0 (length section) tiled) p_in q_in (omega arith) p_holds.before (omega arith) q_holds.before
