-- Where the tables of a written file stand: one behind the other, in the order of the old ones.
use Rattle.std.proofs.Common.{◌≡◌, ◌≤◌, ◌<◌, ◌+◌, ◌-◌, inl, inr, ◌∙◌, ℕ, zero, suc, List, [], ◌∷◌, ◌++◌, length, get_or, take, drop, ap, sym, subst, arith}
use Rattle.std.specs.Prelude.{slice_index}
use Rattle.std.proofs.lemmas.Bool.{cases_lt}
use Rattle.std.proofs.lemmas.List.{length-take-le, length-append, length-drop}
use Rattle.abbrev_tables.specs.Listings.{Listing, IsTableAt}
use Rattle.abbrev_tables.proofs.ListingOnce.{listing_once}
use Rattle.value_links.specs.declared.units.NamedTable.{NamedTable}
use Rattle.value_links.specs.Reading.{Linkable, unit_at}
use Rattle.value_links.specs.World.{AreTablesOf, named_by, table_at}
use Rattle.written_files.specs.Tidy.{TablesTile, IsTidyTable, AreTidyTables}
use Rattle.tidy_tables.specs.Untidy.{place_of}
use Rattle.tidy_tables.specs.inside.Renewed.{AreRenewed}

-- TILES

-- a table has a byte
table_filled : (section : List ℕ) (at : ℕ) (t : Listing) → IsTableAt section at t → at < t.end
table_filled section at t is =
    let byte : 0 < length is.end = is.ended.0.0.filled in
    let starts : at ≤ t.end = is.starts in
    let inside : t.end ≤ length section = is.inside in
    let left : length (drop at section) ≡ length section - at = length-drop at section in
    let size : length (take (t.end - at) (drop at section)) ≡ t.end - at = length-take-le (t.end - at) (drop at section) (omega arith) in
    let parts : length (take (t.end - at) (drop at section)) ≡ length (is.front ++ is.end) = ap length is.whole in
    let sum : length (is.front ++ is.end) ≡ length is.front + length is.end = length-append is.front is.end in
    omega arith

module _ (section : List ℕ) where
  -- tables stand from the place on where they begin
  tiles_from : (places : List ℕ) (at i : ℕ) → TablesTile section places at → i < length places → at ≤ get_or places i 0
  tiles_from [] at i tiled inside = absurd (omega arith)
  tiles_from (place ∷ places) at zero (here, (listing, stands, rest)) inside = omega arith
  tiles_from (place ∷ places) at (suc i) (here, (listing, stands, rest)) inside =
      let later : listing.end ≤ get_or places i 0 = tiles_from places listing.end i rest (omega arith) in
      let filled : at < listing.end = table_filled section at listing stands in
      omega arith

  -- each begins where all before it have ended
  tiles_rise : (places : List ℕ) (at i j : ℕ) (t : Listing) → TablesTile section places at → i < j → j < length places → IsTableAt section (get_or places i 0) t → t.end ≤ get_or places j 0
  tiles_rise [] at i j t tiled before inside stands = absurd (omega arith)
  tiles_rise (place ∷ places) at i zero t tiled before inside stands = absurd (omega arith)
  tiles_rise (place ∷ places) at zero (suc j) t (here, (listing, there, rest)) before inside stands =
      let same : listing.end ≡ t.end = ap (λ (z : Listing). z.end) (listing_once section at listing t there (subst (λ (z : ℕ). IsTableAt section z t) here stands)) in
      let later : listing.end ≤ get_or places j 0 = tiles_from places listing.end j rest (omega arith) in
      omega arith
  tiles_rise (place ∷ places) at (suc i) (suc j) t (here, (listing, there, rest)) before inside stands = tiles_rise places listing.end i j t rest (omega arith) (omega arith) stands

  -- each byte behind the beginning is one of a table
  tiles_cover : (places : List ℕ) (at p : ℕ) → TablesTile section places at → at ≤ p → p < length section → (i : ℕ) × (i < length places) × (get_or places i 0 ≤ p) × ((t : Listing) → IsTableAt section (get_or places i 0) t → p < t.end)
  tiles_cover [] at p tiled from inside = absurd (omega arith)
  tiles_cover (place ∷ places) at p (here, (listing, there, rest)) from inside = elim (cases_lt p listing.end) [
    | inl within ↦ (
      0,
      omega arith,
      omega arith,
      λ t stands.
          let same : listing.end ≡ t.end = ap (λ (z : Listing). z.end) (listing_once section at listing t there (subst (λ (z : ℕ). IsTableAt section z t) here stands)) in
          omega arith,
    )
    | inr behind ↦
        let (i, known, starts, ends) = tiles_cover places listing.end p rest behind inside in
        (suc i, omega arith, starts, ends)
  ]

-- THE TABLES OF UNITS

module _ (section : List ℕ) (r s : Linkable) (are : AreRenewed section r s) where
  tidy : AreTidyTables r s section
  tidy = are.tables

  named : AreTablesOf r.units tidy.tables tidy.table_of
  named = tidy.named

  -- the number of the table that a unit names
  abbrev number : ℕ → ℕ
  number u = slice_index tidy.table_of u

  pub old_known : (u : ℕ) → u < length s.units → u < length r.units
  old_known u inside = (let same = are.units in omega arith)

  number_known : (u : ℕ) → u < length s.units → number u < length tidy.tables
  number_known u inside = named.inside u (old_known u inside)

  old_place : (u : ℕ) → u < length s.units → (table_at tidy.tables (number u)).place ≡ place_of r u
  old_place u inside = ap (λ (t : NamedTable). t.place) (named.each u (old_known u inside))

  new_place : (u : ℕ) → u < length s.units → place_of s u ≡ slice_index tidy.places (number u)
  new_place u inside = tidy.names u (old_known u inside)

  -- the table of a unit is renewed
  pub tidy_table : (u : ℕ) → u < length s.units → IsTidyTable r s section (named_by (unit_at r u)) (place_of s u)
  tidy_table u inside =
      subst (λ (z : NamedTable). IsTidyTable r s section z (place_of s u)) (named.each u (old_known u inside))
      (subst (IsTidyTable r s section (table_at tidy.tables (number u))) (sym (new_place u inside)) (tidy.each (number u) (number_known u inside)))

  pub listing_is : (u : ℕ) (inside : u < length s.units) → (tidy_table u inside).listing ≡ (unit_at s u).table
  listing_is u inside = listing_once section (place_of s u) (tidy_table u inside).listing (unit_at s u).table (tidy_table u inside).stands (are.stands u inside)

  -- a table with a lower number ends before one with a higher
  number_rises : (u v : ℕ) → u < length s.units → v < length s.units → number u < number v → (unit_at s u).table.end ≤ place_of s v
  number_rises u v here there less =
      let inside : number v < length tidy.tables = number_known v there in
      let count : length tidy.places ≡ length tidy.tables = tidy.count in
      let stands : IsTableAt section (slice_index tidy.places (number u)) (unit_at s u).table =
      subst (λ (z : ℕ). IsTableAt section z (unit_at s u).table) (new_place u here) (are.stands u here) in
      let rises : (unit_at s u).table.end ≤ slice_index tidy.places (number v) =
      tiles_rise section tidy.places 0 (number u) (number v) (unit_at s u).table tidy.tiled less (omega arith) stands in
      let place : place_of s v ≡ slice_index tidy.places (number v) = new_place v there in
      omega arith

  -- so does its place
  number_before : (u v : ℕ) → u < length s.units → v < length s.units → number u < number v → place_of s u < place_of s v
  number_before u v here there less =
      let rises : (unit_at s u).table.end ≤ place_of s v = number_rises u v here there less in
      let filled : place_of s u < (unit_at s u).table.end = table_filled section (place_of s u) (unit_at s u).table (are.stands u here) in
      omega arith

  -- old places rise by numbers
  old_rises : (u v : ℕ) → u < length s.units → v < length s.units → number u < number v → place_of r u < place_of r v
  old_rises u v here there less =
      let rises : (table_at tidy.tables (number u)).place < (table_at tidy.tables (number v)).place = named.rising (number u) (number v) less (number_known v there) in
      let one : (table_at tidy.tables (number u)).place ≡ place_of r u = old_place u here in
      let other : (table_at tidy.tables (number v)).place ≡ place_of r v = old_place v there in
      omega arith

  module _ (u v : ℕ) (here : u < length s.units) (there : v < length s.units) where
    one_number : number u ≡ number v → (place_of r u ≡ place_of r v) × (place_of s u ≡ place_of s v)
    one_number same = (
      sym (old_place u here) ∙ ap (λ (z : ℕ). (table_at tidy.tables z).place) same ∙ old_place v there,
      new_place u here ∙ ap (λ (z : ℕ). slice_index tidy.places z) same ∙ sym (new_place v there),
    )

    one_old : place_of r u ≡ place_of r v → number u ≡ number v
    one_old same = elim (cases_lt (number u) (number v)) [
      | inl before ↦ (let rises = old_rises u v here there before in absurd (omega arith))
      | inr from ↦ elim (cases_lt (number v) (number u)) [
        | inl behind ↦ (let rises = old_rises v u there here behind in absurd (omega arith))
        | inr to ↦ omega arith
      ]
    ]

    one_new : place_of s u ≡ place_of s v → number u ≡ number v
    one_new same = elim (cases_lt (number u) (number v)) [
      | inl before ↦ (let rises = number_before u v here there before in absurd (omega arith))
      | inr from ↦ elim (cases_lt (number v) (number u)) [
        | inl behind ↦ (let rises = number_before v u there here behind in absurd (omega arith))
        | inr to ↦ omega arith
      ]
    ]

    -- units that name one old table name one written table
    pub same_written : place_of r u ≡ place_of r v → place_of s u ≡ place_of s v
    same_written same = (one_number (one_old same)).1

    -- and the other way round
    pub same_old : place_of s u ≡ place_of s v → place_of r u ≡ place_of r v
    same_old same = (one_number (one_new same)).0

    -- units that name one place name one table, in the old file
    pub old_table : place_of r u ≡ place_of r v → (unit_at r u).table ≡ (unit_at r v).table
    old_table same =
        let one : named_by (unit_at r u) ≡ named_by (unit_at r v) =
        sym (named.each u (old_known u here)) ∙ ap (table_at tidy.tables) (one_old same) ∙ named.each v (old_known v there) in
        ap (λ (t : NamedTable). t.table) one

    -- the written table of an earlier one stands earlier
    pub earlier_written : place_of r u < place_of r v → place_of s u < place_of s v
    earlier_written less = elim (cases_lt (number u) (number v)) [
      | inl before ↦ number_before u v here there before
      | inr from ↦ elim (cases_lt (number v) (number u)) [
        | inl behind ↦ (let rises = old_rises v u there here behind in absurd (omega arith))
        | inr to ↦ (let same = (one_number (omega arith)).0 in absurd (omega arith))
      ]
    ]

    -- one that stands behind another begins where that one has ended, or behind
    pub ends_before : place_of s u < place_of s v → (unit_at s u).table.end ≤ place_of s v
    ends_before less = elim (cases_lt (number u) (number v)) [
      | inl before ↦ number_rises u v here there before
      | inr from ↦ elim (cases_lt (number v) (number u)) [
        | inl behind ↦ (let rises = number_before v u there here behind in absurd (omega arith))
        | inr to ↦ (let same = (one_number (omega arith)).1 in absurd (omega arith))
      ]
    ]

    -- and in the written one
    pub same_table : place_of s u ≡ place_of s v → (unit_at s u).table ≡ (unit_at s v).table
    same_table same =
        listing_once section (place_of s u) (unit_at s u).table (unit_at s v).table (are.stands u here)
        (subst (λ (z : ℕ). IsTableAt section z (unit_at s v).table) (sym same) (are.stands v there))

  -- each byte of the section is one of the table of a unit
  pub covered : (p : ℕ) → p < length section → (u : ℕ) × (u < length s.units) × (place_of s u ≤ p) × (p < (unit_at s u).table.end)
  covered p inside =
      let (i, known, starts, ends) = tiles_cover section tidy.places 0 p tidy.tiled (omega arith) inside in
      let count : length tidy.places ≡ length tidy.tables = tidy.count in
      let (u, within, names) = named.named i (omega arith) in
      let here : u < length s.units = (let same = are.units in omega arith) in
      let place : place_of s u ≡ slice_index tidy.places i = new_place u here ∙ ap (λ (z : ℕ). slice_index tidy.places z) names in
      (u, here, omega arith, ends (unit_at s u).table (subst (λ (z : ℕ). IsTableAt section z (unit_at s u).table) place (are.stands u here)))
