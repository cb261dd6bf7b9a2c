-- In a tidy file the abbreviation tables tile .debug_abbrev in the order of the old ones.
use Rattle.std.proofs.Common.{◌≡◌, ◌≤◌, ◌<◌, ◌+◌, ◌∙◌, ◌⊎◌, inl, inr, ℕ, zero, suc, List, [], ◌∷◌, length, map, sym, ap, subst, refl, arith}
use Rattle.std.specs.Prelude.{slice_index}
use Rattle.std.proofs.lemmas.Bool.{cases_eq, cases_lt, cases_order}
use Rattle.std.proofs.lemmas.List.{get_or-map, length-map}
use Rattle.dw_base.specs.declared.classes.Classes.{Classes}
use Rattle.abbrev_tables.specs.Listings.{Listing, IsTableAt}
use Rattle.abbrev_tables.proofs.ListingOnce.{listing_once}
use Rattle.value_links.specs.declared.units.NamedTable.{NamedTable}
use Rattle.value_links.specs.Sections.{offset_named, debug_info, debug_abbrev, abbrev_name}
use Rattle.value_links.specs.Reading.{Reading, unit_at}
use Rattle.value_links.specs.Same.{Same}
use Rattle.value_links.specs.Whole.{IsReading}
use Rattle.value_links.specs.World.{AreTablesOf, table_at, named_by}
use Rattle.value_links.proofs.HeldUnits.{unit_is}
use Rattle.written_files.specs.Tidy.{TablesTile}
use Rattle.written_files.proofs.Counterparts.{correspond}
use Rattle.tidy_tables.specs.Untidy.{place_of, IsDueNamer, IsWrittenAt, IsUntidyTable, IsLoose, IsMissing}
use Rattle.tidy_files.specs.Tidy.{IsTidy}
use Rattle.tidy_files.specs.Tidy.Row.{ATable, ALooseByte, AMissingTable}
use Rattle.tidy_files.specs.Whole.{HasTiledTables}
use Rattle.tidy_files.proofs.Searches.{some_below, least_below, AreChosen, all_chosen}

-- TABLES OF UNITS THAT TILE A SECTION

-- units by the numbers of which their tables stand one behind the other, from a place up to the section's end
module _ (size count : ℕ) (start end : ℕ → ℕ) where
  abbrev pub AreChained : List ℕ → ℕ → Type 0
  AreChained [] at = at ≡ size
  AreChained (u ∷ us) at = (u < count) × (start u ≡ at) × (at < end u) × AreChained us (end u)

  -- they stand there or behind
  chained_from : (us : List ℕ) (at i : ℕ) → AreChained us at → i < length us → at ≤ start (slice_index us i)
  chained_from [] at i chained inside = absurd (omega (arith, inside))
  chained_from (u ∷ us) at zero (known, here, some, rest) inside = omega (arith, here)
  chained_from (u ∷ us) at (suc i) (known, here, some, rest) inside =
      let more : end u ≤ start (slice_index us i) = chained_from us (end u) i rest (omega (arith, inside)) in
      omega (arith, more, some)

  -- and rise
  pub chained_rise : (us : List ℕ) (at i j : ℕ) → AreChained us at → i < j → j < length us → start (slice_index us i) < start (slice_index us j)
  chained_rise [] at i j chained less inside = absurd (omega (arith, inside))
  chained_rise (u ∷ us) at i zero chained less inside = absurd (omega (arith, less))
  chained_rise (u ∷ us) at zero (suc j) (known, here, some, rest) less inside =
      let more : end u ≤ start (slice_index us j) = chained_from us (end u) j rest (omega (arith, inside)) in
      omega (arith, more, some, here)
  chained_rise (u ∷ us) at (suc i) (suc j) (known, here, some, rest) less inside = chained_rise us (end u) i j rest (omega (arith, less)) (omega (arith, inside))

  pub chained_known : (us : List ℕ) (at i : ℕ) → AreChained us at → i < length us → slice_index us i < count
  chained_known [] at i chained inside = absurd (omega (arith, inside))
  chained_known (u ∷ us) at zero (known, here, some, rest) inside = known
  chained_known (u ∷ us) at (suc i) (known, here, some, rest) inside = chained_known us (end u) i rest (omega (arith, inside))

  -- where no table begins inside another, and each place of the section is in a table
  module _ (apart : (u v : ℕ) → u < count → v < count → start u < start v → start v < end u → ⊥) (short : (u : ℕ) → u < count → start u < size) where
    -- each table stands where one of them does
    pub chained_all : (us : List ℕ) (at v : ℕ) → AreChained us at → v < count → at ≤ start v →
        (i : ℕ) × (i < length us) × (start (slice_index us i) ≡ start v)
    chained_all [] at v over known behind = absurd (let inner : start v < size = short v known in omega (arith, over, behind, inner))
    chained_all (u ∷ us) at v (u_known, here, some, rest) known behind = elim (cases_lt at (start v)) [
      | inr there ↦ (0, omega arith, omega (arith, here, there, behind))
      | inl later ↦ elim (cases_lt (start v) (end u)) [
        | inl within ↦ absurd (apart u v u_known known (omega (arith, here, later)) within)
        | inr past ↦ (let (i, inside, same) = chained_all us (end u) v rest known past in (suc i, omega (arith, inside), same))
      ]
    ]

    module _ (one : (u v : ℕ) → u < count → v < count → start u ≡ start v → end u ≡ end v) (ends : (u : ℕ) → u < count → end u ≤ size)
        (covered : (p : ℕ) → p < size → (u : ℕ) × (u < count) × (start u ≤ p) × (p < end u)) where
      -- no table goes over a place
      abbrev IsStart : ℕ → Type 0
      IsStart at = (u : ℕ) → u < count → start u < at → end u ≤ at

      pub chained_up : (fuel at : ℕ) → size ≤ at + fuel → at ≤ size → IsStart at → (us : List ℕ) × AreChained us at
      chained_up zero at enough within clear = ([], omega (arith, enough, within))
      chained_up (suc fuel) at enough within clear = elim (cases_lt at size) [
        | inr over ↦ ([], omega (arith, over, within))
        | inl more ↦
            let (u, known, from, to) = covered at more in
            let here : start u ≡ at = elim (cases_lt (start u) at) [
              | inl before ↦ absurd (let past : end u ≤ at = clear u known before in omega (arith, past, to))
              | inr there ↦ omega (arith, there, from)
            ] in
            let next : IsStart (end u) = λ v v_known before. elim (cases_order (start v) (start u)) [
              | inl e ↦ (let same : end v ≡ end u = one v u v_known known e in omega (arith, same))
              | inr (inl less) ↦ (let past : end v ≤ at = clear v v_known (omega (arith, less, here)) in omega (arith, past, to))
              | inr (inr behind) ↦ absurd (apart u v known v_known behind before)
            ] in
            let rest = chained_up fuel (end u) (omega (arith, enough, to)) (ends u known) next in
            (u ∷ rest.0, (known, here, to, rest.1))
      ]

-- THE TABLES OF A TIDY FILE

module _ (file written : List ℕ) (r s : Reading) (read : IsReading file r) (again : IsReading written s) (same : Same file written)
    (classes : Classes) (tidy : IsTidy classes file written) where
  abbrev section : List ℕ
  section = debug_abbrev written

  abbrev count : ℕ
  count = length r.links.units

  abbrev old : ℕ → ℕ
  old u = place_of r.links u

  abbrev new : ℕ → ℕ
  new u = place_of s.links u

  abbrev ends_at : ℕ → ℕ
  ends_at u = (unit_at s.links u).table.end

  units_same : length s.links.units ≡ count
  units_same = (correspond file written r s read again same).units

  known_new : (u : ℕ) → u < count → u < length s.links.units
  known_new u inside = subst (λ (n : ℕ). u < n) (sym units_same) inside

  -- NO ROW HOLDS

  no_table : (q : ℕ) → IsUntidyTable r.links s.links q → ⊥
  no_table q holds = tidy ATable (offset_named written abbrev_name + q) (record { r = r; s = s; read = read; again = again; inner = q; holds = holds; place = refl })

  not_loose : (p : ℕ) → IsLoose section s.links p → ⊥
  not_loose p holds = tidy ALooseByte (offset_named written abbrev_name + p) (record { r = r; s = s; read = read; again = again; inner = p; holds = holds; place = refl })

  not_missing : IsMissing r.links s.links → ⊥
  not_missing holds = tidy AMissingTable (offset_named written abbrev_name + length section) (record { r = r; s = s; read = read; again = again; inner = length section; holds = (holds, refl); place = refl })

  -- WHAT STANDS

  there : (u : ℕ) → u < count → (new u < length section) × IsTableAt section (new u) (unit_at s.links u).table
  there u inside = let is = unit_is (debug_info written) section s.links.units again.links.units u (known_new u inside) in (is.named, is.table)

  one_end : (u v : ℕ) → u < count → v < count → new u ≡ new v → ends_at u ≡ ends_at v
  one_end u v inside known e =
      ap (λ (t : Listing). t.end) (listing_once section (new v) (unit_at s.links u).table (unit_at s.links v).table (subst (λ (z : ℕ). IsTableAt section z (unit_at s.links u).table) e (there u inside).1) (there v known).1)

  apart : (u v : ℕ) → u < count → v < count → new u < new v → new v < ends_at u → ⊥
  apart u v inside known less within = no_table (new v) (inr (inl (u, v, known_new u inside, known_new v known, refl, less, within)))

  covered : (p : ℕ) → p < length section → (u : ℕ) × (u < count) × (new u ≤ p) × (p < ends_at u)
  covered p inside = elim (some_below (λ (u : ℕ). (new u ≤ p) × (p < ends_at u)) told count) [
    | inl (u, known, has) ↦ (u, known, has.0, has.1)
    | inr none ↦ absurd (not_loose p (inside, λ u known from to. none u (subst (λ (n : ℕ). u < n) units_same known) (from, to)))
  ]
    where
      told : (u : ℕ) → ((new u ≤ p) × (p < ends_at u)) ⊎ ((new u ≤ p) × (p < ends_at u) → ⊥)
      told u = elim (cases_lt p (new u)) [
        | inl before ↦ inr (λ (from, to). omega (arith, before, from))
        | inr from ↦ elim (cases_lt p (ends_at u)) [ inl to ↦ inl (from, to) | inr past ↦ inr (λ (also, to). omega (arith, past, to)) ]
      ]

  -- OLD TABLES AND WRITTEN ONES

  -- a unit that names an old table names the one that is due
  due : (u : ℕ) → u < count → (d : ℕ) × IsDueNamer r.links s.links (old u) d × (new d ≡ new u)
  due u inside = elim (least_below old new (old u) count) [
    | inr none ↦ absurd (none u inside refl)
    | inl (d, known, is, least) ↦ (
      d,
      (known, is, least),
      elim (cases_eq (new d) (new u)) [
        | inl e ↦ e
        | inr other ↦ absurd (no_table (new u) (inr (inr (inl (u, new d, known_new u inside, refl, (d, (known, is, least), refl), other)))))
      ],
    )
  ]

  one_new : (u v : ℕ) → u < count → v < count → old u ≡ old v → new u ≡ new v
  one_new u v inside known e =
      let (d, (d_known, d_is, d_least), d_same) = due u inside in
      let (f, (f_known, f_is, f_least), f_same) = due v known in
      let low : new d ≤ new f = d_least f f_known (f_is ∙ sym e) in
      let high : new f ≤ new d = f_least d d_known (d_is ∙ e) in
      omega (arith, low, high, d_same, f_same)

  written_at : (u : ℕ) → u < count → IsWrittenAt r.links s.links (old u) (new u)
  written_at u inside = (u, (inside, refl, λ other known e. (let s : new u ≡ new other = one_new u other inside known (sym e) in omega (arith, s))), refl)

  one_old : (u v : ℕ) → u < count → v < count → new u ≡ new v → old u ≡ old v
  one_old u v inside known e = elim (cases_eq (old u) (old v)) [
    | inl is ↦ is
    | inr other ↦ absurd (not_missing (old u, old v, new u, other, written_at u inside, subst (IsWrittenAt r.links s.links (old v)) (sym e) (written_at v known)))
  ]

  -- and in the order of the old ones
  in_order : (u v : ℕ) → u < count → v < count → new u < new v → old u < old v
  in_order u v inside known less = elim (cases_order (old u) (old v)) [
    | inl e ↦ absurd (let s : new u ≡ new v = one_new u v inside known e in omega (arith, s, less))
    | inr (inl before) ↦ before
    | inr (inr behind) ↦ absurd (no_table (new u) (inl (old u, old v, new v, written_at u inside, written_at v known, behind, less)))
  ]

  named_same : (u v : ℕ) → u < count → v < count → old u ≡ old v → named_by (unit_at r.links u) ≡ named_by (unit_at r.links v)
  named_same u v inside known e =
      let first = unit_is (debug_info file) (debug_abbrev file) r.links.units read.links.units u inside in
      let second = unit_is (debug_info file) (debug_abbrev file) r.links.units read.links.units v known in
      let table : (unit_at r.links u).table ≡ (unit_at r.links v).table =
      listing_once (debug_abbrev file) (old v) (unit_at r.links u).table (unit_at r.links v).table (subst (λ (z : ℕ). IsTableAt (debug_abbrev file) z (unit_at r.links u).table) e first.table) second.table in
      ap (λ (z : ℕ). record { place = z; table = (unit_at r.links u).table }) e ∙ ap (λ (z : Listing). record { place = old v; table = z }) table

  -- ALL OF THEM

  short : (u : ℕ) → u < count → new u < length section
  short u inside = (there u inside).0

  chain : (us : List ℕ) × AreChained (length section) count new ends_at us 0
  chain =
      chained_up (length section) count new ends_at apart short one_end (λ u inside. (there u inside).1.inside) covered (length section) 0 (omega arith) (omega arith) (λ u inside before. absurd (omega (arith, before)))

  abbrev units : List ℕ
  units = chain.0

  abbrev name_of : ℕ → NamedTable
  name_of u = named_by (unit_at r.links u)

  unit_known : (i : ℕ) → i < length units → slice_index units i < count
  unit_known i inside = chained_known (length section) count new ends_at units 0 i chain.1 inside

  unit_rises : (i j : ℕ) → i < j → j < length units → new (slice_index units i) < new (slice_index units j)
  unit_rises i j less inside = chained_rise (length section) count new ends_at units 0 i j chain.1 less inside

  -- the tile in which the table of a unit stands
  abbrev IsTile : ℕ → ℕ → Type 0
  IsTile u i = (i < length units) × (new (slice_index units i) ≡ new u)

  tiles : AreChosen IsTile count
  tiles = all_chosen IsTile count (λ u inside. let (i, i_in, here) = chained_all (length section) count new ends_at apart short units 0 u chain.1 inside (omega arith) in (i, (i_in, here)))

  tile_once : (i j : ℕ) → i < length units → j < length units → new (slice_index units i) ≡ new (slice_index units j) → i ≡ j
  tile_once i j inside known e = elim (cases_order i j) [
    | inl is ↦ is
    | inr (inl less) ↦ absurd (let rise : new (slice_index units i) < new (slice_index units j) = unit_rises i j less known in omega (arith, rise, e))
    | inr (inr more) ↦ absurd (let rise : new (slice_index units j) < new (slice_index units i) = unit_rises j i more inside in omega (arith, rise, e))
  ]

  tiled : (us : List ℕ) (at : ℕ) → AreChained (length section) count new ends_at us at → TablesTile section (map new us) at
  tiled [] at over = over
  tiled (u ∷ us) at (known, here, some, rest) =
      (here, ((unit_at s.links u).table, subst (λ (z : ℕ). IsTableAt section z (unit_at s.links u).table) here (there u known).1, tiled us (ends_at u) rest))

  abbrev tables : List NamedTable
  tables = map name_of units

  size : length tables ≡ length units
  size = length-map units name_of

  table_is : (i : ℕ) → i < length units → table_at tables i ≡ name_of (slice_index units i)
  table_is i inside = get_or-map name_of units i 0 (record { place = 0; table = record { decls = []; specs = []; end = 0 } }) inside

  rising : (i j : ℕ) → i < j → j < length tables → (table_at tables i).place < (table_at tables j).place
  rising i j less inside =
      let j_in : j < length units = subst (λ (n : ℕ). j < n) size inside in
      let i_in : i < length units = omega (arith, less, j_in) in
      let first : (table_at tables i).place ≡ old (slice_index units i) = ap (λ (t : NamedTable). t.place) (table_is i i_in) in
      let second : (table_at tables j).place ≡ old (slice_index units j) = ap (λ (t : NamedTable). t.place) (table_is j j_in) in
      let order : old (slice_index units i) < old (slice_index units j) =
      in_order (slice_index units i) (slice_index units j) (unit_known i i_in) (unit_known j j_in) (unit_rises i j less j_in) in
      omega (arith, first, second, order)

  named : AreTablesOf r.links.units tables tiles.chosen
  named = record {
    count = tiles.count;
    inside = λ u inside. subst (λ (n : ℕ). slice_index tiles.chosen u < n) (sym size) (tiles.each u inside).0;
    each = λ u inside.
        (let (i_in, here) = tiles.each u inside in
        let first : ℕ = slice_index units (slice_index tiles.chosen u) in
        let known : first < count = unit_known (slice_index tiles.chosen u) i_in in
        table_is (slice_index tiles.chosen u) i_in ∙ named_same first u known inside (one_old first u known inside here));
    rising = rising;
    named = λ i inside.
        (let i_in : i < length units = subst (λ (n : ℕ). i < n) size inside in
        let known : slice_index units i < count = unit_known i i_in in
        let (t_in, here) = tiles.each (slice_index units i) known in
        (slice_index units i, known, tile_once (slice_index tiles.chosen (slice_index units i)) i t_in i_in here));
  }

  -- Where no table is untidy, no byte loose and none missing, tables tile the section in the order of the old ones.
  pub tiled_tables : HasTiledTables r.links s.links section
  tiled_tables = record {
    tables = tables;
    table_of = tiles.chosen;
    named = named;
    places = map new units;
    count = length-map units new ∙ sym size;
    tiled = tiled units 0 chain.1;
    names = λ u inside.
        (let (i_in, here) = tiles.each u inside in
        sym here ∙ sym (get_or-map new units (slice_index tiles.chosen u) 0 0 i_in));
  }
