-- What is amiss with tables by their numbers is what is amiss with them by their places, as both files are read.
use Rattle.std.proofs.Common.{◌≡◌, ◌≤◌, ◌<◌, inl, inr, ℕ, List, length, map, sym, ap, ◌∙◌, subst, refl, arith}
use Rattle.std.specs.Prelude.{slice_index}
use Rattle.std.proofs.lemmas.Bool.{cases_lt}
use Rattle.leb_codec.specs.Numbering.{IsLeastNumbering}
use Rattle.abbrev_tables.specs.Listings.{Listing}
use Rattle.entry_read.specs.Units.{HeadAndForest, IsTable}
use Rattle.value_links.specs.declared.units.NamedTable.{NamedTable}
use Rattle.value_links.specs.Reading.{Reading, unit_at}
use Rattle.written_files.specs.Uses.{AreUses}
use Rattle.value_links.specs.World.{World, AreTablesOf, table_at, named_by, head_and_forest}
use Rattle.tidy_tables.specs.declared.uses.Uses.{Uses}
use Rattle.tidy_tables.specs.Untidy.{place_of, IsDueNamer, IsWrittenAt, AreUsesOf, IsTooEarly, IsInside, IsFurther, HasUnused, HasOthers, HasMoreBytes, IsMissing}
use Rattle.tidy_tables.specs.inside.Codes.{codes_in, AreTables, IsWasteful}
use Rattle.tidy_tables.specs.inside.Marked.{IsAmong}
use Rattle.tidy_tables.specs.inside.Namers.{AreWrittenAsOne}
use Rattle.tidy_tables.specs.inside.Outlines.{AreUsedIn, IsWrittenOtherwise}
use Rattle.tidy_tables.specs.inside.UseCounts.{counts_in, AreCounted}
use Rattle.tidy_tables.specs.inside.WrittenTables.{IsDueAmong, IsWrittenAs, AreWrittenAs, place_in, AreNumbersOf, IsBelowEarlier, IsInEarlier, NamesOther}
use Rattle.tidy_tables.proofs.CodeLaws.{unused_no_least}
use Rattle.tidy_tables.proofs.UseLaws.{uses_once}

-- ONE FILE

module _ (world : World) (r : Reading) (tables : AreTablesOf r.links.units world.tables world.table_of) where
  abbrev count : ℕ
  count = length r.links.units

  abbrev number : ℕ → ℕ
  number u = slice_index world.table_of u

  place_is : (u : ℕ) → u < count → place_of r.links u ≡ place_in world.tables (number u)
  place_is u inside = sym (ap (λ (t : NamedTable). t.place) (tables.each u inside))

  table_is : (u : ℕ) → u < count → (table_at world.tables (number u)).table ≡ (unit_at r.links u).table
  table_is u inside = ap (λ (t : NamedTable). t.table) (tables.each u inside)

  -- lower places are those of lower numbers
  lower : (i j : ℕ) → i < length world.tables → j < length world.tables → place_in world.tables i < place_in world.tables j → i < j
  lower i j here there less = elim (cases_lt i j) [
    | inl before ↦ before
    | inr behind ↦ elim (cases_lt j i) [
      | inl after ↦ (let rising : place_in world.tables j < place_in world.tables i = tables.rising j i after here in absurd (omega arith))
      | inr not_after ↦
          let same : i ≡ j = omega arith in
          let places : place_in world.tables i ≡ place_in world.tables j = ap (place_in world.tables) same in
          absurd (omega arith)
    ]
  ]

  one_place : (i j : ℕ) → i < length world.tables → j < length world.tables → place_in world.tables i ≡ place_in world.tables j → i ≡ j
  one_place i j here there same = elim (cases_lt i j) [
    | inl before ↦ (let rising : place_in world.tables i < place_in world.tables j = tables.rising i j before there in absurd (omega arith))
    | inr behind ↦ elim (cases_lt j i) [
      | inl after ↦ (let rising : place_in world.tables j < place_in world.tables i = tables.rising j i after here in absurd (omega arith))
      | inr not_after ↦ omega arith
    ]
  ]

  known : (u : ℕ) → u < length world.table_of → u < count
  known u inside = (let size : length world.table_of ≡ count = tables.count in omega arith)

  -- numbers follow places, and places numbers
  low_number : (i j : ℕ) → i < length world.tables → place_in world.tables i ≤ place_in world.tables j → i ≤ j
  low_number i j here low = elim (cases_lt j i) [
    | inl less ↦ (let rising : place_in world.tables j < place_in world.tables i = tables.rising j i less here in absurd (omega arith))
    | inr behind ↦ omega arith
  ]

  low_place : (i j : ℕ) → j < length world.tables → i ≤ j → place_in world.tables i ≤ place_in world.tables j
  low_place i j there low = elim (cases_lt i j) [
    | inl less ↦ (let rising : place_in world.tables i < place_in world.tables j = tables.rising i j less there in omega arith)
    | inr behind ↦ (let same : i ≡ j = omega arith in let places : place_in world.tables i ≡ place_in world.tables j = ap (place_in world.tables) same in omega arith)
  ]

  -- the uses of the table with a number are those of the table that a unit with this number names
  module _ (units : world.units ≡ map head_and_forest r.links.units) (all : List Uses) (counted : AreCounted world.units world.tables all) where
    used_of : (u : ℕ) → u < count → AreUsesOf r.links u (counts_in all (number u))
    used_of u inside =
        subst (λ (z : NamedTable). AreUses (map head_and_forest r.links.units) z (counts_in all (number u))) (tables.each u inside)
        (subst (λ (z : List HeadAndForest). AreUses z (table_at world.tables (number u)) (counts_in all (number u))) units (counted.each (number u) (tables.inside u inside)))

    uses_are : (u : ℕ) (uses : List ℕ) → u < count → AreUsesOf r.links u uses → uses ≡ counts_in all (number u)
    uses_are u uses inside used = uses_once (map head_and_forest r.links.units) (named_by (unit_at r.links u)) uses (counts_in all (number u)) used (used_of u inside)

-- BOTH FILES

module _ (a b : World) (r s : Reading) (old : AreTablesOf r.links.units a.tables a.table_of) (new : AreTablesOf s.links.units b.tables b.table_of) (same_count : length b.table_of ≡ length a.table_of) (written : List ℕ) (are : AreWrittenAs a.table_of b.table_of (length a.tables) written) where
  old_count : length a.table_of ≡ length r.links.units
  old_count = old.count

  new_count : length b.table_of ≡ length s.links.units
  new_count = new.count

  again : (u : ℕ) → u < length r.links.units → u < length s.links.units
  again u inside = (let one = old_count in let two = new_count in let three = same_count in omega arith)

  back : (u : ℕ) → u < length s.links.units → u < length r.links.units
  back u inside = (let one = old_count in let two = new_count in let three = same_count in omega arith)

  -- a unit is due by the places of tables where it is by their numbers
  due_of_place : (place u : ℕ) → IsDueNamer r.links s.links place u → IsDueAmong a.table_of b.table_of (length a.table_of) (slice_index a.table_of u) u
  due_of_place place u (inside, names, least) = record {
    known = (let size = old_count in omega arith);
    names = refl;
    least = λ other below same.
        let known_other : other < length r.links.units = known a r old other below in
        let low : place_of s.links u ≤ place_of s.links other = least other known_other (place_is a r old other known_other ∙ ap (place_in a.tables) same ∙ sym (place_is a r old u inside) ∙ names) in
        let one : place_of s.links u ≡ place_in b.tables (slice_index b.table_of u) = place_is b s new u (again u inside) in
        let two : place_of s.links other ≡ place_in b.tables (slice_index b.table_of other) = place_is b s new other (again other known_other) in
        low_number b s new (slice_index b.table_of u) (slice_index b.table_of other) (new.inside u (again u inside)) (omega arith);
  }

  due_of_number : (i u : ℕ) → i < length a.tables → IsDueAmong a.table_of b.table_of (length a.table_of) i u → IsDueNamer r.links s.links (place_in a.tables i) u
  due_of_number i u inside is =
      let within : u < length r.links.units = known a r old u is.known in (
        within,
        place_is a r old u within ∙ ap (place_in a.tables) is.names,
        λ other below same.
            let number : slice_index a.table_of other ≡ i = one_place a r old (slice_index a.table_of other) i (old.inside other below) inside (sym (place_is a r old other below) ∙ same) in
            let low : slice_index b.table_of u ≤ slice_index b.table_of other = is.least other (let size = old_count in omega arith) number in
            let one : place_of s.links u ≡ place_in b.tables (slice_index b.table_of u) = place_is b s new u (again u within) in
            let two : place_of s.links other ≡ place_in b.tables (slice_index b.table_of other) = place_is b s new other (again other below) in
            let places = low_place b s new (slice_index b.table_of u) (slice_index b.table_of other) (new.inside other (again other below)) low in
            omega arith,
      )

  -- the unit that is due names the written table
  written_by : (i u : ℕ) → i < length a.tables → IsDueAmong a.table_of b.table_of (length a.table_of) i u → slice_index written i ≡ slice_index b.table_of u
  written_by i u inside due =
      let is : IsWrittenAs a.table_of b.table_of (length a.table_of) i (slice_index written i) = are.each i inside in
      let one : slice_index b.table_of is.u ≤ slice_index b.table_of u = is.namer.least u due.known due.names in
      let two : slice_index b.table_of u ≤ slice_index b.table_of is.u = due.least is.u is.namer.known is.namer.names in
      let here : slice_index written i ≡ slice_index b.table_of is.u = is.is in
      omega arith

  pub written_known : AreNumbersOf b.tables written
  written_known i inside =
      let size : length written ≡ length a.tables = are.size in
      let is : IsWrittenAs a.table_of b.table_of (length a.table_of) i (slice_index written i) = are.each i (omega arith) in
      let within : is.u < length s.links.units = again is.u (known a r old is.u is.namer.known) in
      subst (λ (z : ℕ). z < length b.tables) (sym is.is) (new.inside is.u within)

  -- the place at which the table with a number is written
  at_place : (i : ℕ) → i < length a.tables → IsWrittenAt r.links s.links (place_in a.tables i) (place_in b.tables (slice_index written i))
  at_place i inside =
      let is : IsWrittenAs a.table_of b.table_of (length a.table_of) i (slice_index written i) = are.each i inside in
      let within : is.u < length s.links.units = again is.u (known a r old is.u is.namer.known) in
      (is.u, due_of_number i is.u inside is.namer, place_is b s new is.u within ∙ ap (place_in b.tables) (sym is.is))

  at_number : (place other : ℕ) → IsWrittenAt r.links s.links place other → (i : ℕ) × (i < length a.tables) × (place ≡ place_in a.tables i) × (other ≡ place_in b.tables (slice_index written i))
  at_number place other (u, namer, is) =
      let inside : u < length r.links.units = namer.0 in
      let i : ℕ = slice_index a.table_of u in
      let within : i < length a.tables = old.inside u inside in
      let first = due_of_place place u namer in
      (i, within, sym namer.1 ∙ place_is a r old u inside, sym is ∙ place_is b s new u (again u inside) ∙ ap (place_in b.tables) (sym (written_by i u within first)))

  -- TOO EARLY

  abbrev Early : ℕ → Type 0
  Early q = IsAmong (IsBelowEarlier written) (λ k. place_in b.tables (slice_index written k)) (length written) q

  pub early_to : (q : ℕ) → Early q → IsTooEarly r.links s.links q
  early_to q (k, below, (e, before, less), is) =
      let size : length written ≡ length a.tables = are.size in
      let later : k < length a.tables = omega arith in
      let earlier : e < length a.tables = omega arith in (
        place_in a.tables k,
        place_in a.tables e,
        place_in b.tables (slice_index written e),
        subst (IsWrittenAt r.links s.links (place_in a.tables k)) (sym is) (at_place k later),
        at_place e earlier,
        old.rising e k before later,
        subst (λ (z : ℕ). z < place_in b.tables (slice_index written e)) (sym is) (new.rising (slice_index written k) (slice_index written e) less (written_known e (omega arith))),
      )

  pub early_from : (q : ℕ) → IsTooEarly r.links s.links q → Early q
  early_from q (place, before, other, here, there, order, less) =
      let size : length written ≡ length a.tables = are.size in
      let k = at_number place q here in
      let e = at_number before other there in
      let order' : place_in a.tables e.0 < place_in a.tables k.0 = omega (arith, k.2, e.2) in
      let less' : place_in b.tables (slice_index written k.0) < place_in b.tables (slice_index written e.0) = omega (arith, k.3, e.3) in
      let k_known : k.0 < length a.tables = k.1 in
      let e_known : e.0 < length a.tables = e.1 in
      (k.0, omega arith, (e.0, lower a r old e.0 k.0 e_known k_known order', lower b s new (slice_index written k.0) (slice_index written e.0) (written_known k.0 (omega arith)) (written_known e.0 (omega arith)) less'), k.3)

  -- INSIDE ANOTHER

  abbrev Inside : ℕ → Type 0
  Inside q = IsAmong (IsInEarlier b.tables) (place_in b.tables) (length b.tables) q

  pub inside_to : (q : ℕ) → Inside q → IsInside s.links q
  inside_to q (k, below, (e, before, less), is) =
      let (u, u_known, u_names) = new.named e (omega arith) in
      let (v, v_known, v_names) = new.named k below in
      let u_place : place_of s.links u ≡ place_in b.tables e = place_is b s new u u_known ∙ ap (place_in b.tables) u_names in
      let v_place : place_of s.links v ≡ q = place_is b s new v v_known ∙ ap (place_in b.tables) v_names ∙ sym is in
      let rising : place_in b.tables e < place_in b.tables k = new.rising e k before below in
      let end : (table_at b.tables e).table.end ≡ (unit_at s.links u).table.end = ap (λ (z : ℕ). (table_at b.tables z).table.end) (sym u_names) ∙ ap (λ (t : Listing). t.end) (table_is b s new u u_known) in
      (u, v, u_known, v_known, v_place, omega arith, omega arith)

  pub inside_from : (q : ℕ) → IsInside s.links q → Inside q
  inside_from q (u, v, u_known, v_known, v_place, behind, before) =
      let e : ℕ = slice_index b.table_of u in
      let k : ℕ = slice_index b.table_of v in
      let e_place : place_of s.links u ≡ place_in b.tables e = place_is b s new u u_known in
      let k_place : place_of s.links v ≡ place_in b.tables k = place_is b s new v v_known in
      let end : (table_at b.tables e).table.end ≡ (unit_at s.links u).table.end = ap (λ (t : Listing). t.end) (table_is b s new u u_known) in
      (k, new.inside v v_known, (e, lower b s new e k (new.inside u u_known) (new.inside v v_known) (omega arith), omega arith), sym v_place ∙ k_place)

  -- FURTHER

  abbrev Further : ℕ → Type 0
  Further q = IsAmong (NamesOther written a.table_of b.table_of) (λ u. place_in b.tables (slice_index b.table_of u)) (length b.table_of) q

  pub further_to : (q : ℕ) → Further q → IsFurther r.links s.links q
  further_to q (u, below, other, is) =
      let within : u < length s.links.units = known b s new u below in
      let inside : u < length r.links.units = back u within in
      let size : length written ≡ length a.tables = are.size in
      let i : ℕ = slice_index a.table_of u in
      let i_known : i < length a.tables = old.inside u inside in
      let here : IsWrittenAt r.links s.links (place_of r.links u) (place_in b.tables (slice_index written i)) = subst (λ (z : ℕ). IsWrittenAt r.links s.links z (place_in b.tables (slice_index written i))) (sym (place_is a r old u inside)) (at_place i i_known) in
      (u, place_in b.tables (slice_index written i), within, place_is b s new u within ∙ sym is, here, λ same. other (one_place b s new (slice_index written i) (slice_index b.table_of u) (written_known i (omega arith)) (new.inside u within) (same ∙ is)))

  pub further_from : (q : ℕ) → IsFurther r.links s.links q → Further q
  further_from q (u, place, within, names, here, other) =
      let inside : u < length r.links.units = back u within in
      let size : length b.table_of ≡ length s.links.units = new_count in
      let k = at_number (place_of r.links u) place here in
      let i : ℕ = slice_index a.table_of u in
      let same : k.0 ≡ i = one_place a r old k.0 i k.1 (old.inside u inside) (sym k.2 ∙ place_is a r old u inside) in
      let spot : place_of s.links u ≡ place_in b.tables (slice_index b.table_of u) = place_is b s new u within in
      (u, omega arith, (λ as_written. other (k.3 ∙ ap (λ (z : ℕ). place_in b.tables (slice_index written z)) same ∙ ap (place_in b.tables) as_written ∙ sym spot ∙ names)), sym names ∙ spot)

  -- A MISSING TABLE

  pub missing_to : AreWrittenAsOne written → IsMissing r.links s.links
  missing_to (i, j, less, below, same) =
      let size : length written ≡ length a.tables = are.size in
      let i_known : i < length a.tables = omega arith in
      let j_known : j < length a.tables = omega arith in
      let rising : place_in a.tables i < place_in a.tables j = old.rising i j less j_known in (
        place_in a.tables i,
        place_in a.tables j,
        place_in b.tables (slice_index written i),
        λ places. absurd (omega arith),
        at_place i i_known,
        subst (IsWrittenAt r.links s.links (place_in a.tables j)) (ap (place_in b.tables) (sym same)) (at_place j j_known),
      )

  pub missing_from : IsMissing r.links s.links → AreWrittenAsOne written
  missing_from (one, other, place, apart, here, there) =
      let size : length written ≡ length a.tables = are.size in
      let i = at_number one place here in
      let j = at_number other place there in
      let i_known : i.0 < length a.tables = i.1 in
      let j_known : j.0 < length a.tables = j.1 in
      let as_one : slice_index written i.0 ≡ slice_index written j.0 = one_place b s new (slice_index written i.0) (slice_index written j.0) (written_known i.0 (omega arith)) (written_known j.0 (omega arith)) (sym i.3 ∙ j.3) in
      elim (cases_lt i.0 j.0) [
        | inl less ↦ (i.0, j.0, less, omega arith, as_one)
        | inr behind ↦ elim (cases_lt j.0 i.0) [
          | inl more ↦ (j.0, i.0, more, omega arith, sym as_one)
          | inr not_more ↦ (let same : i.0 ≡ j.0 = omega arith in absurd (apart (i.2 ∙ ap (place_in a.tables) same ∙ sym j.2)))
        ]
      ]

  -- OTHER DECLARATIONS

  module _ (units : a.units ≡ map head_and_forest r.links.units) (all : List Uses) (counted : AreCounted a.units a.tables all) where
    abbrev Other : ℕ → Type 0
    Other q = IsAmong (IsWrittenOtherwise a.tables all written b.tables) (λ k. place_in b.tables (slice_index written k)) (length written) q

    pub other_to : (q : ℕ) → Other q → HasOthers r.links s.links q
    other_to q (k, below, other, is) =
        let size : length written ≡ length a.tables = are.size in
        let inside : k < length a.tables = omega arith in
        let as_written : IsWrittenAs a.table_of b.table_of (length a.table_of) k (slice_index written k) = are.each k inside in
        let u : ℕ = as_written.u in
        let within : u < length r.links.units = known a r old u as_written.namer.known in
        let names : slice_index a.table_of u ≡ k = as_written.namer.names in
        let namer : IsDueNamer r.links s.links (place_in a.tables k) u = due_of_number k u inside as_written.namer in
        let one : (unit_at r.links u).table ≡ (table_at a.tables k).table = sym (table_is a r old u within) ∙ ap (λ (z : ℕ). (table_at a.tables z).table) names in
        let two : (unit_at s.links u).table ≡ (table_at b.tables (slice_index written k)).table = sym (table_is b s new u (again u within)) ∙ ap (λ (z : ℕ). (table_at b.tables z).table) (sym as_written.is) in
        record {
          u = u;
          namer = subst (λ (z : ℕ). IsDueNamer r.links s.links z u) (sym namer.1) namer;
          place = place_is b s new u (again u within) ∙ ap (place_in b.tables) (sym as_written.is) ∙ sym is;
          uses = counts_in all k;
          used = subst (λ (z : ℕ). AreUsesOf r.links u (counts_in all z)) names (used_of a r old units all counted u within);
          others = λ permuted. other (subst (λ (t : Listing). AreUsedIn t (counts_in all k) (table_at b.tables (slice_index written k)).table) one (subst (λ (t : Listing). AreUsedIn (unit_at r.links u).table (counts_in all k) t) two permuted));
        }

    pub other_from : (q : ℕ) → HasOthers r.links s.links q → Other q
    other_from q has =
        let u : ℕ = has.u in
        let within : u < length r.links.units = has.namer.0 in
        let k : ℕ = slice_index a.table_of u in
        let inside : k < length a.tables = old.inside u within in
        let size : length written ≡ length a.tables = are.size in
        let as_written : slice_index written k ≡ slice_index b.table_of u = written_by k u inside (due_of_place (place_of r.links u) u has.namer) in
        let one : (table_at a.tables k).table ≡ (unit_at r.links u).table = table_is a r old u within in
        let two : (table_at b.tables (slice_index written k)).table ≡ (unit_at s.links u).table = ap (λ (z : ℕ). (table_at b.tables z).table) as_written ∙ table_is b s new u (again u within) in
        let uses : has.uses ≡ counts_in all k = uses_are a r old units all counted u has.uses within has.used in (
          k,
          omega arith,
          λ same. has.others (subst (λ (z : List ℕ). AreUsedIn (unit_at r.links u).table z (unit_at s.links u).table) (sym uses) (subst (λ (t : Listing). AreUsedIn t (counts_in all k) (unit_at s.links u).table) one (subst (λ (t : Listing). AreUsedIn (table_at a.tables k).table (counts_in all k) t) two same))),
          sym has.place ∙ place_is b s new u (again u within) ∙ ap (place_in b.tables) (sym as_written),
        )

-- MORE BYTES

module _ (b : World) (s : Reading) (new : AreTablesOf s.links.units b.tables b.table_of) (units : b.units ≡ map head_and_forest s.links.units) (all : List Uses) (counted : AreCounted b.units b.tables all) where
  abbrev Wasteful : ℕ → Type 0
  Wasteful q = IsAmong (IsWasteful b.tables all) (place_in b.tables) (length b.tables) q

  pub wasteful_to : (q : ℕ) → Wasteful q → HasMoreBytes s.links q
  wasteful_to q (k, inside, more, is) =
      let (u, within, names) = new.named k inside in
      let table : (unit_at s.links u).table ≡ (table_at b.tables k).table = sym (table_is b s new u within) ∙ ap (λ (z : ℕ). (table_at b.tables z).table) names in
      record {
        u = u;
        known = within;
        place = place_is b s new u within ∙ ap (place_in b.tables) names ∙ sym is;
        uses = counts_in all k;
        used = subst (λ (z : ℕ). AreUsesOf s.links u (counts_in all z)) names (used_of b s new units all counted u within);
        more = λ least. more (subst (λ (t : Listing). IsLeastNumbering (counts_in all k) (codes_in t)) table least);
      }

  -- the table with a number, where its codes aren't those of the fewest bytes for its uses
  wasteful_at : (u q : ℕ) (uses : List ℕ) → u < length s.links.units → place_of s.links u ≡ q → AreUsesOf s.links u uses → (IsLeastNumbering uses (codes_in (unit_at s.links u).table) → ⊥) → Wasteful q
  wasteful_at u q uses within names used more =
      let k : ℕ = slice_index b.table_of u in
      let same : uses ≡ counts_in all k = uses_are b s new units all counted u uses within used in
      let table : (table_at b.tables k).table ≡ (unit_at s.links u).table = table_is b s new u within in (
        k,
        new.inside u within,
        λ least. more (subst (λ (z : List ℕ). IsLeastNumbering z (codes_in (unit_at s.links u).table)) (sym same) (subst (λ (t : Listing). IsLeastNumbering (counts_in all k) (codes_in t)) table least)),
        sym names ∙ place_is b s new u within,
      )

  pub wasteful_from : (q : ℕ) → HasMoreBytes s.links q → Wasteful q
  wasteful_from q has = wasteful_at has.u q has.uses has.known has.place has.used has.more

  pub wasteful_unused : AreTables b.tables → (q : ℕ) → HasUnused s.links q → Wasteful q
  wasteful_unused stand q (u, uses, i, within, names, used, inside, none) =
      let k : ℕ = slice_index b.table_of u in
      let table : (table_at b.tables k).table ≡ (unit_at s.links u).table = table_is b s new u within in
      let known_there = subst (λ (t : Listing). IsTable t) table (stand k (new.inside u within)) in
      wasteful_at u q uses within names used (unused_no_least (unit_at s.links u).table known_there uses used.count (i, inside, none))
