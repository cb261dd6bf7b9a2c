-- The bytes of tables that stand one behind the other.
use Rattle.std.proofs.Common.{◌≡◌, ◌≤◌, ◌<◌, ◌+◌, inl, inr, ◌∙◌, ℕ, List, [], length, get_or, sym, ap, subst, arith}
use Rattle.std.specs.Prelude.{max, slice_index}
use Rattle.std.proofs.lemmas.Bool.{cases_lt}
use Rattle.std.proofs.lemmas.List.{get_or_read}
use Rattle.std.proofs.lemmas.List.Elements.{All-get_or}
use Rattle.value_links.specs.declared.units.NamedTable.{NamedTable}
use Rattle.value_links.specs.Sections.{debug_info, debug_abbrev}
use Rattle.value_links.specs.Reading.{Reading, no_unit, unit_at, IsUnitRead}
use Rattle.value_links.specs.Whole.{IsReading}
use Rattle.value_links.specs.World.{World, Holds, AreTablesOf, table_at, named_by}
use Rattle.tidy_places.specs.Firsts.{IsLeastPlace}
use Rattle.tidy_tables.specs.Untidy.{IsLoose}
use Rattle.tidy_tables.specs.inside.Compared.{OfBoth}

-- The first so many tables have all bytes before an end, and none from it on.
pub record AreCovered (tables : List NamedTable) (count end : ℕ) : Type 0 where
  pub some : (q : ℕ) → q < end → (i : ℕ) × (i < count) × ((table_at tables i).place ≤ q) × (q < (table_at tables i).table.end)
  pub ends : (i : ℕ) → i < count → (table_at tables i).table.end ≤ end

pub none_covered : (tables : List NamedTable) → AreCovered tables 0 0
none_covered tables = record { some = λ q less. absurd (omega arith); ends = λ i less. absurd (omega arith) }

pub covered_more : (tables : List NamedTable) (count end next : ℕ) → AreCovered tables count end → (table_at tables count).place ≤ end → next ≡ max end ((table_at tables count).table.end) → AreCovered tables (count + 1) next
covered_more tables count end next is near later = record { some = some; ends = ends }
  where
    some : (q : ℕ) → q < next → (i : ℕ) × (i < count + 1) × ((table_at tables i).place ≤ q) × (q < (table_at tables i).table.end)
    some q less = elim (cases_lt q end) [
      | inl before ↦ let (i, inside, from, to) = is.some q before in (i, omega arith, from, to)
      | inr past ↦ (count, omega arith, omega arith, omega arith)
    ]

    ends : (i : ℕ) → i < count + 1 → (table_at tables i).table.end ≤ next
    ends i less = elim (cases_lt i count) [
      | inl before ↦ let known = is.ends i before in omega arith
      | inr past ↦ let here : i ≡ count = omega arith in subst (λ (z : ℕ). (table_at tables z).table.end ≤ next) (sym here) (omega arith)
    ]

module _ (b : World) (s : Reading) (read : IsReading b.image s) (holds : Holds b.image b s) where
  own : AreTablesOf s.links.units b.tables b.table_of
  own = holds.tables

  -- a unit's table, by its number
  of_unit : (u : ℕ) → u < length s.links.units → table_at b.tables (slice_index b.table_of u) ≡ named_by (unit_at s.links u)
  of_unit u inside = own.each u inside

  -- a byte that one of the tables has isn't loose
  not_loose : (i q : ℕ) → i < length b.tables → (table_at b.tables i).place ≤ q → q < (table_at b.tables i).table.end → IsLoose (debug_abbrev b.image) s.links q → ⊥
  not_loose i q inside from to loose =
      let (u, known, here) = own.named i inside in
      let same : table_at b.tables i ≡ named_by (unit_at s.links u) = ap (table_at b.tables) (sym here) ∙ of_unit u known in
      loose.1 u known (subst (λ (t : NamedTable). t.place ≤ q) same from) (subst (λ (t : NamedTable). q < t.table.end) same to)

  -- a table begins in the section
  begins : (i : ℕ) → i < length b.tables → (table_at b.tables i).place < length (debug_abbrev b.image)
  begins i inside =
      let (u, known, here) = own.named i inside in
      let same : table_at b.tables i ≡ named_by (unit_at s.links u) = ap (table_at b.tables) (sym here) ∙ of_unit u known in
      let unit : IsUnitRead (debug_info b.image) (debug_abbrev b.image) (unit_at s.links u) = All-get_or (IsUnitRead (debug_info b.image) (debug_abbrev b.image)) s.links.units u no_unit known read.links.units.each in
      subst (λ (t : NamedTable). t.place < length (debug_abbrev b.image)) (sym same) unit.named

  -- the end of tables that come before all others, where these begin behind it
  loose_at : (count end : ℕ) → AreCovered b.tables count end → count ≤ length b.tables → ((i : ℕ) → count ≤ i → i < length b.tables → end < (table_at b.tables i).place) → end < length (debug_abbrev b.image) → IsLeastPlace (IsLoose (debug_abbrev b.image) s.links) end
  loose_at count end is few later inside = ((inside, apart), least)
    where
      apart : (u : ℕ) → u < length s.links.units → (unit_at s.links u).head.table ≤ end → end < (unit_at s.links u).table.end → ⊥
      apart u known from to =
          let i : ℕ = slice_index b.table_of u in
          let there : i < length b.tables = own.inside u known in
          let same : table_at b.tables i ≡ named_by (unit_at s.links u) = of_unit u known in
          elim (cases_lt i count) [
            | inl before ↦ let known_end = subst (λ (t : NamedTable). t.table.end ≤ end) same (is.ends i before) in absurd (omega arith)
            | inr past ↦ let behind = subst (λ (t : NamedTable). end < t.place) same (later i past there) in absurd (omega arith)
          ]

      least : (q : ℕ) → q < end → IsLoose (debug_abbrev b.image) s.links q → ⊥
      least q less loose =
          let (i, below, from, to) = is.some q less in
          not_loose i q (omega arith) from to loose

module _ (a b : World) where
  -- the gap before a table
  pub loose_before : (count end : ℕ) → AreCovered b.tables count end → count < length b.tables → end < (table_at b.tables count).place → OfBoth a b (λ r s. IsLeastPlace (IsLoose (debug_abbrev b.image) s.links) end)
  loose_before count end is inside gap r s read holds again keeps =
      let first = begins b s again keeps count inside in
      loose_at b s again keeps count end is (omega arith) later (omega arith)
    where
      later : (i : ℕ) → count ≤ i → i < length b.tables → end < (table_at b.tables i).place
      later i from known = elim (cases_lt count i) [
        | inl behind ↦ let rises = keeps.tables.rising count i behind known in omega arith
        | inr here ↦ let same : i ≡ count = omega arith in subst (λ (z : ℕ). end < (table_at b.tables z).place) (sym same) gap
      ]

  -- the gap behind all tables
  pub loose_behind : (count end : ℕ) → AreCovered b.tables count end → count ≡ length b.tables → end < length (debug_abbrev b.image) → OfBoth a b (λ r s. IsLeastPlace (IsLoose (debug_abbrev b.image) s.links) end)
  loose_behind count end is all inside r s read holds again keeps =
      loose_at b s again keeps count end is (omega arith) (λ i from known. absurd (omega arith)) inside

  -- no gap
  pub none_loose : (count end : ℕ) → AreCovered b.tables count end → count ≡ length b.tables → length (debug_abbrev b.image) ≤ end → OfBoth a b (λ r s. (p : ℕ) → IsLoose (debug_abbrev b.image) s.links p → ⊥)
  none_loose count end is all past r s read holds again keeps p loose =
      let (i, below, from, to) = is.some p (let inside = loose.0 in omega arith) in
      not_loose b s again keeps i p (omega arith) from to loose

-- a table as it is looked up
pub table_read : (b : World) (tables : List NamedTable) (i : ℕ) (named : NamedTable) → tables ≡ b.tables → i < length tables → named ≡ get_or tables i named → named ≡ table_at b.tables i
table_read b tables i named same inside is = get_or_read tables i named inside is (record { place = 0; table = record { decls = []; specs = []; end = 0 } }) ∙ ap (λ (z : List NamedTable). table_at z i) same
