-- Tables, declarations and entries of a file that is written anew are as a writer makes them: each row is refuted.
use Rattle.std.proofs.Common.{◌≡◌, ◌≢◌, ◌≤◌, ◌<◌, ◌+◌, ◌⊎◌, ◌↔◌, inl, inr, ◌∙◌, ℕ, List, length, map, sym, subst, arith}
use Rattle.dw_base.specs.declared.classes.Classes.{Classes}
use Rattle.form_codec.specs.Columns.{IsLeastForm}
use Rattle.abbrev_tables.specs.Listings.{Listing, spec_at}
use Rattle.entry_arena.specs.Trees.{declared_at}
use Rattle.entry_read.specs.Units.{declarations_of}
use Rattle.entry_read.proofs.Declarations.{count_same}
use Rattle.value_links.specs.Reading.{Linkable, Reading, unit_at, declarations}
use Rattle.value_links.specs.Sections.{debug_abbrev}
use Rattle.value_links.specs.World.{head_and_forest}
use Rattle.written_files.specs.Uses.{column_meanings}
use Rattle.written_files.specs.inside.Counterparts.{AreAnew}
use Rattle.written_files.specs.inside.Laws.{AreLaws}
use Rattle.tidy_tables.specs.Laws.{WrittenTablesAreTidy}
use Rattle.tidy_tables.specs.Rows.{Row, OfTable, OfLooseByte, OfMissingTable, OfDeclaration, OfEntry, HoldsAt}
use Rattle.tidy_tables.specs.Untidy.{place_of, number_of, IsTooEarly, IsInside, IsFurther, HasUnused, HasOthers, HasMoreBytes, IsUntidyTable, IsLoose, IsMissing, IsFallen, HasLongColumn, IsUntidyDeclaration, IsUntidyEntry}
use Rattle.tidy_tables.specs.inside.Renewed.{AreRenewed, IsRenumbered}
use Rattle.tidy_tables.specs.inside.Written.{ColumnsStayLeast}
use Rattle.tidy_tables.proofs.WrittenCodes.{IsHad, had, renumbered}
use Rattle.tidy_tables.proofs.WrittenDeclarations.{renewed, same_declaration}
use Rattle.tidy_tables.proofs.WrittenPlaces.{same_old, same_written, earlier_written, ends_before, same_table, covered}
use Rattle.tidy_tables.proofs.WrittenUses.{used_again, codes_least, outlines_same, some_uses}

module _ (classes : Classes) (section : List ℕ) (r s : Linkable) (are : AreRenewed section r s) where
  again : (u : ℕ) → u < length r.units → u < length s.units
  again u known = (let same = are.units in omega arith)

  -- TABLES

  not_early : (q : ℕ) → IsTooEarly r s q → ⊥
  not_early q (old, before, other, (u, (known, names, first), is), (v, (known_other, names_other, first_other), is_other), lower, higher) =
      let rises : place_of s v < place_of s u = earlier_written section r s are v u (again v known_other) (again u known) (omega arith) in
      omega arith

  not_inside : (q : ℕ) → IsInside s q → ⊥
  not_inside q (u, v, known, known_other, is, from, to) =
      let ends : (unit_at s u).table.end ≤ place_of s v = ends_before section r s are u v known known_other (omega arith) in
      omega arith

  not_further : (q : ℕ) → IsFurther r s q → ⊥
  not_further q (u, place, known, is, (v, (known_other, names, first), is_other), other) = other (sym is_other ∙ same_written section r s are v u (again v known_other) known names ∙ is)

  not_unused : (q : ℕ) → HasUnused s q → ⊥
  not_unused q (u, uses, i, known, is, used, inside, none) =
      let some = used_again section r s are u known uses used i inside in
      omega arith

  not_others : (q : ℕ) → HasOthers r s q → ⊥
  not_others q is = is.others (outlines_same section r s are is.u (again is.u is.namer.0) is.uses is.used)

  not_more : (q : ℕ) → HasMoreBytes s q → ⊥
  not_more q is = is.more (codes_least section r s are is.u is.known is.uses is.used)

  not_untidy : (q : ℕ) → IsUntidyTable r s q → ⊥
  not_untidy q (inl early) = not_early q early
  not_untidy q (inr (inl inside)) = not_inside q inside
  not_untidy q (inr (inr (inl further))) = not_further q further
  not_untidy q (inr (inr (inr (inl unused)))) = not_unused q unused
  not_untidy q (inr (inr (inr (inr (inl others))))) = not_others q others
  not_untidy q (inr (inr (inr (inr (inr more))))) = not_more q more

  -- BYTES OF NO TABLE, AND MISSING TABLES

  not_loose : (p : ℕ) → IsLoose section s p → ⊥
  not_loose p (inside, none) =
      let (u, known, from, to) = covered section r s are p inside in
      none u known from to

  not_missing : IsMissing r s → ⊥
  not_missing (old, other, new, apart, (u, (known, names, first), is), (v, (known_other, names_other, first_other), is_other)) =
      apart (sym names ∙ same_old section r s are u v (again u known) (again v known_other) (is ∙ sym is_other) ∙ names_other)

  -- DECLARATIONS

  not_fallen : (u k : ℕ) → u < length s.units → k < length (declarations (unit_at s u)) → IsFallen (declarations (unit_at s u)) k → ⊥
  not_fallen u k known inside (j, behind, falls) =
      let numbered : IsRenumbered r s u = renumbered section r s are u known in
      let here : (declared_at (declarations (unit_at s u)) k).code ≡ k + 1 = numbered.code k inside in
      let before : (declared_at (declarations (unit_at s u)) j).code ≡ j + 1 = numbered.code j (omega arith) in
      omega arith

  -- a column of an entry
  abbrev IsShortAt : ℕ → ℕ → Listing → ℕ → Type 0
  IsShortAt place k table j =
      IsLeastForm classes (spec_at (declared_at (declarations_of table) k).columns j).name (column_meanings (map head_and_forest s.units) place k j) (spec_at (declared_at (declarations_of table) k).columns j).form (spec_at (declared_at (declarations_of table) k).columns j).constant

  module _ (columns : (u id j : ℕ) → u < length s.units → id < length (unit_at s u).forest.entries → j < length (declared_at (declarations (unit_at s u)) (number_of s u id)).columns → IsShortAt (place_of s u) (number_of s u id) (unit_at s u).table j) where
    not_long : (u k : ℕ) → u < length s.units → k < length (declarations (unit_at s u)) → HasLongColumn classes s u k → ⊥
    not_long u k known inside (j, within, long) =
        let entry : IsHad s (place_of s u) k = had s (place_of s u) k (some_uses section r s are u known k inside) in
        let one_table : (unit_at s entry.u).table ≡ (unit_at s u).table = same_table section r s are entry.u u entry.known known entry.names in
        let column : j < length (declared_at (declarations (unit_at s entry.u)) (number_of s entry.u entry.id)).columns =
        subst (λ (z : ℕ). j < length (declared_at (declarations (unit_at s entry.u)) z).columns) (sym entry.has)
        (subst (λ (t : Listing). j < length (declared_at (declarations_of t) k).columns) (sym one_table) within) in
        let least : IsShortAt (place_of s entry.u) (number_of s entry.u entry.id) (unit_at s entry.u).table j = columns entry.u entry.id j entry.known entry.inside column in
        long
        (subst (λ (t : Listing). IsShortAt (place_of s u) k t j) one_table
        (subst (λ (z : ℕ). IsShortAt z k (unit_at s entry.u).table j) entry.names (subst (λ (z : ℕ). IsShortAt (place_of s entry.u) z (unit_at s entry.u).table j) entry.has least)))

    not_untidy_declaration : (p : ℕ) → IsUntidyDeclaration classes s p → ⊥
    not_untidy_declaration p (u, k, known, inside, place, inl fallen) = not_fallen u k known (let size = count_same (unit_at s u).table in omega arith) fallen
    not_untidy_declaration p (u, k, known, inside, place, inr long) = not_long u k known (let size = count_same (unit_at s u).table in omega arith) long

  -- ENTRIES

  not_untidy_entry : (p : ℕ) → IsUntidyEntry r s p → ⊥
  not_untidy_entry p is = apart is.apart
    where
      both : ((place_of s is.v ≡ place_of s is.u) × (number_of s is.v is.other ≡ number_of s is.u is.id)) ↔ ((place_of r is.v ≡ place_of r is.u) × (number_of r is.v is.other ≡ number_of r is.u is.id))
      both = same_declaration section r s are is.u is.id is.v is.other is.known is.inside is.known_other is.inside_other

      apart : ((number_of r is.v is.other ≡ number_of r is.u is.id) × (number_of s is.v is.other ≢ number_of s is.u is.id)) ⊎ ((number_of r is.v is.other ≢ number_of r is.u is.id) × (number_of s is.v is.other ≡ number_of s is.u is.id)) → ⊥
      apart (inl (same, other)) = other (both.1 (is.table, same)).1
      apart (inr (other, same)) = other (both.0 (same_written section r s are is.v is.u is.known_other is.known is.table, same)).1

-- ALL ROWS

pub written_tables_tidy : AreLaws → ColumnsStayLeast → WrittenTablesAreTidy
written_tables_tidy laws columns classes file written anew row p untidy = refuted row untidy.inner untidy.holds
  where
    r : Reading
    r = untidy.r

    s : Reading
    s = untidy.s

    is : AreAnew file written r s
    is = record { classes = classes; read = untidy.read; again = untidy.again; anew = anew }

    are : AreRenewed (debug_abbrev written) r.links s.links
    are = renewed laws file written r s is

    refuted : (row : Row) (q : ℕ) → HoldsAt classes (debug_abbrev written) r.links s.links row q → ⊥
    refuted OfTable q holds = not_untidy classes (debug_abbrev written) r.links s.links are q holds
    refuted OfLooseByte q holds = not_loose classes (debug_abbrev written) r.links s.links are q holds
    refuted OfMissingTable q holds = not_missing classes (debug_abbrev written) r.links s.links are holds.0
    refuted OfDeclaration q holds = not_untidy_declaration classes (debug_abbrev written) r.links s.links are (columns file written r s is) q holds
    refuted OfEntry q holds = not_untidy_entry classes (debug_abbrev written) r.links s.links are q holds
