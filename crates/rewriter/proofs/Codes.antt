-- Entries of a file that is written anew have the codes that their table's declarations are numbered with.
use Rattle.std.proofs.Common.{◌≡◌, ◌<◌, inl, inr, ℕ, List, length, ap, subst, arith}
use Rattle.std.specs.Prelude.{slice_index}
use Rattle.std.proofs.lemmas.Bool.{cases_lt}
use Rattle.dw_base.specs.declared.classes.Classes.{Classes}
use Rattle.entry_read.specs.Units.{HeadAndForest}
use Rattle.unit_write.specs.declared.places.Places.{Places}
use Rattle.value_links.specs.declared.units.NamedTable.{NamedTable}
use Rattle.value_links.specs.Reading.{UnitRead, Reading, unit_among, unit_at}
use Rattle.value_links.specs.Values.{entry_of, declaration_of}
use Rattle.value_links.specs.World.{World, named_by, table_at, AreTablesOf}
use Rattle.written_files.specs.Uses.{AreUses}
use Rattle.written_files.specs.Classes.{HaveCodes, HasLeastCodes, HasOrderedCodes}
use Rattle.rewriter.specs.declared.tables.NewTable.{NewTable}
use Rattle.rewriter.specs.declared.new_places.NewPlaces.{NewPlaces}
use Rattle.rewriter.specs.inside.Tables.{new_table_at}
use Rattle.rewriter.specs.inside.Follows.{AreReadAnew}
use Rattle.rewriter.proofs.UsedDeclarations.{table_written}
use Rattle.rewriter.proofs.MovedEntries.{same_declared}

-- a unit that names the place of a table has the table
table_named : (units : List UnitRead) (tables : List NamedTable) (table_of : List ℕ) → AreTablesOf units tables table_of → (u i : ℕ) → u < length units → i < length tables → (unit_among units u).head.table ≡ (table_at tables i).place → slice_index table_of u ≡ i
table_named units tables table_of of u i known inside named =
    let k : ℕ = slice_index table_of u in
    let own : (table_at tables k).place ≡ (unit_among units u).head.table = ap (λ (z : NamedTable). z.place) (of.each u known) in
    elim (cases_lt k i) [
      | inl below ↦ absurd (omega (arith, own, named, of.rising k i below inside))
      | inr from ↦
          elim (cases_lt i k) [
            | inl above ↦ absurd (omega (arith, own, named, of.rising i k above (of.inside u known)))
            | inr to ↦ omega (arith, from, to)
          ]
    ]

module _ {classes : Classes} {file : List ℕ} {world : World} {tables : List NewTable} {places : List Places} {new_places : NewPlaces} {info abbrevs : List ℕ} {r s : Reading} (all : AreReadAnew classes file world tables places new_places info abbrevs r s) where
  -- the codes are the numbers of the table that is written
  pub codes_by : (i : ℕ) → i < length world.tables → HaveCodes r.links s.links (table_at world.tables i).place (new_table_at tables i).numbers
  codes_by i inside u id known named entry =
      let same : slice_index world.table_of u ≡ i = table_named r.links.units world.tables world.table_of all.holds.tables u i known inside named in
      subst (λ (z : ℕ). (declaration_of (unit_at s.links u) id).code ≡ slice_index (new_table_at tables z).numbers (entry_of (unit_at r.links u) id).decl) same (same_declared all u id known entry).code

  abbrev numbers_for : ℕ → List ℕ
  numbers_for u = (new_table_at tables (slice_index world.table_of u)).numbers

  codes_for : (u : ℕ) → u < length r.links.units → HaveCodes r.links s.links (unit_at r.links u).head.table (numbers_for u)
  codes_for u known =
      subst (λ (z : NamedTable). HaveCodes r.links s.links z.place (numbers_for u)) (all.holds.tables.each u known) (codes_by (slice_index world.table_of u) (all.holds.tables.inside u known))

  -- so they take the least bytes
  pub least_codes : (u : ℕ) → u < length r.links.units → HasLeastCodes r.links s.links u
  least_codes u known =
      let w = table_written all.read all.holds all.tables_written u known in
      record {
        uses = w.uses;
        used = subst (λ (z : List HeadAndForest). AreUses z (named_by (unit_at r.links u)) w.uses) all.holds.units w.used;
        numbers = numbers_for u;
        codes = codes_for u known;
        least = w.least;
      }

  -- and are those from 1 on, by falling uses and then by place
  pub ordered_codes : (u : ℕ) → u < length r.links.units → HasOrderedCodes r.links s.links u
  ordered_codes u known =
      let w = table_written all.read all.holds all.tables_written u known in
      record {
        uses = w.uses;
        used = subst (λ (z : List HeadAndForest). AreUses z (named_by (unit_at r.links u)) w.uses) all.holds.units w.used;
        numbers = numbers_for u;
        codes = codes_for u known;
        first = w.first;
        order = w.order;
      }
