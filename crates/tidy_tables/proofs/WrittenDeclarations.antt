-- What is used of both files is so of a file that is written anew; and entries have one declaration in it where they have in the old file.
use Rattle.std.proofs.Common.{◌≡◌, ◌<◌, ◌+◌, ◌↔◌, ℕ, List, length, ap, subst, refl, arith}
use Rattle.std.specs.Prelude.{slice_index}
use Rattle.std.proofs.lemmas.List.Elements.{All-get_or}
use Rattle.leb_codec.specs.Numbering.{IsUsed}
use Rattle.abbrev_tables.specs.Listings.{Listing}
use Rattle.entry_read.specs.Places.{HaveOwners}
use Rattle.entry_read.proofs.Declarations.{count_same}
use Rattle.entry_read.proofs.OwnerLaws.{values_belong}
use Rattle.value_links.specs.Reading.{Linkable, Reading, no_unit, unit_at, declarations, IsUnitRead, AreUnitsIn}
use Rattle.value_links.specs.Sections.{debug_info, debug_abbrev}
use Rattle.written_files.specs.Classes.{HasLeastCodes, HasOrderedCodes}
use Rattle.written_files.specs.Tidy.{AreTidy}
use Rattle.written_files.specs.inside.Counterparts.{AreAnew, Correspond}
use Rattle.written_files.specs.inside.Laws.{AreLaws}
use Rattle.tidy_tables.specs.Untidy.{place_of, number_of}
use Rattle.tidy_tables.specs.inside.Renewed.{AreRenewed, IsRenumbered}
use Rattle.tidy_tables.specs.inside.Written.{SameDeclarations}
use Rattle.tidy_tables.proofs.WrittenCodes.{has_uses, renumbered}
use Rattle.tidy_tables.proofs.WrittenPlaces.{old_known, old_table, same_old, same_written}

-- BOTH FILES

-- an entry has a declaration of the table of its unit
declared : (info abbrevs : List ℕ) (r : Linkable) → AreUnitsIn info abbrevs r.units → (u id : ℕ) → u < length r.units → id < length (unit_at r u).forest.entries → number_of r u id < length (declarations (unit_at r u))
declared info abbrevs r units u id known inside =
    let unit : IsUnitRead info abbrevs (unit_at r u) = All-get_or (IsUnitRead info abbrevs) r.units u no_unit known units.each in
    let owners : HaveOwners (declarations (unit_at r u)) (unit_at r u).forest =
    values_belong info (unit_at r u).head (declarations (unit_at r u)) (unit_at r u).forest unit.section unit.entries in
    owners.declared id inside

-- what is used of both files
pub renewed : AreLaws → (file written : List ℕ) (r s : Reading) → AreAnew file written r s → AreRenewed (debug_abbrev written) r.links s.links
renewed laws file written r s is =
    let same : Correspond r s = laws.correspond file written r s is.read is.again is.anew.same in
    let tidy : AreTidy (debug_abbrev written) r s = laws.holds (AreTidy (debug_abbrev written)) file written r s is.read is.again is.anew.tidy in
    record {
      units = same.units;
      entries = same.entries;
      declared = declared (debug_info file) (debug_abbrev file) r.links is.read.links.units;
      again = declared (debug_info written) (debug_abbrev written) s.links is.again.links.units;
      stands = λ u known. (All-get_or (IsUnitRead (debug_info written) (debug_abbrev written)) s.links.units u no_unit known is.again.links.units.each).table;
      tables = tidy.tables;
      codes = laws.holds (λ r s. (u : ℕ) → u < length r.links.units → HasLeastCodes r.links s.links u) file written r s is.read is.again is.anew.codes;
      first = laws.holds (λ r s. (u : ℕ) → u < length r.links.units → HasOrderedCodes r.links s.links u) file written r s is.read is.again is.anew.codes_order;
    }

-- ENTRIES

module _ (section : List ℕ) (r s : Linkable) (are : AreRenewed section r s) where
  -- the declaration of an entry is used
  pub entry_used : (u v id : ℕ) (numbered : IsRenumbered r s u) → u < length s.units → v < length s.units → place_of r v ≡ place_of r u → id < length (unit_at s v).forest.entries → IsUsed numbered.uses (number_of r v id)
  entry_used u v id numbered here known names inside =
      let old : v < length r.units = old_known section r s are v known in
      let there : id < length (unit_at r v).forest.entries = subst (λ (z : ℕ). id < z) (are.entries v known) inside in
      let count : length numbered.uses ≡ length (unit_at r u).table.decls = numbered.used.count in
      let one_table : length (unit_at r v).table.decls ≡ length (unit_at r u).table.decls = ap (λ (t : Listing). length t.decls) (old_table section r s are v u known here names) in
      let within : number_of r v id < length (declarations (unit_at r v)) = are.declared v id old there in
      let size : length (declarations (unit_at r v)) ≡ length (unit_at r v).table.decls = count_same (unit_at r v).table in
      let some = has_uses r (place_of r u) (number_of r v id) v id old names there refl in
      let uses_are = numbered.used.each (number_of r v id) (omega arith) in
      record { inside = omega arith; some = omega arith }

  -- entries of units that name one old table have one declaration in the written file exactly where they have in the old one
  module _ (u id v other : ℕ) (here : u < length s.units) (inside : id < length (unit_at s u).forest.entries) (there : v < length s.units) (inside_other : other < length (unit_at s v).forest.entries) where
    same_number : place_of r v ≡ place_of r u → (number_of s v other ≡ number_of s u id) ↔ (number_of r v other ≡ number_of r u id)
    same_number names =
        let numbered : IsRenumbered r s u = renumbered section r s are u here in
        let one : slice_index numbered.numbers (number_of r u id) ≡ number_of s u id + 1 = numbered.entry u id here refl inside in
        let second : slice_index numbered.numbers (number_of r v other) ≡ number_of s v other + 1 = numbered.entry v other there names inside_other in (
          λ same.
              let used : IsUsed numbered.uses (number_of r u id) = entry_used u u id numbered here here refl inside in
              let used_other : IsUsed numbered.uses (number_of r v other) = entry_used u v other numbered here there names inside_other in
              numbered.numbered.one_to_one (number_of r v other) (number_of r u id) used_other used (omega arith),
          λ same.
              let numbers : slice_index numbered.numbers (number_of r v other) ≡ slice_index numbered.numbers (number_of r u id) =
              ap (λ (z : ℕ). slice_index numbered.numbers z) same in
              omega arith,
        )

    pub same_declaration : ((place_of s v ≡ place_of s u) × (number_of s v other ≡ number_of s u id)) ↔ ((place_of r v ≡ place_of r u) × (number_of r v other ≡ number_of r u id))
    same_declaration = (
      λ same. (let names : place_of r v ≡ place_of r u = same_old section r s are v u there here same.0 in (names, (same_number names).0 same.1)),
      λ same. (same_written section r s are v u there here same.0, (same_number same.0).1 same.1),
    )

pub same_declarations : AreLaws → SameDeclarations
same_declarations laws file written r s is u id v other here inside there inside_other =
    same_declaration (debug_abbrev written) r.links s.links (renewed laws file written r s is) u id v other here inside there inside_other
