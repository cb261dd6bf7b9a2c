-- The first row that holds anywhere, by what is found of each.
use Rattle.std.proofs.Common.{◌≡◌, ◌≤◌, ◌<◌, ◌+◌, ◌∙◌, ℕ, length, sym, subst, refl, arith, true≢false}
use Rattle.std.specs.Prelude.{◌↔◌, Bool, true, false, Option, Some, None, IsTrue}
use Rattle.dw_base.specs.declared.classes.Classes.{Classes}
use Rattle.dw_base.specs.declared.fault.Reach.{Reach}
use Rattle.value_links.specs.Sections.{debug_info, debug_abbrev, offset_named}
use Rattle.value_links.specs.Same.{Same}
use Rattle.value_links.specs.Reading.{Reading}
use Rattle.value_links.specs.Whole.{IsReading}
use Rattle.value_links.specs.World.{World, Holds, IsWorldOf}
use Rattle.value_links.proofs.ReadingOnce.{reading_once}
use Rattle.tidy_places.specs.Firsts.{IsLeastPlace, IsLeastFound, IsFirstIn}
use Rattle.tidy_tables.specs.Rows.{Row, order_of, section_of, HoldsAt, IsUntidy}
use Rattle.tidy_tables.specs.Rows.Row.{OfTable, OfLooseByte, OfMissingTable, OfDeclaration, OfEntry}
use Rattle.tidy_tables.specs.Untidy.{IsMissing, IsUntidyDeclaration}
use Rattle.tidy_tables.specs.inside.Compared.{OfBoth}
use Rattle.tidy_tables.proofs.SameUnits.{same_units}
use Rattle.tidy_tables.proofs.PlacesInside.{table_inside, declaration_inside, entry_inside}

-- a row holds at no place
abbrev pub HoldsNowhere : Classes → World → World → Row → Type 0
HoldsNowhere classes a b row = OfBoth a b (λ r s. (p : ℕ) → HoldsAt classes (debug_abbrev b.image) r.links s.links row p → ⊥)

-- this is the least place at which it holds
abbrev pub HoldsFirstAt : Classes → World → World → Row → ℕ → Type 0
HoldsFirstAt classes a b row p = OfBoth a b (λ r s. IsLeastPlace (HoldsAt classes (debug_abbrev b.image) r.links s.links row) p)

-- the rows before a number hold nowhere
pub rows_before : (classes : Classes) (a b : World) (n : ℕ) → (0 < n → HoldsNowhere classes a b OfTable) → (1 < n → HoldsNowhere classes a b OfLooseByte) → (2 < n → HoldsNowhere classes a b OfMissingTable) → (3 < n → HoldsNowhere classes a b OfDeclaration) → (4 < n → HoldsNowhere classes a b OfEntry) → (row : Row) → order_of row < n → HoldsNowhere classes a b row
rows_before classes a b n table loose missing declaration entry OfTable less = table less
rows_before classes a b n table loose missing declaration entry OfLooseByte less = loose less
rows_before classes a b n table loose missing declaration entry OfMissingTable less = missing less
rows_before classes a b n table loose missing declaration entry OfDeclaration less = declaration less
rows_before classes a b n table loose missing declaration entry OfEntry less = entry less

-- all do
pub every_row : (classes : Classes) (a b : World) → HoldsNowhere classes a b OfTable → HoldsNowhere classes a b OfLooseByte → HoldsNowhere classes a b OfMissingTable → HoldsNowhere classes a b OfDeclaration → HoldsNowhere classes a b OfEntry → (row : Row) → HoldsNowhere classes a b row
every_row classes a b table loose missing declaration entry OfTable = table
every_row classes a b table loose missing declaration entry OfLooseByte = loose
every_row classes a b table loose missing declaration entry OfMissingTable = missing
every_row classes a b table loose missing declaration entry OfDeclaration = declaration
every_row classes a b table loose missing declaration entry OfEntry = entry

module _ (classes : Classes) (a b : World) (before : (reach : Reach) × IsWorldOf a.image reach a) (after : (reach : Reach) × IsWorldOf b.image reach b) where
  -- what holds of what both worlds hold holds of all that is read of the files
  of_readings : (P : Reading → Reading → Type 0) → OfBoth a b P → (r s : Reading) → IsReading a.image r → IsReading b.image s → P r s
  of_readings P holds r s read again =
      holds r s
      read
      (subst (Holds a.image a) (reading_once a.image before.1.r r before.1.read read) before.1.holds)
      again
      (subst (Holds b.image b) (reading_once b.image after.1.r s after.1.read again) after.1.holds)

  pub nowhere_untidy : (row : Row) → HoldsNowhere classes a b row → (p : ℕ) → IsUntidy classes a.image b.image row p → ⊥
  nowhere_untidy row none p untidy =
      of_readings (λ r s. (p : ℕ) → HoldsAt classes (debug_abbrev b.image) r.links s.links row p → ⊥) none untidy.r untidy.s untidy.read untidy.again untidy.inner untidy.holds

  module _ (row : Row) (inner place : ℕ) (least : HoldsFirstAt classes a b row inner) (here : place ≡ offset_named b.image (section_of row) + inner) where
    found_here : IsUntidy classes a.image b.image row place
    found_here = record {
      r = before.1.r;
      s = after.1.r;
      read = before.1.read;
      again = after.1.read;
      inner = inner;
      holds = (least before.1.r after.1.r before.1.read before.1.holds after.1.read after.1.holds).0;
      place = here;
    }

    none_earlier : (q : ℕ) → q < place → IsUntidy classes a.image b.image row q → ⊥
    none_earlier q less untidy =
        let found : IsLeastPlace (HoldsAt classes (debug_abbrev b.image) untidy.r.links untidy.s.links row) inner = of_readings (λ r s. IsLeastPlace (HoldsAt classes (debug_abbrev b.image) r.links s.links row) inner) least untidy.r untidy.s untidy.read untidy.again in
        let there = untidy.place in
        found.1 untidy.inner (omega arith) untidy.holds

    pub first_row : ((earlier : Row) → order_of earlier < order_of row → HoldsNowhere classes a b earlier) → IsFirstIn order_of (IsUntidy classes a.image b.image) place
    first_row none = record {
      row = row;
      least = (found_here, none_earlier);
      first = λ earlier q less. nowhere_untidy earlier (none earlier less) q;
    }

  -- no row holds anywhere
  pub no_row : ((row : Row) → HoldsNowhere classes a b row) → (row : Row) (p : ℕ) → IsUntidy classes a.image b.image row p → ⊥
  no_row none row = nowhere_untidy row (none row)

-- WHAT IS FOUND OF A ROW

module _ (classes : Classes) (a b : World) (row : Row) (found : Option ℕ) (told : OfBoth a b (λ r s. IsLeastFound (HoldsAt classes (debug_abbrev b.image) r.links s.links row) found)) where
  pub row_found : (p : ℕ) → found ≡ Some p → HoldsFirstAt classes a b row p
  row_found p is r s read holds again keeps = subst (λ (z : Option ℕ). IsLeastFound (HoldsAt classes (debug_abbrev b.image) r.links s.links row) z) is (told r s read holds again keeps)

  pub none_found : found ≡ None → HoldsNowhere classes a b row
  none_found is r s read holds again keeps = subst (λ (z : Option ℕ). IsLeastFound (HoldsAt classes (debug_abbrev b.image) r.links s.links row) z) is (told r s read holds again keeps)

-- what is said of the written file alone
pub of_written : (classes : Classes) (a b : World) (found : Option ℕ) → OfBoth b b (λ r s. IsLeastFound (IsUntidyDeclaration classes s.links) found) → OfBoth a b (λ r s. IsLeastFound (IsUntidyDeclaration classes s.links) found)
of_written classes a b found told r s read holds again keeps = told s s again keeps again keeps

-- a missing table is said of the section's end
pub missing_first : (classes : Classes) (a b : World) (missing : Bool) → missing ≡ true → OfBoth a b (λ r s. IsTrue missing ↔ IsMissing r.links s.links) → HoldsFirstAt classes a b OfMissingTable (length (debug_abbrev b.image))
missing_first classes a b missing is told r s read holds again keeps = (
  ((told r s read holds again keeps).0 is, refl),
  λ q less there. let here = there.1 in absurd (omega arith),
)

pub none_missing : (classes : Classes) (a b : World) (missing : Bool) → missing ≡ false → OfBoth a b (λ r s. IsTrue missing ↔ IsMissing r.links s.links) → HoldsNowhere classes a b OfMissingTable
none_missing classes a b missing is told r s read holds again keeps p there = true≢false (sym ((told r s read holds again keeps).1 there.0) ∙ is)

-- WHERE IT STANDS

module _ (classes : Classes) (a b : World) (before : (reach : Reach) × IsWorldOf a.image reach a) (after : (reach : Reach) × IsWorldOf b.image reach b) (same : Same a.image b.image) where
  count : length before.1.r.links.units ≡ length after.1.r.links.units
  count = same_units a.image b.image same.debug before.1.r after.1.r before.1.read after.1.read

  pub table_within : (p : ℕ) → HoldsFirstAt classes a b OfTable p → p ≤ length (debug_abbrev b.image)
  table_within p first = table_inside a.image b.image before.1.r after.1.r after.1.read count p (first before.1.r after.1.r before.1.read before.1.holds after.1.read after.1.holds).0

  pub declaration_within : (p : ℕ) → HoldsFirstAt classes a b OfDeclaration p → p ≤ length (debug_abbrev b.image)
  declaration_within p first = declaration_inside a.image b.image before.1.r after.1.r after.1.read count classes p (first before.1.r after.1.r before.1.read before.1.holds after.1.read after.1.holds).0

  pub entry_within : (p : ℕ) → HoldsFirstAt classes a b OfEntry p → p ≤ length (debug_info b.image)
  entry_within p first = entry_inside a.image b.image before.1.r after.1.r after.1.read count p (first before.1.r after.1.r before.1.read before.1.holds after.1.read after.1.holds).0
