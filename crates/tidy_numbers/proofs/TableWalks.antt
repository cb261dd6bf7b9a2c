-- The numbers of the tables that units name.
use Rattle.std.proofs.Common.{◌≡◌, ◌<◌, ◌∙◌, ℕ, List, [], length, get_or, Option, sym, ap, subst}
use Rattle.std.specs.Prelude.{false, slice_index}
use Rattle.std.proofs.lemmas.List.{length-map, get_or-map}
use Rattle.std.proofs.lemmas.List.Elements.{All-get_or}
use Rattle.spelled.specs.Spelled.{UntilEnd}
use Rattle.abbrev_tables.specs.declared.decl.Spec.{Spec}
use Rattle.abbrev_tables.specs.Tables.{Declared, SpellsDeclared, IsTableEnd}
use Rattle.abbrev_tables.specs.Listings.{Listing, decl_at, declared_in, declarations_in, IsTableAt}
use Rattle.dw_base.specs.declared.fault.Reach.{Reach}
use Rattle.tidy_places.specs.Firsts.{IsLeastFound}
use Rattle.entry_arena.specs.Trees.{SpellsBetween}
use Rattle.value_links.specs.declared.units.NamedTable.{NamedTable}
use Rattle.value_links.specs.Sections.{debug_info, debug_abbrev}
use Rattle.value_links.specs.Reading.{Reading, IsUnitRead, no_unit, unit_at}
use Rattle.value_links.specs.Whole.{IsReading}
use Rattle.value_links.specs.World.{World, Holds, IsWorldOf, named_by, table_at}
use Rattle.tidy_numbers.specs.LongTables.{IsLongInTable}
use Rattle.tidy_numbers.specs.LongNumbers.{IsLongInTables}
use Rattle.tidy_numbers.specs.inside.NumberWalks.{HoldsFrom}
use Rattle.tidy_numbers.proofs.WalkedPlaces.{found_same, HoldsAmong}

-- a table that stands at a place, as its declarations up to their end
pub table_stands : (bytes : List ℕ) (start : ℕ) (t : Listing) → IsTableAt bytes start t → SpellsBetween (UntilEnd SpellsDeclared IsTableEnd (declarations_in t.specs t.decls)) bytes start t.end
table_stands bytes start t stands = record { order = stands.starts; inside = stands.inside; spelled = stands.table.spelled }

pub declared_count : (t : Listing) → length (declarations_in t.specs t.decls) ≡ length t.decls
declared_count t = length-map t.decls (declared_in t.specs)

abbrev pub no_declared : Declared
no_declared = record { code = 0; tag = 0; children = false; columns = [] }

-- the columns of a declaration
pub columns_listed : (t : Listing) (i : ℕ) (columns : List Spec) → i < length t.decls → columns ≡ (declared_in t.specs (decl_at t.decls i)).columns → (get_or (declarations_in t.specs t.decls) i no_declared).columns ≡ columns
columns_listed t i columns inside is = ap (λ (d : Declared). d.columns) (get_or-map (declared_in t.specs) t.decls i (record { at = 0; code = 0; tag = 0; children = false; first = 0; count = 0 }) no_declared inside) ∙ sym is

-- THE TABLES OF A FILE

unit_read : (file : List ℕ) (r : Reading) (u : ℕ) → IsReading file r → u < length r.links.units → IsUnitRead (debug_info file) (debug_abbrev file) (unit_at r.links u)
unit_read file r u read inside = All-get_or (IsUnitRead (debug_info file) (debug_abbrev file)) r.links.units u no_unit inside read.links.units.each

-- each stands where it is said to
pub tables_stand : (world : World) (reach : Reach) → IsWorldOf world.image reach world → (k : ℕ) → k < length world.tables → IsTableAt (debug_abbrev world.image) (table_at world.tables k).place (table_at world.tables k).table
tables_stand world reach is k inside =
    let (u, known, number) = is.holds.tables.named k inside in
    let same : table_at world.tables k ≡ named_by (unit_at is.r.links u) = ap (λ (i : ℕ). table_at world.tables i) (sym number) ∙ is.holds.tables.each u known in
    subst (λ (t : NamedTable). IsTableAt (debug_abbrev world.image) t.place t.table) (sym same) (unit_read world.image is.r u is.read known).table

-- the places in the table with a number
abbrev pub IsLongInTableOf : List ℕ → List NamedTable → ℕ → ℕ → Type 0
IsLongInTableOf bytes tables k p = HoldsFrom IsLongInTable bytes (table_at tables k).place p

-- what is found in all tables is found in those that units name
pub found_in_tables : (world : World) (s : Reading) → Holds world.image world s → (bytes : List ℕ) (found : Option ℕ) → IsLeastFound (HoldsAmong (IsLongInTableOf bytes world.tables) (length world.tables)) found → IsLeastFound (IsLongInTables bytes s) found
found_in_tables world s holds bytes found least =
    found_same (HoldsAmong (IsLongInTableOf bytes world.tables) (length world.tables)) (IsLongInTables bytes s) found least
    (λ p h.
    let (k, inside, there) = h in
    let (u, known, number) = holds.tables.named k inside in
    let place : (table_at world.tables k).place ≡ (unit_at s.links u).head.table = ap (λ (i : ℕ). (table_at world.tables i).place) (sym number) ∙ ap (λ (t : NamedTable). t.place) (holds.tables.each u known) in
    let (inner, long, is) = subst (λ (z : ℕ). HoldsFrom IsLongInTable bytes z p) place there in
    (u, inner, known, long, is))
    (λ p h.
    let (u, inner, known, long, is) = h in
    let k : ℕ = slice_index world.table_of u in
    let place : (table_at world.tables k).place ≡ (unit_at s.links u).head.table = ap (λ (t : NamedTable). t.place) (holds.tables.each u known) in
    let here : HoldsFrom IsLongInTable bytes (unit_at s.links u).head.table p = (inner, long, is) in
    (k, holds.tables.inside u known, subst (λ (z : ℕ). HoldsFrom IsLongInTable bytes z p) (sym place) here))
