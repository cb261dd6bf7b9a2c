-- The declarations of a table that was read.
use Rattle.std.proofs.Common.{◌≡◌, ◌≢◌, ◌≤◌, ◌<◌, ◌+◌, ◌∙◌, ℕ, zero, suc, List, [], ◌∷◌, length, sym, ap, arith}
use Rattle.std.specs.Prelude.{false}
use Rattle.std.proofs.lemmas.List.{get_or-map, length-map}
use Rattle.std.proofs.lemmas.List.Elements.{All-nil, All-cons}
use Rattle.spelled.specs.Spelled.{Joined}
use Rattle.form_codec.specs.Forms.{IsKnown}
use Rattle.abbrev_tables.specs.declared.decl.Decl.{Decl}
use Rattle.abbrev_tables.specs.declared.decl.Spec.{Spec}
use Rattle.abbrev_tables.specs.Tables.{Declared, SpellsDeclared, SpellsColumn}
use Rattle.abbrev_tables.specs.Listings.{Listing, decl_at, declared_in}
use Rattle.abbrev_tables.specs.Index.{HasCode}
use Rattle.abbrev_tables.proofs.Puts.{columns_inside as inside_all}
use Rattle.entry_arena.specs.Trees.{declared_at}
use Rattle.entry_arena.specs.ForestLaws.{HaveCodes}
use Rattle.entry_arena.proofs.WalkLaws.{table_codes}
use Rattle.entry_read.specs.Units.{declarations_of, IsTable}
use Rattle.entry_read.specs.Readings.{AreKnown}

-- the columns of a declaration are among those of the table
pub columns_inside : (t : Listing) (i : ℕ) → IsTable t → i < length t.decls → (decl_at t.decls i).first + (decl_at t.decls i).count ≤ length t.specs
columns_inside t i (section, at, h) l = inside_all 0 t.decls (length t.specs) i h.adjacent l

pub count_same : (t : Listing) → length (declarations_of t) ≡ length t.decls
count_same t = length-map t.decls (declared_in t.specs)

-- a declaration with its columns
pub declared_is : (t : Listing) (i : ℕ) → i < length t.decls → declared_at (declarations_of t) i ≡ declared_in t.specs (decl_at t.decls i)
declared_is t i l = get_or-map (declared_in t.specs) t.decls i (record { at = 0; code = 0; tag = 0; children = false; first = 0; count = 0 }) (record { code = 0; tag = 0; children = false; columns = [] }) l

-- its columns
pub columns_are : (t : Listing) (i : ℕ) → i < length (declarations_of t) → (declared_in t.specs (decl_at t.decls i)).columns ≡ (declared_at (declarations_of t) i).columns
columns_are t i l =
    let size : length (declarations_of t) ≡ length t.decls = count_same t in
    sym (ap (λ z. z.columns) (declared_is t i (omega arith)))

columns_known : (columns : List Spec) (bytes : List ℕ) → Joined SpellsColumn columns bytes → AreKnown columns
columns_known [] bytes j = All-nil (λ (c : Spec). IsKnown c.form)
columns_known (c ∷ columns) bytes (first, rest, s, j, e) = All-cons (λ (c : Spec). IsKnown c.form) c columns s.known (columns_known columns rest j)

declared_known : (ds : List Declared) (bytes : List ℕ) (i : ℕ) → Joined SpellsDeclared ds bytes → i < length ds → AreKnown ((declared_at ds i).columns)
declared_known [] bytes i j l = absurd (omega arith)
declared_known (d ∷ ds) bytes zero (first, rest, s, j, e) l = let columns = s.parts.3.3.3 in columns_known d.columns columns.0 columns.2
declared_known (d ∷ ds) bytes (suc i) (first, rest, s, j, e) l = declared_known ds rest i j (omega arith)

-- the columns of a declaration have forms that are known
pub known_columns : (t : Listing) (i : ℕ) → IsTable t → i < length (declarations_of t) → AreKnown ((declared_at (declarations_of t) i).columns)
known_columns t i (section, at, h) l = let ds = h.table.spelled in declared_known (declarations_of t) ds.0 i ds.2 l

-- its codes differ, and none is 0
pub have_codes : (t : Listing) → IsTable t → HaveCodes (declarations_of t)
have_codes t (section, at, h) = table_codes (declarations_of t) _ h.table

-- a code that is found is that of the declaration
pub found_code : (t : Listing) (code number : ℕ) → number < length t.decls → (decl_at t.decls number).code ≡ code → (number < length (declarations_of t)) × ((declared_at (declarations_of t) number).code ≡ code)
found_code t code number l e = let size : length (declarations_of t) ≡ length t.decls = count_same t in (omega arith, ap (λ z. z.code) (declared_is t number l) ∙ e)

-- whether its entries have children
pub child_same : (t : Listing) (number : ℕ) (d : Decl) → number < length t.decls → d ≡ decl_at t.decls number → d.children ≡ (declared_at (declarations_of t) number).children
child_same t number d l e = ap (λ z. z.children) e ∙ sym (ap (λ z. z.children) (declared_is t number l))

-- a code that isn't found is none of theirs
pub no_code : (t : Listing) (code : ℕ) → (HasCode t.decls code → ⊥) → (number : ℕ) → number < length (declarations_of t) → (declared_at (declarations_of t) number).code ≢ code
no_code t code none number l =
    let size : length (declarations_of t) ≡ length t.decls = count_same t in
    let inside : number < length t.decls = omega arith in
    λ e. none (number, inside, sym (ap (λ z. z.code) (declared_is t number inside)) ∙ e)
