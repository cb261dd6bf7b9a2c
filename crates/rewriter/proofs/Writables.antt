-- The used declarations of a table that was read can be written, each with its new number and new columns.
use Rattle.std.proofs.Common.{◌≡◌, ◌≢◌, ◌<◌, ◌^◌, ◌⊎◌, inl, inr, ℕ, List, [], ◌∷◌, length, map, drop, get_or, ap, ◌∙◌, subst, arith}
use Rattle.std.specs.Prelude.{ℤ, pos, FitsSigned}
use Rattle.std.specs.Int.{w64}
use Rattle.std.specs.List.{All}
use Rattle.std.proofs.lemmas.List.{get_or-map, length-map}
use Rattle.std.proofs.lemmas.List.Elements.{All-nil, All-cons, All-map, All-take, All-drop, All-get_or, All-from_get_or}
use Rattle.spelled.specs.Spelled.{Joined}
use Rattle.abbrev_tables.specs.declared.decl.Decl.{Decl}
use Rattle.abbrev_tables.specs.declared.decl.Spec.{Spec}
use Rattle.abbrev_tables.specs.Tables.{implicit_const, SpellsConstant, SpellsColumn, SpellsDeclared, Declared, codes_of, AreDistinct}
use Rattle.abbrev_tables.specs.Listings.{Listing, decl_at}
use Rattle.abbrev_tables.specs.Written.{IsWritableColumn, IsWritable, IsInOrder, renumbered, used_at}
use Rattle.entry_arena.specs.Trees.{declared_at}
use Rattle.entry_read.specs.Units.{declarations_of, IsTable}
use Rattle.entry_read.proofs.Declarations.{declared_is, count_same}
use Rattle.rewriter.proofs.AllColumns.{columns_all}
use Rattle.rewriter.proofs.Renumbers.{AreNumbersOf, entry, number_at}

-- what holds of each thing that is spelled
joined_each : {V : Type 0} (S : V → List ℕ → Type 0) (P : V → Type 0) → ((v : V) (b : List ℕ) → S v b → P v) → (vs : List V) (bytes : List ℕ) → Joined S vs bytes → All P vs
joined_each S P gives [] bytes joined = All-nil P
joined_each S P gives (v ∷ vs) bytes (first, rest, s, more, e) = All-cons P v vs (gives v first s) (joined_each S P gives vs rest more)

constant_writable : (form : ℕ) (constant : ℤ) (b : List ℕ) → SpellsConstant form constant b → ((form ≡ implicit_const) × FitsSigned w64 constant) ⊎ ((form ≢ implicit_const) × (constant ≡ pos 0))
constant_writable form constant b (inl (e, s)) = inl (e, s.1)
constant_writable form constant b (inr (o, a)) = inr (o, a.1)

column_writable : (c : Spec) (b : List ℕ) → SpellsColumn c b → IsWritableColumn c
column_writable c b s =
    let rest = s.parts.3 in
    record {
      named = s.named;
      narrow = s.parts.2.1;
      known = s.known;
      constant = constant_writable c.form c.constant rest.1 rest.3;
    }

-- what is spelled of a declaration can be written
declared_narrow : (d : Declared) (b : List ℕ) → SpellsDeclared d b → d.tag < 2 ^ 32
declared_narrow d b s = s.parts.3.2.1

declared_writable : (d : Declared) (b : List ℕ) → SpellsDeclared d b → All IsWritableColumn d.columns
declared_writable d b s =
    let flagged = s.parts.3.3.3 in
    joined_each SpellsColumn IsWritableColumn column_writable d.columns flagged.0 flagged.2

-- what holds of each declaration that is spelled holds of those of a table that was read
spelled_all : (P : Declared → Type 0) → ((d : Declared) (b : List ℕ) → SpellsDeclared d b → P d) → (t : Listing) → IsTable t → All P (declarations_of t)
spelled_all P gives t (section, at, h) = joined_each SpellsDeclared P gives (declarations_of t) h.table.spelled.0 h.table.spelled.2

-- the columns of a table that was read can be written
pub table_writable : (t : Listing) → IsTable t → All IsWritableColumn t.specs
table_writable t known = columns_all IsWritableColumn t.specs 0 t.decls known.2.adjacent (spelled_all (λ (d : Declared). All IsWritableColumn d.columns) declared_writable t known)

-- and so can its tags
pub tags_narrow : (t : Listing) → IsTable t → (p : ℕ) → p < length t.decls → (decl_at t.decls p).tag < 2 ^ 32
tags_narrow t known p inside =
    let all = spelled_all (λ (d : Declared). d.tag < 2 ^ 32) declared_narrow t known in
    let at = All-get_or (λ (d : Declared). d.tag < 2 ^ 32) (declarations_of t) p (declared_at [] 0) (omega (arith, inside, count_same t)) all in
    subst (λ (d : Declared). d.tag < 2 ^ 32) (declared_is t p inside) at

module _ (decls : List Decl) (tags : (p : ℕ) → p < length decls → (decl_at decls p).tag < 2 ^ 32) (columns : List Spec) (fine : All IsWritableColumn columns) (uses numbers : List ℕ) (are : AreNumbersOf uses numbers) (fits : (i : ℕ) → i < length numbers → get_or numbers i 0 < 2 ^ 64) (same : length numbers ≡ length decls) (order : List (ℕ × ℕ)) (ordered : IsInOrder numbers order) where
  pub writable : All IsWritable (map (renumbered decls columns) order)
  writable =
      All-map IsWritable (renumbered decls columns) order
      (All-from_get_or (λ (e : ℕ × ℕ). IsWritable (renumbered decls columns e)) order (0, 0) (λ k inside.
      let here = entry uses numbers are order ordered k inside in
      let p : ℕ = (used_at order k).1 in
      let d : Decl = decl_at decls p in
      record {
        coded = λ none. absurd (omega (arith, here.some, none));
        fits = omega (arith, here.number, fits p here.below);
        narrow = tags p (omega (arith, here.below, same));
        columns = All-take IsWritableColumn d.count (drop d.first columns) (All-drop IsWritableColumn d.first columns fine);
      }))

  code_is : (k : ℕ) → k < length order → get_or (codes_of (map (renumbered decls columns) order)) k 0 ≡ (used_at order k).0
  code_is k inside =
      get_or-map (λ (d : Declared). d.code) (map (renumbered decls columns) order) k (renumbered decls columns (0, 0)) 0 (omega (arith, inside, length-map order (renumbered decls columns)))
      ∙ ap (λ (d : Declared). d.code) (get_or-map (renumbered decls columns) order k (0, 0) (renumbered decls columns (0, 0)) inside)

  pub distinct : AreDistinct (codes_of (map (renumbered decls columns) order))
  distinct i j below within e =
      let count : length (codes_of (map (renumbered decls columns) order)) ≡ length order = length-map (map (renumbered decls columns) order) (λ (d : Declared). d.code) ∙ length-map order (renumbered decls columns) in
      let one : i < length order = omega (arith, below, count) in
      let two : j < length order = omega (arith, within, count) in
      omega (arith, number_at uses numbers are order ordered i one, number_at uses numbers are order ordered j two, code_is i one, code_is j two, e)
