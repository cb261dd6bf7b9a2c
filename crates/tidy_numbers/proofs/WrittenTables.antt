-- No number of the abbreviation tables of a file that is written anew has a byte too many.
use Rattle.std.proofs.Common.{◌≡◌, ◌≢◌, ◌<◌, ◌-◌, ◌++◌, ◌∙◌, ◌⊎◌, inl, inr, ℕ, List, [], ◌∷◌, length, drop, sym, ap, subst, refl, arith}
use Rattle.std.specs.Prelude.{ℤ, Bool, slice_index}
use Rattle.std.proofs.lemmas.List.{take-append-drop}
use Rattle.leb_codec.specs.Leb.{Uleb}
use Rattle.leb_codec.proofs.Fronts.{unique_u}
use Rattle.leb_codec.proofs.Lens.{least_unsigned}
use Rattle.abbrev_tables.specs.declared.decl.Spec.{Spec}
use Rattle.abbrev_tables.specs.Listings.{Listing, IsTableAt}
use Rattle.abbrev_tables.specs.Tables.{SpellsName, SpellsColumn, IsColumnsEnd, SpellsColumns, SpellsChildren, Declared, SpellsDeclared, IsTableEnd}
use Rattle.abbrev_tables.specs.Written.{ShortestConstant, ShortestColumn, ShortestColumns, ShortestDeclared, ShortestTable}
use Rattle.abbrev_tables.proofs.Unique.{name_once, children_once, column_once, columns_apart, declared_once, table_apart}
use Rattle.entry_arena.specs.Trees.{bytes_between}
use Rattle.entry_read.specs.Units.{declarations_of}
use Rattle.value_links.specs.Reading.{Reading, unit_at}
use Rattle.value_links.specs.Sections.{debug_abbrev}
use Rattle.written_files.specs.Tidy.{AreTidyTables}
use Rattle.written_files.specs.inside.Counterparts.{AreAnew}
use Rattle.written_files.specs.inside.Laws.{AreLaws}
use Rattle.tidy_numbers.specs.Fronts.{BeginsLong, IsLong, Behind, BehindSome}
use Rattle.tidy_numbers.specs.LongTables.{IsLongConstant, IsLongColumn, SpellsCode, IsLongDeclared, IsLongInTable}
use Rattle.tidy_numbers.specs.LongNumbers.{IsLongInTables}
use Rattle.tidy_numbers.proofs.DeclarationWalks.{code_once}
use Rattle.tidy_numbers.proofs.ShortFronts.{in_parts, few_not_long, shortest_not_long, shortest_not_long_signed, behind_this}
use Rattle.tidy_numbers.proofs.ShortThings.{until_short, column_also, declared_also, zero_byte, columns_end, table_end}
use Rattle.tidy_numbers.proofs.WrittenEntries.{tidy_of}

-- a byte 0 is no number with a byte too many
zero_not_long : (x : List ℕ) → BeginsLong (0 ∷ x) → ⊥
zero_not_long x long = few_not_long 0 (0 ∷ []) x (0 ∷ x) zero_byte.0 (least_unsigned 0).enough.some refl long

-- COLUMNS

-- the form of a column, or its constant, behind its name
abbrev LongFormOrConstant : ℕ → ℕ → List ℕ → Type 0
LongFormOrConstant name inner rest = IsLong inner rest ⊎ ((name ≢ 0) × Behind Uleb IsLongConstant inner rest)

-- a constant is signed, so that it is no matter how long it looks as a number without a sign
constant_short : (form : ℕ) (constant : ℤ) (a x : List ℕ) (at : ℕ) → ShortestConstant form constant a → IsLongConstant form at (a ++ x) → ⊥
constant_short form constant a x at (inl short) long = shortest_not_long_signed constant a x (a ++ x) short.1 refl long.1.1
constant_short form constant a x at (inr none) long = none.0 long.0

-- where the form is there, the constant behind it
form_short : (form : ℕ) (constant : ℤ) (a b x bytes : List ℕ) (at : ℕ) → Uleb form a → ShortestConstant form constant b → bytes ≡ a ++ (b ++ x) → Behind Uleb IsLongConstant at bytes → ⊥
form_short form constant a b x bytes at spelled short whole there =
    let (deep, here) = behind_this Uleb IsLongConstant unique_u form at a (b ++ x) bytes spelled whole there in
    constant_short form constant b x deep short here

-- a column, and then the two numbers 0 that end columns
column_short : (c : Spec) (a x : List ℕ) (at : ℕ) → SpellsColumn c a → ShortestColumn c a → IsLongColumn at (a ++ x) → ⊥
column_short c a x at spelled (name, more, named, (form, constant, formed, ending, f), e) long =
    let fits = spelled.parts.2 in
    let form_fits = spelled.parts.3.2.1 in
    let whole : a ++ x ≡ name ++ (more ++ x) = in_parts (a ++ x) a x name more refl e in
    let left : more ++ x ≡ form ++ (constant ++ x) = in_parts (more ++ x) more x form constant refl f in
    elim long [
      | inl first ↦ shortest_not_long c.name name (more ++ x) (a ++ x) named whole first.1
      | inr later ↦
          let (inner, here) = behind_this SpellsName LongFormOrConstant name_once c.name at name (more ++ x) (a ++ x) ((named.0, fits.0.1), fits.1) whole later in
          elim here [
            | inl second ↦ shortest_not_long c.form form (constant ++ x) (more ++ x) formed left second.1
            | inr third ↦ form_short c.form c.constant form constant x (more ++ x) inner (formed.0, form_fits) ending left third.1
          ]
    ]

columns_end_short : (end x : List ℕ) (at : ℕ) → end ≡ 0 ∷ 0 ∷ [] → IsLongColumn at (end ++ x) → ⊥
columns_end_short end x at is long = elim (subst (λ (z : List ℕ). IsLongColumn at (z ++ x)) is long) [
  | inl first ↦ zero_not_long (0 ∷ x) first.1
  | inr later ↦
      let (inner, here) = behind_this SpellsName LongFormOrConstant name_once 0 at (0 ∷ []) (0 ∷ x) (0 ∷ 0 ∷ x) (zero_byte, omega arith) refl later in
      elim here [
        | inl second ↦ zero_not_long x second.1
        | inr named ↦ named.0 refl
      ]
]

-- columns up to their end
columns_short : (cs : List Spec) (other a x bytes : List ℕ) (at : ℕ) → SpellsColumns cs other → ShortestColumns cs a → bytes ≡ a ++ x → BehindSome SpellsColumn IsLongColumn at bytes → ⊥
columns_short = until_short SpellsColumn ShortestColumn IsColumnsEnd (λ end. end ≡ 0 ∷ 0 ∷ []) column_once columns_apart column_also columns_end IsLongColumn column_short columns_end_short

-- DECLARATIONS

-- a number of the columns of a declaration, behind what tells whether it has children
abbrev LongColumns : Bool → ℕ → List ℕ → Type 0
LongColumns children inner rest = BehindSome SpellsColumn IsLongColumn inner rest

-- behind its tag
abbrev BehindChildren : ℕ → ℕ → List ℕ → Type 0
BehindChildren tag inner rest = Behind SpellsChildren LongColumns inner rest

-- its tag, or a number of its columns, behind its code
abbrev LongTagOrColumns : ℕ → ℕ → List ℕ → Type 0
LongTagOrColumns code inner rest = IsLong inner rest ⊎ Behind SpellsName BehindChildren inner rest

-- the numbers of columns, behind the tag and what tells whether there are children
tag_short : (d : Declared) (tag children columns others x bytes : List ℕ) (at : ℕ) → SpellsName d.tag tag → SpellsChildren d.children children → SpellsColumns d.columns others → ShortestColumns d.columns columns → bytes ≡ tag ++ (children ++ (columns ++ x)) → Behind SpellsName BehindChildren at bytes → ⊥
tag_short d tag children columns others x bytes at tagged childed spelled short whole there =
    let (inner, here) = behind_this SpellsName BehindChildren name_once d.tag at tag (children ++ (columns ++ x)) bytes tagged whole there in
    let (deep, long) = behind_this SpellsChildren LongColumns children_once d.children inner children (columns ++ x) (children ++ (columns ++ x)) childed refl here in
    columns_short d.columns others columns x (columns ++ x) deep spelled short refl long

-- a declaration, and then the code 0 that ends a table
declared_short : (d : Declared) (a x : List ℕ) (at : ℕ) → SpellsDeclared d a → ShortestDeclared d a → IsLongDeclared at (a ++ x) → ⊥
declared_short d a x at spelled (code, more, coded, (tag, behind, tagged, (children, columns, childed, ending, g), f), e) long =
    let whole : a ++ x ≡ code ++ (more ++ x) = in_parts (a ++ x) a x code more refl e in
    let left : more ++ x ≡ tag ++ (behind ++ x) = in_parts (more ++ x) more x tag behind refl f in
    let last : behind ++ x ≡ children ++ (columns ++ x) = in_parts (behind ++ x) behind x children columns refl g in
    let fits = spelled.parts.2 in
    let tag_fits = spelled.parts.3.2 in
    let others = spelled.parts.3.3 in
    let named : SpellsName d.tag tag = ((tagged.0, tag_fits.0.1), tag_fits.1) in
    let parts : more ++ x ≡ tag ++ (children ++ (columns ++ x)) = left ∙ ap (λ (z : List ℕ). tag ++ z) last in
    elim long [
      | inl first ↦ shortest_not_long d.code code (more ++ x) (a ++ x) coded whole first.1
      | inr later ↦
          let (inner, here) = behind_this SpellsCode LongTagOrColumns code_once d.code at code (more ++ x) (a ++ x) ((coded.0, fits.1), spelled.coded) whole later in
          elim here [
            | inl second ↦ shortest_not_long d.tag tag (behind ++ x) (more ++ x) tagged left second.1
            | inr third ↦ tag_short d tag children columns others.1 x (more ++ x) inner named childed others.3 ending parts third
          ]
    ]

table_end_short : (end x : List ℕ) (at : ℕ) → end ≡ 0 ∷ [] → IsLongDeclared at (end ++ x) → ⊥
table_end_short end x at is long = elim (subst (λ (z : List ℕ). IsLongDeclared at (z ++ x)) is long) [
  | inl first ↦ zero_not_long x first.1
  | inr (code, first, rest, inner, coded, holds, whole, place) ↦ coded.1 (unique_u code 0 first (0 ∷ []) rest x coded.0 zero_byte (sym whole)).1
]

-- TABLES

-- a table in its fewest bytes, which stands at a place of a section
table_short : (section : List ℕ) (place : ℕ) (listing : Listing) (at : ℕ) → IsTableAt section place listing → ShortestTable (declarations_of listing) (bytes_between section place listing.end) → IsLongInTable at (drop place section) → ⊥
table_short section place listing at stands short long =
    until_short SpellsDeclared ShortestDeclared IsTableEnd (λ end. end ≡ 0 ∷ []) declared_once table_apart declared_also table_end IsLongDeclared declared_short table_end_short
    (declarations_of listing) (bytes_between section place listing.end) (bytes_between section place listing.end) (drop (listing.end - place) (drop place section)) (drop place section) at
    stands.table.spelled short (sym (take-append-drop (listing.end - place) (drop place section))) long

-- the table that a unit names is one of those of the file
named_short : (file written : List ℕ) (r s : Reading) → AreTidyTables r.links s.links (debug_abbrev written) → (u at : ℕ) → u < length r.links.units → IsLongInTable at (drop (unit_at s.links u).head.table (debug_abbrev written)) → ⊥
named_short file written r s tidy u at known long =
    let i : ℕ = slice_index tidy.table_of u in
    let table = tidy.each i (tidy.named.inside u known) in
    table_short (debug_abbrev written) (slice_index tidy.places i) table.listing at table.stands table.short
    (subst (λ (z : ℕ). IsLongInTable at (drop z (debug_abbrev written))) (tidy.names u known) long)

module _ (laws : AreLaws) where
  pub tables_short : (file written : List ℕ) (r s : Reading) → AreAnew file written r s → (p : ℕ) → IsLongInTables (debug_abbrev written) s p → ⊥
  tables_short file written r s anew p (u, at, known, long, place) =
      let same = (laws.correspond file written r s anew.read anew.again anew.anew.same).units in
      named_short file written r s (tidy_of laws file written r s anew).tables u at (omega (arith, known, same)) long
