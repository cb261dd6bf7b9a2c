-- What a written table is: used declarations by rising new number, with new columns, and each LEB128 number shortest.
use Rattle.std.specs.Prelude.{◌≡◌, ◌≢◌, ◌≤◌, ◌<◌, ◌⊎◌, ◌^◌, ℕ, zero, suc, ℤ, pos, FitsSigned, List, [], ◌∷◌, ◌++◌, length, map, slice_index, slice_index_or, nat_lt, if◌then◌else◌}
use Rattle.std.specs.Int.{w64}
use Rattle.std.specs.List.{All}
use Rattle.std.specs.List.Sorted.{IsPermutation}
use Rattle.spelled.specs.Spelled.{UntilEnd, Then}
use Rattle.leb_codec.specs.Leb.{ShortestUnsigned, ShortestSigned}
use Rattle.form_codec.specs.Forms.{IsKnown}
use Rattle.abbrev_tables.specs.declared.decl.Decl.{Decl}
use Rattle.abbrev_tables.specs.declared.decl.Spec.{Spec}
use Rattle.abbrev_tables.specs.Tables.{implicit_const, SpellsChildren, Declared}
use Rattle.abbrev_tables.specs.Listings.{Listing, decl_at, declared_in}

-- the constant of implicit_const; a column of another form has none, whatever number it holds
abbrev pub ShortestConstant : ℕ → ℤ → List ℕ → Type 0
ShortestConstant form constant bytes = ((form ≡ implicit_const) × ShortestSigned constant bytes) ⊎ ((form ≢ implicit_const) × (bytes ≡ []))

abbrev pub ShortestColumn : Spec → List ℕ → Type 0
ShortestColumn column bytes = Then ShortestUnsigned (λ _. Then ShortestUnsigned ShortestConstant) (column.name, (column.form, column.constant)) bytes

-- columns, and two numbers 0
abbrev pub ShortestColumns : List Spec → List ℕ → Type 0
ShortestColumns columns bytes = UntilEnd ShortestColumn (λ end. end ≡ 0 ∷ 0 ∷ []) columns bytes

abbrev pub ShortestDeclared : Declared → List ℕ → Type 0
ShortestDeclared d bytes = Then ShortestUnsigned (λ _. Then ShortestUnsigned (λ _. Then SpellsChildren (λ _. ShortestColumns))) (d.code, (d.tag, (d.children, d.columns))) bytes

-- declarations, and a code 0
abbrev pub ShortestTable : List Declared → List ℕ → Type 0
ShortestTable ds bytes = UntilEnd ShortestDeclared (λ end. end ≡ 0 ∷ []) ds bytes

-- a column that a table can have
pub record IsWritableColumn (column : Spec) : Type 0 where
  pub named : column.name ≢ 0
  pub narrow : column.name < 2 ^ 32
  pub known : IsKnown column.form
  pub constant : ((column.form ≡ implicit_const) × FitsSigned w64 column.constant) ⊎ ((column.form ≢ implicit_const) × (column.constant ≡ pos 0))

-- a declaration that a table can have
pub record IsWritable (d : Declared) : Type 0 where
  pub coded : d.code ≢ 0
  pub fits : d.code < 2 ^ 64
  pub narrow : d.tag < 2 ^ 32
  pub columns : All IsWritableColumn d.columns

-- the declarations whose new number isn't 0, among the first n: the new number and the place in the list
abbrev pub used_among : List ℕ → ℕ → List (ℕ × ℕ)
used_among numbers zero = []
used_among numbers (suc n) = if nat_lt 0 (slice_index numbers n) then used_among numbers n ++ (slice_index numbers n, n) ∷ [] else used_among numbers n

-- the declaration with a new number and new columns
abbrev pub numbered_as : ℕ → Decl → List Spec → Declared
numbered_as number d columns = record { code = number; tag = d.tag; children = d.children; columns = columns }

-- the declaration at a place of the list, with its new number and columns
abbrev pub renumbered : List Decl → List Spec → ℕ × ℕ → Declared
renumbered decls columns used = numbered_as used.0 (decl_at decls used.1) ((declared_in columns (decl_at decls used.1)).columns)

abbrev pub used_at : List (ℕ × ℕ) → ℕ → ℕ × ℕ
used_at order k = slice_index_or order k (0, 0)

-- the used declarations, by rising new number
pub record IsInOrder (numbers : List ℕ) (order : List (ℕ × ℕ)) : Type 0 where
  pub used : IsPermutation (used_among numbers (length numbers)) order
  pub rising : (k l : ℕ) → k ≤ l → l < length order → (used_at order k).0 ≤ (used_at order l).0

-- the bytes of the new table: the declarations in this order
pub record IsWrittenOf (decls : List Decl) (numbers : List ℕ) (columns : List Spec) (bytes : List ℕ) : Type 0 where
  pub order : List (ℕ × ℕ)
  pub ordered : IsInOrder numbers order
  pub spelled : ShortestTable (map (renumbered decls columns) order) bytes

abbrev pub IsWritten : Listing → List ℕ → List Spec → List ℕ → Type 0
IsWritten t numbers columns bytes = IsWrittenOf t.decls numbers columns bytes
