-- The numbers of abbreviation tables that have a byte too many (DWARF 5 section 7.5.3): codes, tags, the names and forms of columns,
-- constants, and the numbers 0 that end columns and tables. Places count from the first of the bytes.
use Rattle.std.specs.Prelude.{◌≡◌, ◌≢◌, ◌⊎◌, ℕ, List}
use Rattle.leb_codec.specs.Leb.{Uleb}
use Rattle.abbrev_tables.specs.Tables.{implicit_const, SpellsName, SpellsColumn, SpellsChildren, SpellsDeclared}
use Rattle.tidy_numbers.specs.Fronts.{IsLong, IsLongSigned, Behind, BehindSome}

-- the constant of a column with a form
abbrev pub IsLongConstant : ℕ → ℕ → List ℕ → Type 0
IsLongConstant form at bytes = (form ≡ implicit_const) × IsLongSigned at bytes

-- the name of a column, its form or its constant; or one of the two numbers 0 that end columns
abbrev pub IsLongColumn : ℕ → List ℕ → Type 0
IsLongColumn at bytes =
    IsLong at bytes ⊎ Behind SpellsName (λ name inner rest. IsLong inner rest ⊎ ((name ≢ 0) × Behind Uleb IsLongConstant inner rest)) at bytes

-- a code other than 0
abbrev pub SpellsCode : ℕ → List ℕ → Type 0
SpellsCode code bytes = Uleb code bytes × (code ≢ 0)

-- the code of a declaration, its tag, or a number of its columns; or the code 0 that ends a table
abbrev pub IsLongDeclared : ℕ → List ℕ → Type 0
IsLongDeclared at bytes =
    IsLong at bytes ⊎ Behind SpellsCode (λ code inner rest. IsLong inner rest ⊎ Behind SpellsName (λ tag. Behind SpellsChildren (λ children. BehindSome SpellsColumn IsLongColumn)) inner rest) at bytes

-- a number of the table that the bytes begin with
abbrev pub IsLongInTable : ℕ → List ℕ → Type 0
IsLongInTable at bytes = BehindSome SpellsDeclared IsLongDeclared at bytes
