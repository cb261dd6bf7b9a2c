-- A table as it is held: declarations with their places, and the columns of all of them in one list.
use Rattle.std.specs.Prelude.{◌≡◌, ◌≤◌, ◌+◌, ◌-◌, ℕ, List, [], ◌∷◌, ◌++◌, length, take, drop, map, slice_index_or, false, pos}
use Rattle.abbrev_tables.specs.declared.decl.Decl.{Decl}
use Rattle.abbrev_tables.specs.declared.decl.Spec.{Spec}
use Rattle.abbrev_tables.specs.Tables.{Declared, SpellsDeclared, SpellsTable, IsTableEnd}

pub record Listing : Type 0 where
  pub decls : List Decl
  pub specs : List Spec
  pub end : ℕ

-- the declaration at a place in the list; past its end there is none, and an empty one stands for it
abbrev pub decl_at : List Decl → ℕ → Decl
decl_at decls i = slice_index_or decls i (record { at = 0; code = 0; tag = 0; children = false; first = 0; count = 0 })

-- likewise the column
abbrev pub spec_at : List Spec → ℕ → Spec
spec_at specs i = slice_index_or specs i (record { name = 0; form = 0; constant = pos 0 })

-- the names of columns
abbrev pub names_of : List Spec → List ℕ
names_of columns = map (λ (column : Spec). column.name) columns

-- the declaration with its columns
abbrev pub declared_in : List Spec → Decl → Declared
declared_in specs d = record { code = d.code; tag = d.tag; children = d.children; columns = take d.count (drop d.first specs) }

abbrev pub declarations_in : List Spec → List Decl → List Declared
declarations_in specs decls = map (declared_in specs) decls

-- each has the columns that follow those of the one before it
abbrev pub AreAdjacent : ℕ → List Decl → ℕ → Type 0
AreAdjacent from [] to = from ≡ to
AreAdjacent from (d ∷ ds) to = (d.first ≡ from) × AreAdjacent (from + d.count) ds to

-- the bytes from a place on are the declarations, one after the other, and each says where it stands
abbrev pub ArePlaced : List Spec → ℕ → List Decl → List ℕ → Type 0
ArePlaced specs place [] bytes = bytes ≡ []
ArePlaced specs place (d ∷ ds) bytes = (first : List ℕ) × (rest : List ℕ) × (d.at ≡ place) × SpellsDeclared (declared_in specs d) first × ArePlaced specs (place + length first) ds rest × (bytes ≡ first ++ rest)

-- the table that stands at a place of the section, with the place of each declaration and the place after the code 0
pub record IsTableAt (section : List ℕ) (at : ℕ) (t : Listing) : Type 0 where
  pub starts : at ≤ t.end
  pub inside : t.end ≤ length section
  pub table : SpellsTable (declarations_in t.specs t.decls) (take (t.end - at) (drop at section))
  pub front : List ℕ
  pub end : List ℕ
  pub placed : ArePlaced t.specs at t.decls front
  pub ended : IsTableEnd end
  pub whole : take (t.end - at) (drop at section) ≡ front ++ end
  pub adjacent : AreAdjacent 0 t.decls (length t.specs)
