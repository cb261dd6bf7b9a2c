-- A unit's entries as a tree (DWARF 5 sections 2.3 and 7.5.2): each is its abbreviation code and its values, and where
-- its declaration says that it has children, these follow, one after the other, and then a code 0.
-- Spellings.antt says it of the bytes alone; here it stands with the places, and with the lists that are held of it, and a
-- law says that both are the same.
use Rattle.std.specs.Prelude.{◌≡◌, ◌≤◌, ◌<◌, ◌-◌, ℕ, suc, List, [], ◌∷◌, ◌++◌, length, take, drop, slice_index_or, Bool, true, false}
use Rattle.leb_codec.specs.Leb.{Uleb}
use Rattle.form_codec.specs.declared.value.Value.{Value}
use Rattle.form_codec.specs.Forms.{SpellsValue}
use Rattle.form_codec.specs.Values.{meant_in, IsPlaced}
use Rattle.abbrev_tables.specs.declared.decl.Spec.{Spec}
use Rattle.abbrev_tables.specs.Tables.{Declared}
use Rattle.entry_arena.specs.declared.entry.Entry.{Entry}
use Rattle.entry_arena.specs.declared.entry.ChainEnd.{ChainEnd}
use Rattle.entry_arena.specs.Arena.{Arena}

-- the bytes of a section from a place up to another
abbrev pub bytes_between : List ℕ → ℕ → ℕ → List ℕ
bytes_between section from to = take (to - from) (drop from section)

-- the bytes from a place up to another spell something
pub record SpellsBetween (Spells : List ℕ → Type 0) (section : List ℕ) (from to : ℕ) : Type 0 where
  pub order : from ≤ to
  pub inside : to ≤ length section
  pub spelled : Spells (bytes_between section from to)

-- the values of columns, one after the other from a place up to another, each with its span
abbrev pub ValuesBetween : List ℕ → List Spec → List Value → ℕ → ℕ → Type 0
ValuesBetween section [] [] from to = from ≡ to
ValuesBetween section [] (v ∷ vs) from to = ⊥
ValuesBetween section (c ∷ cs) [] from to = ⊥
ValuesBetween section (c ∷ cs) (v ∷ vs) from to = (next : ℕ) × SpellsBetween (SpellsValue c.name c.form c.constant (meant_in section v)) section from next × IsPlaced v from next × ValuesBetween section cs vs next to

-- the declaration with a number; past the end of the table there is none, and an empty one stands for it
abbrev pub declared_at : List Declared → ℕ → Declared
declared_at ds number = slice_index_or ds number (record { code = 0; tag = 0; children = false; columns = [] })

-- what is listed of the front of a unit's entries: the entries, their values, the codes 0 that end chains of siblings,
-- and the place where the rest begins
pub record Listed : Type 0 where
  pub entries : List Entry
  pub values : List Value
  pub ends : List ChainEnd
  pub place : ℕ

-- nothing is listed yet, and the entries begin at a place
abbrev pub nothing_from : ℕ → Listed
nothing_from start = record { entries = []; values = []; ends = []; place = start }

-- what is held, up to a place
abbrev pub listed_to : Arena → ℕ → Listed
listed_to f place = record { entries = f.entries; values = f.values; ends = f.ends; place = place }

-- an entry is spelled next: the code of its declaration, and the values of its columns
pub record AddsEntry (section : List ℕ) (ds : List Declared) (depth number : ℕ) (old new : Listed) : Type 0 where
  pub known : number < length ds
  pub values_at : ℕ
  pub values : List Value
  pub coded : SpellsBetween (Uleb ((declared_at ds number).code)) section old.place values_at
  pub valued : ValuesBetween section ((declared_at ds number).columns) values values_at new.place
  pub entered : new.entries ≡ old.entries ++ (record { at = old.place; len = new.place - old.place; depth = depth; decl = number; first = length old.values; count = length values }) ∷ []
  pub listed : new.values ≡ old.values ++ values
  pub ended : new.ends ≡ old.ends

-- a code 0 stands next, and ends the chain of the children of an entry. It may be padded, as each LEB128 number.
pub record AddsEnd (section : List ℕ) (parent : ℕ) (old new : Listed) : Type 0 where
  pub coded : SpellsBetween (Uleb 0) section old.place new.place
  pub entered : new.entries ≡ old.entries
  pub listed : new.values ≡ old.values
  pub ended : new.ends ≡ old.ends ++ (record { entry = parent; at = old.place }) ∷ []

-- siblings in their order: the number of the declaration of the first, its children, and its later siblings
pub data Siblings : Type 0 where
  NoMore : Siblings
  Tree : ℕ → Siblings → Siblings → Siblings

-- what follows an entry: with children, these and a code 0; without, nothing, and it has no children
abbrev pub EndsChildren : Bool → List ℕ → ℕ → Siblings → (Listed → Listed → Type 0) → Listed → Listed → Type 0
EndsChildren true section parent children Inside old new = (inner : Listed) × Inside old inner × AddsEnd section parent inner new
EndsChildren false section parent children Inside old new = (children ≡ NoMore) × (new ≡ old)

-- siblings of a depth are spelled next, each followed by what its declaration says
abbrev pub Lists : List ℕ → List Declared → ℕ → Siblings → Listed → Listed → Type 0
Lists section ds depth NoMore old new = new ≡ old
Lists section ds depth (Tree number children more) old new = (entry : Listed) × (chain : Listed) × AddsEntry section ds depth number old entry × EndsChildren ((declared_at ds number).children) section (length old.entries) children (Lists section ds (suc depth) children) entry chain × Lists section ds depth more chain new

-- the entries of a unit from a place on: one tree. Where the unit ends, and that bytes 0 fill it up to there, is said of
-- units (crate entry_read).
pub record IsForest (section : List ℕ) (ds : List Declared) (start : ℕ) (forest : Listed) : Type 0 where
  pub root : ℕ
  pub children : Siblings
  pub listed : Lists section ds 0 (Tree root children NoMore) (nothing_from start) forest
