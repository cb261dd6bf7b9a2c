-- The entry forest by its bytes alone (DWARF 5 sections 2.3, 7.5.2 and 7.5.3), without places and lists of what is held.
use Rattle.std.specs.Prelude.{◌≡◌, ◌<◌, ℕ, suc, List, [], ◌∷◌, ◌++◌, length, Bool, true, false}
use Rattle.spelled.specs.Spelled.{HasUniqueFronts, JoinedBy}
use Rattle.leb_codec.specs.Leb.{Uleb}
use Rattle.form_codec.specs.Forms.{Meaning, SpellsValue}
use Rattle.abbrev_tables.specs.declared.decl.Spec.{Spec}
use Rattle.abbrev_tables.specs.Tables.{Declared}
use Rattle.entry_arena.specs.Trees.{declared_at, Listed, SpellsBetween, IsForest}
use Rattle.entry_arena.specs.Forests.{Described, forest_of}
use Rattle.entry_arena.specs.ForestLaws.{HaveCodes}

-- subtrees in their order: of the first the number of its declaration, the values of its attributes, and its children, and
-- then its later siblings
pub data Subtrees : Type 0 where
  NoSubtree : Subtrees
  Subtree : ℕ → List Meaning → Subtrees → Subtrees → Subtrees

-- the values of columns, one after the other
abbrev pub SpellsValues : List Spec → List Meaning → List ℕ → Type 0
SpellsValues columns values bytes = JoinedBy (λ (c : Spec). SpellsValue c.name c.form c.constant) columns values bytes

-- an entry: the code of its declaration, and the values of its columns
pub record SpellsEntry (ds : List Declared) (number : ℕ) (values : List Meaning) (bytes : List ℕ) : Type 0 where
  pub known : number < length ds
  pub code : List ℕ
  pub rest : List ℕ
  pub coded : Uleb ((declared_at ds number).code) code
  pub valued : SpellsValues ((declared_at ds number).columns) values rest
  pub whole : bytes ≡ code ++ rest

-- what follows an entry: with children, these and a code 0; without, nothing, and it has no children
abbrev pub SpellsChildren : Bool → Subtrees → (List ℕ → Type 0) → List ℕ → Type 0
SpellsChildren true children Inside bytes = (inside : List ℕ) × (end : List ℕ) × Inside inside × Uleb 0 end × (bytes ≡ inside ++ end)
SpellsChildren false children Inside bytes = (children ≡ NoSubtree) × (bytes ≡ [])

-- subtrees: each is its entry, and what follows it
abbrev pub SpellsSubtrees : List Declared → Subtrees → List ℕ → Type 0
SpellsSubtrees ds NoSubtree bytes = bytes ≡ []
SpellsSubtrees ds (Subtree number values children more) bytes = (entry : List ℕ) × (below : List ℕ) × (later : List ℕ) × SpellsEntry ds number values entry × SpellsChildren ((declared_at ds number).children) children (SpellsSubtrees ds children) below × SpellsSubtrees ds more later × (bytes ≡ entry ++ (below ++ later))

-- values with the names of their columns
abbrev pub named : List Spec → List Meaning → List (ℕ × Meaning)
named [] values = []
named (c ∷ cs) [] = []
named (c ∷ cs) (v ∷ vs) = (c.name, v) ∷ named cs vs

-- the entries of subtrees in preorder
abbrev pub in_preorder : List Declared → ℕ → Subtrees → List Described
in_preorder ds depth NoSubtree = []
in_preorder ds depth (Subtree number values children more) = (record { depth = depth; tag = (declared_at ds number).tag; children = (declared_at ds number).children; attributes = named ((declared_at ds number).columns) values }) ∷ (in_preorder ds (suc depth) children ++ in_preorder ds depth more)

-- the bytes spell one tree, whose entries in preorder are these
pub record SpellsForest (ds : List Declared) (entries : List Described) (bytes : List ℕ) : Type 0 where
  pub number : ℕ
  pub values : List Meaning
  pub children : Subtrees
  pub spelled : SpellsSubtrees ds (Subtree number values children NoSubtree) bytes
  pub described : entries ≡ in_preorder ds 0 (Subtree number values children NoSubtree)

-- what is listed of a forest is spelled up to its place
abbrev pub ForestsAreSpelled : Type 0
ForestsAreSpelled = (section : List ℕ) (ds : List Declared) (start : ℕ) (forest : Listed) → IsForest section ds start forest → SpellsBetween (SpellsForest ds (forest_of section ds forest)) section start forest.place

-- and all that is spelled can be listed
abbrev pub SpelledForestsAreListed : Type 0
SpelledForestsAreListed = (section : List ℕ) (ds : List Declared) (entries : List Described) (start end : ℕ) → SpellsBetween (SpellsForest ds entries) section start end → (forest : Listed) × IsForest section ds start forest × (forest.place ≡ end) × (forest_of section ds forest ≡ entries)

-- a forest ends by itself
abbrev pub ForestsEnd : Type 0
ForestsEnd = (ds : List Declared) → HaveCodes ds → HasUniqueFronts (SpellsForest ds)
