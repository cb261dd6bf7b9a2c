-- The bytes of entries that are given in preorder, each with its depth (DWARF 5 section 2.3): the form for a writer, without
-- a tree.
use Rattle.std.specs.Prelude.{◌≡◌, ◌-◌, ◌+◌, ◌↔◌, ℕ, zero, suc, List, [], ◌∷◌, ◌++◌, map}
use Rattle.leb_codec.specs.Leb.{Uleb}
use Rattle.form_codec.specs.Forms.{Meaning}
use Rattle.abbrev_tables.specs.Tables.{Declared}
use Rattle.entry_arena.specs.Trees.{declared_at}
use Rattle.entry_arena.specs.Forests.{Described}
use Rattle.entry_arena.specs.Runs.{chains_of, AreNested, AreBelow}
use Rattle.entry_arena.specs.Spellings.{SpellsEntry, SpellsForest, named}

-- an entry: its depth, the number of its declaration, and the values of its attributes
pub record Node : Type 0 where
  pub depth : ℕ
  pub number : ℕ
  pub values : List Meaning

abbrev pub outline : List Node → List (ℕ × ℕ)
outline nodes = map (λ (n : Node). (n.depth, n.number)) nodes

-- what an entry says
abbrev pub said_by : List Declared → Node → Described
said_by ds n = record { depth = n.depth; tag = (declared_at ds n.number).tag; children = (declared_at ds n.number).children; attributes = named ((declared_at ds n.number).columns) n.values }

-- so many codes 0, each padded or not
abbrev pub SpellsZeros : ℕ → List ℕ → Type 0
SpellsZeros zero bytes = bytes ≡ []
SpellsZeros (suc n) bytes = (first : List ℕ) × (rest : List ℕ) × Uleb 0 first × SpellsZeros n rest × (bytes ≡ first ++ rest)

-- entries in preorder, where so many chains are open before them: before each the codes 0 of the chains that it doesn't stand
-- in, and after the last those of all
abbrev pub SpellsNodes : List Declared → ℕ → List Node → List ℕ → Type 0
SpellsNodes ds level [] bytes = SpellsZeros level bytes
SpellsNodes ds level (n ∷ more) bytes = (ends : List ℕ) × (entry : List ℕ) × (rest : List ℕ) × SpellsZeros (level - n.depth) ends × SpellsEntry ds n.number n.values entry × SpellsNodes ds (n.depth + chains_of ds n.number) more rest × (bytes ≡ ends ++ (entry ++ rest))

-- the bytes spell a root and entries below it, each in a chain that is open, and these entries say what is given
pub record SpellsPreorder (ds : List Declared) (entries : List Described) (bytes : List ℕ) : Type 0 where
  pub root : Node
  pub below : List Node
  pub nested : AreNested ds 0 (outline (root ∷ below))
  pub deeper : AreBelow (outline below)
  pub spelled : SpellsNodes ds 0 (root ∷ below) bytes
  pub described : entries ≡ map (said_by ds) (root ∷ below)

-- these are the bytes of a tree, and each tree has such bytes
abbrev pub PreordersAreForests : Type 0
PreordersAreForests = (ds : List Declared) (entries : List Described) (bytes : List ℕ) → SpellsPreorder ds entries bytes ↔ SpellsForest ds entries bytes
