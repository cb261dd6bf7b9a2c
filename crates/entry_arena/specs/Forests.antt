-- What the entries of a unit say, whatever the numbers of their declarations and the bytes of their values.
use Rattle.std.specs.Prelude.{ℕ, List, [], ◌∷◌, take, drop, map, Bool}
use Rattle.form_codec.specs.declared.value.Value.{Value}
use Rattle.form_codec.specs.Forms.{Meaning}
use Rattle.form_codec.specs.Values.{meant_in}
use Rattle.abbrev_tables.specs.declared.decl.Spec.{Spec}
use Rattle.abbrev_tables.specs.Tables.{Declared}
use Rattle.entry_arena.specs.declared.entry.Entry.{Entry}
use Rattle.entry_arena.specs.Trees.{Listed, declared_at}

-- an entry: how many it stands below, its tag, whether its declaration says that it has children, and its attributes in
-- their order, each a name and a value (DWARF 5 sections 2.1 to 2.3)
pub record Described : Type 0 where
  pub depth : ℕ
  pub tag : ℕ
  pub children : Bool
  pub attributes : List (ℕ × Meaning)

-- the values with the names of their columns
abbrev pub attributes_of : List ℕ → List Spec → List Value → List (ℕ × Meaning)
attributes_of section [] values = []
attributes_of section (c ∷ cs) [] = []
attributes_of section (c ∷ cs) (v ∷ vs) = (c.name, meant_in section v) ∷ attributes_of section cs vs

-- what an entry says by its declaration, where these are the values of all entries
abbrev pub described_by : List ℕ → List Declared → List Value → Entry → Described
described_by section ds values e = record {
  depth = e.depth;
  tag = (declared_at ds e.decl).tag;
  children = (declared_at ds e.decl).children;
  attributes = attributes_of section ((declared_at ds e.decl).columns) (take e.count (drop e.first values));
}

-- the entry forest: what the entries say, in preorder
abbrev pub forest_of : List ℕ → List Declared → Listed → List Described
forest_of section ds listed = map (described_by section ds listed.values) listed.entries
