-- How a walk grows: more bytes behind a section change nothing of what stands before them, and one more step may follow at
-- its end. So a writer appends bytes, and what stands already stays as it is (DWARF 5 sections 2.3 and 7.5.2).
use Rattle.std.specs.Prelude.{◌≡◌, ◌≤◌, ℕ, List, [], ◌∷◌, ◌++◌, length}
use Rattle.leb_codec.specs.Leb.{Uleb}
use Rattle.form_codec.specs.declared.value.Value.{Value}
use Rattle.form_codec.specs.Values.{meant_in, LiesIn}
use Rattle.abbrev_tables.specs.declared.decl.Spec.{Spec}
use Rattle.abbrev_tables.specs.Tables.{Declared}
use Rattle.entry_arena.specs.declared.entry.Entry.{Entry}
use Rattle.entry_arena.specs.Trees.{bytes_between, Listed, SpellsBetween, ValuesBetween, AddsEntry, AddsEnd, IsForest}
use Rattle.entry_arena.specs.Forests.{forest_of}
use Rattle.entry_arena.specs.Walks.{Item, IsGoing, opened, Walks, IsWhole}
use Rattle.entry_arena.specs.Walks.Item.{AnEntry, AnEnd}
use Rattle.entry_arena.specs.Standing.{StandsAs}

-- What stands in a section stands there too where more bytes follow the section: its bytes, codes and values, what values
-- mean, entries, ends of chains, walks and forests.
pub record WalksStay (section more : List ℕ) (ds : List Declared) : Type 0 where
  pub bytes : (from to : ℕ) → to ≤ length section → bytes_between (section ++ more) from to ≡ bytes_between section from to
  pub coded : (code from to : ℕ) → SpellsBetween (Uleb code) section from to → SpellsBetween (Uleb code) (section ++ more) from to
  pub meant : (v : Value) → LiesIn (length section) v → meant_in (section ++ more) v ≡ meant_in section v
  pub valued : (columns : List Spec) (values : List Value) (from to : ℕ) → ValuesBetween section columns values from to → ValuesBetween (section ++ more) columns values from to
  pub stands : (values : List Value) (e : Entry) → StandsAs section ds values e → StandsAs (section ++ more) ds values e
  pub entry : (depth number : ℕ) (old new : Listed) → AddsEntry section ds depth number old new → AddsEntry (section ++ more) ds depth number old new
  pub chain_end : (parent : ℕ) (old new : Listed) → AddsEnd section parent old new → AddsEnd (section ++ more) parent old new
  pub walked : (old : Listed) (chains : List ℕ) (items : List Item) (new : Listed) (left : List ℕ) → Walks section ds old chains items new left → Walks (section ++ more) ds old chains items new left
  pub whole : (start : ℕ) (forest : Listed) → IsWhole section ds start forest → IsWhole (section ++ more) ds start forest
  pub forest : (start : ℕ) (forest : Listed) → IsForest section ds start forest → IsForest (section ++ more) ds start forest
  pub said : (start : ℕ) (forest : Listed) → IsWhole section ds start forest → forest_of (section ++ more) ds forest ≡ forest_of section ds forest

-- whatever bytes are appended to whatever section
abbrev pub SectionsGrow : Type 0
SectionsGrow = (section more : List ℕ) (ds : List Declared) → WalksStay section more ds

-- A walk goes on by the entry that stands next, and by the code 0 that does.
pub record WalksPush (section : List ℕ) (ds : List Declared) (old : Listed) (chains : List ℕ) (items : List Item) (now : Listed) (between : List ℕ) : Type 0 where
  pub entry : (number : ℕ) (new : Listed) → IsGoing now between → AddsEntry section ds (length between) number now new → Walks section ds old chains (items ++ AnEntry number ∷ []) new (opened ds number (length now.entries) between)
  pub chain_end : (id : ℕ) (outer : List ℕ) (new : Listed) → between ≡ id ∷ outer → AddsEnd section id now new → Walks section ds old chains (items ++ AnEnd ∷ []) new outer

-- each walk does
abbrev pub WalksArePushed : Type 0
WalksArePushed =
    (section : List ℕ) (ds : List Declared) (old : Listed) (chains : List ℕ) (items : List Item) (now : Listed) (between : List ℕ) → Walks section ds old chains items now between → WalksPush section ds old chains items now between
