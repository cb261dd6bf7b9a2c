-- Where an entry stands: its code, and behind it the values of its columns, up to its end (DWARF 5 section 7.5.2).
use Rattle.std.specs.Prelude.{◌<◌, ◌+◌, ℕ, List, length, take, drop}
use Rattle.leb_codec.specs.Leb.{Uleb}
use Rattle.form_codec.specs.declared.value.Value.{Value}
use Rattle.abbrev_tables.specs.Tables.{Declared}
use Rattle.entry_arena.specs.declared.entry.Entry.{Entry}
use Rattle.entry_arena.specs.Arena.{entry_at}
use Rattle.entry_arena.specs.Trees.{Listed, SpellsBetween, ValuesBetween, declared_at}
use Rattle.entry_arena.specs.Walks.{IsWhole}

-- the entry stands in the section, where these are the values of all entries
pub record StandsAs (section : List ℕ) (ds : List Declared) (values : List Value) (e : Entry) : Type 0 where
  pub values_at : ℕ
  pub coded : SpellsBetween (Uleb ((declared_at ds e.decl).code)) section e.at values_at
  pub valued : ValuesBetween section ((declared_at ds e.decl).columns) (take e.count (drop e.first values)) values_at (e.at + e.len)

-- each entry of a whole walk does
abbrev pub EntriesStand : Type 0
EntriesStand =
    (section : List ℕ) (ds : List Declared) (start : ℕ) (forest : Listed) (id : ℕ) → IsWhole section ds start forest → id < length forest.entries → StandsAs section ds forest.values (entry_at forest.entries id)
