-- Where the values of attributes stand: each follows the code of its entry and the values before it (DWARF 5 section 7.5.2).
-- Inner functions and proofs alone need what stands here.
use Rattle.std.specs.Prelude.{ℕ}
use Rattle.form_codec.specs.Forms.{Meaning}
use Rattle.form_codec.specs.Values.{meant_in}
use Rattle.entry_arena.specs.Arena.{value_at}
use Rattle.value_links.specs.Reading.{UnitRead}

-- what the value with a number means, counted over the values of all entries
abbrev pub meaning_at : UnitRead → ℕ → Meaning
meaning_at unit number = meant_in unit.forest.section (value_at unit.forest.values number)
