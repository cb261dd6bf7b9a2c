-- How long a unit can get when it is written anew.
use Rattle.std.specs.Prelude.{◌+◌, ◌*◌, ℕ, length}
use Rattle.entry_read.specs.Units.{HeadAndForest}

-- A unit that is written anew has at most these bytes: a code takes at most 5 where the old one took 1 or more, an expression three
-- times its old bytes, and a value besides at most 10 more than the old bytes. The header and the codes 0 take as many as before or fewer.
abbrev pub most_bytes : HeadAndForest → ℕ
most_bytes unit = 3 * unit.head.len + 4 * length unit.forest.entries + 10 * length unit.forest.values
