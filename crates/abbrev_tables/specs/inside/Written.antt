-- What a written table is: used declarations by rising new number, with new columns, and each LEB128 number shortest.
-- Inner functions and proofs alone need what stands here.
use Rattle.std.specs.Prelude.{◌<◌, ℕ, List, length}
use Rattle.abbrev_tables.specs.Written.{used_at}

-- places below a number
abbrev pub AreUsed : ℕ → List (ℕ × ℕ) → Type 0
AreUsed count order = (k : ℕ) → k < length order → (used_at order k).1 < count
