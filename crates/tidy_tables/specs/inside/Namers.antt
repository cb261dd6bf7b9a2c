-- Old tables that are written as one.
use Rattle.std.specs.Prelude.{◌≡◌, ◌<◌, ℕ, List, length, slice_index}

-- two of the numbers are one
abbrev pub AreWrittenAsOne : List ℕ → Type 0
AreWrittenAsOne written = (i : ℕ) × (j : ℕ) × (i < j) × (j < length written) × (slice_index written i ≡ slice_index written j)
