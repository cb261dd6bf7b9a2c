-- Bytes by their span.
use Rattle.std.specs.Prelude.{ℕ, List, take, drop}
use Rattle.dw_base.specs.declared.fault.Span.{Span}

-- the bytes of a span, which counts from the first of all
abbrev pub bytes_in : List ℕ → Span → List ℕ
bytes_in bytes span = take span.len (drop span.at bytes)
