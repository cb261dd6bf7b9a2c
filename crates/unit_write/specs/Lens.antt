-- How many bytes each value of a unit takes that its column doesn't tell: an expression behind its length, with that length, and a reference
-- within the unit.
use Rattle.std.specs.Prelude.{◌≡◌, ◌≤◌, ◌<◌, ◌+◌, ◌*◌, ℕ, suc, List, length, sum, slice_index, slice_range, true}
use Rattle.dw_base.specs.declared.fault.Span.{Span}
use Rattle.expr_ops.specs.Expressions.{Operation}
use Rattle.expr_ops.specs.Shortest.{fixed_length}
use Rattle.form_codec.specs.Values.{meant_in}
use Rattle.entry_arena.specs.Arena.{Arena, value_at}
use Rattle.entry_read.specs.Expressions.{IsExprAt}
use Rattle.entry_read.specs.Slots.{is_local, slots_before}

-- the value with a number is such a reference
abbrev pub IsLocalAt : Arena → ℕ → Type 0
IsLocalAt f k = is_local (meant_in f.section (value_at f.values k)) ≡ true

-- There is one for each value. An expression gets at most three times its bytes and 10 for its length, and a reference at most 10, which
-- hold any number of 64 bits.
pub record AreLensFor (f : Arena) (lens : List ℕ) : Type 0 where
  pub each : length lens ≡ length f.values
  pub few : (k : ℕ) (span : Span) → IsExprAt f k span → slice_index lens k ≤ 3 * span.len + 10
  pub narrow : (k : ℕ) → k < length f.values → IsLocalAt f k → slice_index lens k ≤ 10

-- Each value has its slots, which have these sizes, and the bytes of its operations that are no slot's.
pub record AreLensUnder (f : Arena) (ops : ℕ → List Operation) (sizes lens : List ℕ) : Type 0 where
  pub count : length lens ≡ length f.values
  pub each : (k : ℕ) → k < length f.values → slice_index lens k ≡ fixed_length (ops k) + sum (slice_range sizes (slots_before f ops k) (slots_before f ops (suc k)))
