-- The new bytes of a unit's expressions, one after the other in the order of the values.
use Rattle.std.specs.Prelude.{◌≡◌, ◌≤◌, ◌<◌, ◌+◌, ◌-◌, ◌*◌, ℕ, List, [], ◌∷◌, length, take, drop, slice_index, slice_index_or, if◌then◌else◌}
use Rattle.dw_base.specs.declared.fault.Span.{Span}
use Rattle.expr_ops.specs.declared.op.Op.{Op}
use Rattle.expr_ops.specs.Expressions.{Operation}
use Rattle.expr_ops.specs.Drafts.{has_reference, with_refs}
use Rattle.expr_ops.specs.Shortest.{IsWrittenShortest}
use Rattle.form_codec.specs.Forms.{Meaning}
use Rattle.form_codec.specs.Forms.Meaning.{Expression, InUnit}
use Rattle.form_codec.specs.Values.{bytes_in, meant_in}
use Rattle.form_codec.specs.declared.value.Value.{Value}
use Rattle.leb_codec.specs.Leb.{least_unsigned_len}
use Rattle.entry_read.specs.Slots.{operations_in}
use Rattle.entry_arena.specs.Arena.{Arena}
use Rattle.entry_arena.specs.Operations.{HeldOps, ops_of, for_value}
use Rattle.entry_read.specs.Expressions.{IsExprAt}

-- Where the bytes of each value's expression end, in the order of the values; a value that is no expression has none. Before the first
-- is 0.
abbrev pub begin_of : List ℕ → ℕ → ℕ
begin_of ends k = slice_index_or (0 ∷ ends) k 0

-- how many bytes each has: the distances from one end to the next
abbrev pub lens_from : ℕ → List ℕ → List ℕ
lens_from begin [] = []
lens_from begin (end ∷ ends) = (end - begin) ∷ lens_from end ends

abbrev pub lens_of : List ℕ → List ℕ
lens_of ends = lens_from 0 ends

-- the bytes of the expression of a value
abbrev pub made_of : List ℕ → List ℕ → ℕ → List ℕ
made_of ends bytes k = take (slice_index ends k - begin_of ends k) (drop (begin_of ends k) bytes)

-- How many bytes a value takes beside what its column tells, where a reference within the unit has this number, and an expression so many
-- bytes: each number and each length has as many as it needs.
abbrev pub new_len : Meaning → ℕ → ℕ → ℕ
new_len (InUnit old) n made = least_unsigned_len n
new_len (Expression bytes) n made = least_unsigned_len made + made
new_len meaning n made = 0

-- those of values, which have these numbers and so many bytes
abbrev pub new_lens : List ℕ → List Value → List ℕ → List ℕ → List ℕ
new_lens section (v ∷ vs) (n ∷ ns) (made ∷ mades) = new_len (meant_in section v) n made ∷ new_lens section vs ns mades
new_lens section vs numbers mades = []

-- they rise, one for each of so many values, up to so many bytes
pub record EndsRise (ends : List ℕ) (count most : ℕ) : Type 0 where
  pub each : length ends ≡ count
  pub rising : (k : ℕ) → k < count → begin_of ends k ≤ slice_index ends k
  pub inside : (k : ℕ) → k < count → slice_index ends k ≤ most

-- the numbers of the operations that have a reference
abbrev pub refs_among : List Op → List ℕ → List ℕ
refs_among [] numbers = []
refs_among (op ∷ ops) [] = []
refs_among (op ∷ ops) (n ∷ ns) = if has_reference op.code then n ∷ refs_among ops ns else refs_among ops ns

-- the new references of the expression that is the value with a number, where each operation of the unit has a number
abbrev pub refs_of : HeldOps → List ℕ → ℕ → List ℕ
refs_of held numbers k = refs_among (ops_of held k) (for_value held numbers k)

-- There is an end for each value of a unit. An expression gets at most three times its bytes, and a value that is none has none.
pub record AreEndsFor (f : Arena) (ends : List ℕ) : Type 0 where
  pub rise : EndsRise ends (length f.values) (3 * length f.section)
  pub few : (k : ℕ) (span : Span) → IsExprAt f k span → slice_index ends k ≤ begin_of ends k + 3 * span.len
  pub none : (k : ℕ) → k < length f.values → ((span : Span) → IsExprAt f k span → ⊥) → slice_index ends k ≡ begin_of ends k

-- the operations of the value with a number, with their new references
abbrev pub operations_anew : Arena → HeldOps → List ℕ → ℕ → List Operation
operations_anew f held numbers k = with_refs (refs_of held numbers k) (operations_in f held k)

-- Each expression is written with its new references, in its fewest bytes. `numbers` has one for each operation of the unit.
pub record AreWrittenShortest (f : Arena) (held : HeldOps) (ends numbers bytes : List ℕ) : Type 0 where
  pub all : (k : ℕ) → k < length f.values → slice_index ends k ≤ length bytes
  pub each : (k : ℕ) (span : Span) → IsExprAt f k span → IsWrittenShortest (refs_of held numbers k) (bytes_in f.section span) (ops_of held k) (made_of ends bytes k)
