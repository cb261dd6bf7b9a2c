-- What one value of a unit gets as an expression.
use Rattle.std.specs.Prelude.{◌≡◌, ◌≤◌, ◌*◌, ℕ, List, [], ◌++◌, length}
use Rattle.dw_base.specs.declared.fault.Span.{Span}
use Rattle.expr_ops.specs.Shortest.{IsWrittenShortest}
use Rattle.form_codec.specs.Values.{bytes_in}
use Rattle.entry_arena.specs.Arena.{Arena}
use Rattle.entry_arena.specs.Operations.{HeldOps, ops_of}
use Rattle.entry_read.specs.Expressions.{IsExprAt}
use Rattle.unit_write.specs.NewExpressions.{refs_of}

abbrev pub IsNone : Arena → ℕ → Type 0
IsNone f k = (span : Span) → IsExprAt f k span → ⊥

-- these bytes, behind others
pub record PutsExpression (f : Arena) (held : HeldOps) (numbers : List ℕ) (k : ℕ) (old new : List ℕ) : Type 0 where
  pub made : List ℕ
  pub behind : new ≡ old ++ made
  pub written : (span : Span) → IsExprAt f k span → IsWrittenShortest (refs_of held numbers k) (bytes_in f.section span) (ops_of held k) made
  pub few : (span : Span) → IsExprAt f k span → length made ≤ 3 * span.len
  pub none : IsNone f k → made ≡ []
