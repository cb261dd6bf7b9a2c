-- Rows that are being written.
use Rattle.std.proofs.Common.{◌≡◌, ◌<◌, ◌+◌, ◌∙◌, ℕ, List, [], ◌∷◌, ◌++◌, length, take, get_or, sym, ap, refl, subst, arith, inl, inr}
use Rattle.std.specs.Prelude.{ℤ, Bool, true, All}
use Rattle.std.proofs.lemmas.List.{append_assoc, append-nil, take_more}
use Rattle.std.proofs.lemmas.List.Elements.{All-nil, All-push, All-get_or}
use Rattle.std.proofs.lemmas.Int.{ints}
use Rattle.spelled.specs.Spelled.{Joined}
use Rattle.line_machine.specs.declared.opcode.Opcode.{Opcode}
use Rattle.line_machine.specs.declared.registers.Registers.{Registers}
use Rattle.line_machine.specs.declared.registers.Row.{Row}
use Rattle.line_machine.specs.Rows.{start, HasLine}
use Rattle.line_machine.specs.Class.{IsRow}
use Rattle.line_params.specs.Shortest.{ShortestOpcode}
use Rattle.line_sums.specs.Steps.{left_by}
use Rattle.line_params.specs.Order.{OpcodesIf, RowsOpcodes, AreInOrder}
use Rattle.line_params.specs.inside.Appended.{AppendsOpcodes, AppendsSome, RowFits}
use Rattle.line_params.proofs.Appending.{adds_none, adds_append}

-- the registers after rows
unfoldable pub behind : Bool → Registers → List Row → Registers
behind stmt r [] = r
behind stmt r (row ∷ rows) = behind stmt (left_by stmt row) rows

-- The opcodes of rows are written, and the registers are those that the last of the rows leaves.
pub record Written (stmt : Bool) (base : ℤ) (range scale : ℕ) (rows : List Row) (out : List ℕ) (r : Registers) : Type 0 where
  pub opcodes : List Opcode
  pub ordered : RowsOpcodes stmt base range scale (start stmt) rows opcodes
  pub spelled : AppendsOpcodes opcodes [] out
  pub fits : All RowFits rows
  pub reached : r ≡ behind stmt (start stmt) rows
  pub line : HasLine r

rows_push : (stmt : Bool) (base : ℤ) (range scale : ℕ) (r : Registers) (rows : List Row) (row : Row) (opcodes more : List Opcode) → RowsOpcodes stmt base range scale r rows opcodes → OpcodesIf row.end base range scale (behind stmt r rows) row more → RowsOpcodes stmt base range scale r (rows ++ row ∷ []) (opcodes ++ more)
unfolding behind
rows_push stmt base range scale r [] row opcodes more e h = (more, [], h, refl, ap (λ z. z ++ more) e ∙ sym (append-nil more))
rows_push stmt base range scale r (x ∷ rows) row opcodes more (first, rest, one, others, e) h =
    (first, rest ++ more, one, rows_push stmt base range scale (left_by stmt x) rows row rest more others h, ap (λ z. z ++ more) e ∙ append_assoc first rest more)

behind_push : (stmt : Bool) (r : Registers) (rows : List Row) (row : Row) → behind stmt r (rows ++ row ∷ []) ≡ left_by stmt row
unfolding behind
behind_push stmt r [] row = refl
behind_push stmt r (x ∷ rows) row = behind_push stmt (left_by stmt x) rows row

pub written_none : (stmt : Bool) (base : ℤ) (range scale : ℕ) (out : List ℕ) (r : Registers) → out ≡ [] → r ≡ start stmt → Written stmt base range scale [] out r
unfolding behind
written_none stmt base range scale out r e f = record {
  opcodes = [];
  ordered = refl;
  spelled = subst (λ (z : List ℕ). AppendsOpcodes [] [] z) (sym e) (adds_none []);
  fits = All-nil RowFits;
  reached = f;
  line = subst HasLine (sym f) (omega (arith, ints), omega (arith, ints));
}

pub left_line : (stmt : Bool) (row : Row) → IsRow row → HasLine (left_by stmt row)
left_line stmt row (inl end) = let e : row.end ≡ true = ap (λ z. z.end) end in rw e (omega (arith, ints), omega (arith, ints))
left_line stmt row (inr (e, low)) = rw e (omega (arith, ints), omega (arith, ints))

pub written_more : (stmt : Bool) (base : ℤ) (range scale : ℕ) (rows : List Row) (row : Row) (out out2 : List ℕ) (r r2 : Registers) → Written stmt base range scale rows out r → IsRow row → RowFits row → AppendsSome (OpcodesIf row.end base range scale r row) out out2 → r2 ≡ left_by stmt row → Written stmt base range scale (rows ++ row ∷ []) out2 r2
written_more stmt base range scale rows row out out2 r r2 w is fits (more, are, added) e =
    let are2 = subst (λ (z : Registers). OpcodesIf row.end base range scale z row more) w.reached are in
    record {
      opcodes = w.opcodes ++ more;
      ordered = rows_push stmt base range scale (start stmt) rows row w.opcodes more w.ordered are2;
      spelled = adds_append w.opcodes more [] out out2 w.spelled added;
      fits = All-push RowFits rows row w.fits fits;
      reached = e ∙ sym (behind_push stmt (start stmt) rows row);
      line = subst HasLine (sym e) (left_line stmt row is);
    }

pub written_order : (stmt : Bool) (base : ℤ) (range scale : ℕ) (rows : List Row) (out : List ℕ) (r : Registers) → Written stmt base range scale rows out r → AreInOrder stmt base range scale rows out
written_order stmt base range scale rows out r w = record {
  opcodes = w.opcodes;
  ordered = w.ordered;
  spelled = subst (λ (z : List ℕ). Joined (ShortestOpcode 13) w.opcodes z) (sym w.spelled.2) w.spelled.1;
}

pub written_next : (stmt : Bool) (base : ℤ) (range scale : ℕ) (rows : List Row) (i : ℕ) (d : Row) (out out2 : List ℕ) (r r2 : Registers) → i < length rows → Written stmt base range scale (take i rows) out r → All IsRow rows → RowFits (get_or rows i d) → AppendsSome (OpcodesIf (get_or rows i d).end base range scale r (get_or rows i d)) out out2 → r2 ≡ left_by stmt (get_or rows i d) → Written stmt base range scale (take (i + 1) rows) out2 r2
written_next stmt base range scale rows i d out out2 r r2 inside w are fits added e =
    rw (take_more rows i d inside) (written_more stmt base range scale (take i rows) (get_or rows i d) out out2 r r2 w (All-get_or IsRow rows i d inside are) fits added e)
