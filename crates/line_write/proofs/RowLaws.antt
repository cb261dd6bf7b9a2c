-- The rows that a program gives are rows that a program can have.
use Rattle.std.proofs.Common.{◌<◌, ◌^◌, ℕ, ℤ, pos, List, [], ◌∷◌, sym, refl, subst, arith, inl, inr}
use Rattle.std.proofs.lemmas.Int.{ints}
use Rattle.std.specs.Prelude.{negsuc, Option, Some, None, ⊤, ◌≤ℤ◌, ◌<ℤ◌, nat_abs}
use Rattle.std.specs.List.{All}
use Rattle.std.proofs.lemmas.List.Elements.{All-cons, All-nil}
use Rattle.line_machine.specs.declared.head.Head.{Head}
use Rattle.line_machine.specs.declared.registers.Registers.{Registers}
use Rattle.line_machine.specs.declared.registers.Row.{Row}
use Rattle.line_machine.specs.declared.opcode.Opcode.{Opcode}
use Rattle.line_machine.specs.declared.opcode.Opcode.TheVariants.{Copy, EndSequence, Special}
use Rattle.line_machine.specs.Rows.{start, after, row_of, with_row, rows_from, specially, IsSound, AreSound, GivesRows}
use Rattle.line_machine.specs.Class.{IsRow, AreRows}

-- the row, if there is one, is one that a program can have
abbrev IsRowThere : Option Row → Type 0
IsRowThere None = ⊤
IsRowThere (Some row) = IsRow row

line_below : (line : ℤ) → pos 0 ≤ℤ line → line <ℤ pos (2 ^ 32) → nat_abs line < 2 ^ 32
line_below (pos n) low high = omega (arith, ints, high)
line_below (negsuc n) low high = absurd (omega (arith, ints, low))

row_there : (head : Head) (op : Opcode) (r : Registers) → IsSound head op r → IsRowThere (row_of head op r)
row_there head Copy r h = inr (refl, line_below r.line h.0 h.1)
row_there head EndSequence r h = inl refl
row_there head (Special s) r h = inr (refl, line_below (specially head s r).line h.0 h.1)
row_there head _ r h = tt

one_more : (row : Option Row) (rows : List Row) → IsRowThere row → All IsRow rows → All IsRow (with_row row rows)
one_more None rows h all = all
one_more (Some row) rows h all = All-cons IsRow row rows h all

each_row : (head : Head) (r : Registers) (ops : List Opcode) → AreSound head r ops → All IsRow (rows_from head r ops)
each_row head r [] h = All-nil IsRow
each_row head r (op ∷ ops) h = one_more (row_of head op r) (rows_from head (after head op r) ops) (row_there head op r h.0) (each_row head (after head op r) ops h.1)

pub are_rows : (head : Head) (bytes : List ℕ) (rows : List Row) → GivesRows head bytes rows → AreRows rows
are_rows head bytes rows g = record {
  each = subst (λ (z : List Row). All IsRow z) (sym g.given) (each_row head (start head.stmt) g.opcodes g.sound);
  ended = g.ended;
}
