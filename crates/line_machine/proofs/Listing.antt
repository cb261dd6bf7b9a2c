-- Rows listed one after the other.
use Rattle.std.proofs.Common.{◌≡◌, ◌≤◌, ◌+◌, ℕ, List, [], ◌∷◌, ◌++◌, length, take, drop, true, ◌∙◌, sym, ap, refl, subst, arith}
use Rattle.std.proofs.lemmas.List.{take_all, take-append-drop, append-nil, length-append}
use Rattle.spelled.specs.Spelled.{Joined}
use Rattle.line_machine.specs.declared.head.Head.{Head}
use Rattle.line_machine.specs.declared.opcode.Opcode.{Opcode}
use Rattle.line_machine.specs.declared.place.Place.{Place}
use Rattle.line_machine.specs.declared.registers.Row.{Row}
use Rattle.line_machine.specs.Opcodes.{SpellsOpcode}
use Rattle.line_machine.specs.Rows.{start, rows_from, ends, GivesRows}
use Rattle.line_machine.specs.Faults.{IsLong, row_limit}
use Rattle.line_machine.specs.Cursors.{Passed, PassesOn, at_start}
use Rattle.line_machine.proofs.Passing.{rows_append, start_passed}

-- the opcodes before a place have given these rows
pub record Listed (head : Head) (program : List ℕ) (place : Place) (rows : List Row) : Type 0 where
  pub opcodes : List Opcode
  pub passed : Passed head program opcodes place
  pub given : rows ≡ rows_from head (start head.stmt) opcodes

pub listed_none : (head : Head) (program : List ℕ) (place : Place) → place ≡ at_start head → Listed head program place []
listed_none head program place e = record {
  opcodes = [];
  passed = subst (λ (z : Place). Passed head program [] z) (sym e) (start_passed head program);
  given = refl;
}

pub listed_on : (head : Head) (program : List ℕ) (a b : Place) (rows more : List Row) → Listed head program a rows → PassesOn head program a b more → Listed head program b (rows ++ more)
listed_on head program a b rows more l f =
    let one = f.from l.opcodes l.passed in
    record {
      opcodes = l.opcodes ++ one.0;
      passed = one.1;
      given =
          ap (λ z. z ++ more) l.given ∙ ap (λ z. rows_from head (start head.stmt) l.opcodes ++ z) (sym one.2)
          ∙ ap (λ z. rows_from head (start head.stmt) l.opcodes ++ rows_from head z one.0) l.passed.registers
          ∙ sym (rows_append head (start head.stmt) l.opcodes one.0);
    }

-- all rows of a program
pub listed_all : (head : Head) (program : List ℕ) (a b : Place) (rows : List Row) → Listed head program a rows → PassesOn head program a b [] → b.at ≡ length program → b.ended ≡ true → GivesRows head program rows
listed_all head program a b rows l f all ended =
    let m = listed_on head program a b rows [] l f in
    let same : rows ++ [] ≡ rows = append-nil rows in
    let whole : take b.at program ≡ program = take_all b.at program (omega arith) in
    record {
      opcodes = m.opcodes;
      spelled = subst (λ (z : List ℕ). Joined (SpellsOpcode head.opcode_base) m.opcodes z) whole m.passed.spelled;
      sound = m.passed.sound;
      given = sym same ∙ m.given;
      ended = ap (ends true) (sym same ∙ m.given) ∙ sym m.passed.ended ∙ ended;
    }

-- more rows than a program may have
pub listed_long : (head : Head) (program : List ℕ) (a b : Place) (rows : List Row) (row : Row) → Listed head program a rows → PassesOn head program a b (row ∷ []) → row_limit ≤ length rows → IsLong head program
listed_long head program a b rows row l f many =
    let m = listed_on head program a b rows (row ∷ []) l f in
    let size : length (rows_from head (start head.stmt) m.opcodes) ≡ length rows + 1 = ap length (sym m.given) ∙ length-append rows (row ∷ []) in
    (m.opcodes, take b.at program, drop b.at program, m.passed.spelled, sym (take-append-drop b.at program), omega arith)
