-- Passing opcodes.
use Rattle.std.proofs.Common.{◌≡◌, ◌≤◌, ◌+◌, ◌-◌, ℕ, List, [], ◌∷◌, ◌++◌, length, take, drop, Bool, true, false, ◌∙◌, sym, ap, refl, subst, arith}
use Rattle.std.proofs.lemmas.List.{take-append-drop, length-take-le, length-drop, append_assoc, append-nil, take_all}
use Rattle.std.specs.Prelude.{Option, Some, None, ℤ, pos}
use Rattle.std.proofs.lemmas.Int.{ints}
use Rattle.spelled.specs.Spelled.{Joined, FaultUntilEnd}
use Rattle.spelled.proofs.Joins.{joined_push}
use Rattle.spelled.proofs.Parts.{take_sum}
use Rattle.dw_base.specs.declared.fault.Fault.{Fault}
use Rattle.dw_base.specs.declared.fault.Kind.{Kind}
use Rattle.dw_base.specs.declared.fault.Kind.TheVariants.{Limit, OpenSequence, LineValue}
use Rattle.line_machine.specs.declared.head.Head.{Head}
use Rattle.line_machine.specs.declared.opcode.Opcode.{Opcode}
use Rattle.line_machine.specs.declared.place.Place.{Place}
use Rattle.line_machine.specs.declared.registers.Registers.{Registers}
use Rattle.line_machine.specs.declared.registers.Row.{Row}
use Rattle.line_machine.specs.Opcodes.{SpellsOpcode}
use Rattle.line_machine.specs.Rows.{start, after, row_of, rows_in, with_row, rows_from, registers_after, IsSound, AreSound, ends}
use Rattle.line_machine.specs.Faults.{FaultOpcode, FaultWithin, OpcodesFault, ProgramFault, IsOutOfRange, IsOpen}
use Rattle.dw_base.specs.Refusals.{IsFaultOf}
use Rattle.line_machine.specs.Heads.{IsHead, program_of}
use Rattle.line_machine.specs.Cursors.{Passed, PassesOn, IsNear, Stands, FaultHere, FaultAhead, NextFault, at_start}

-- registers, rows and ranges of opcodes in two parts
pub registers_append : (head : Head) (r : Registers) (xs ys : List Opcode) → registers_after head r (xs ++ ys) ≡ registers_after head (registers_after head r xs) ys
registers_append head r [] ys = refl
registers_append head r (x ∷ xs) ys = registers_append head (after head x r) xs ys

pub with_row_append : (row : Option Row) (xs ys : List Row) → with_row row (xs ++ ys) ≡ with_row row xs ++ ys
with_row_append None xs ys = refl
with_row_append (Some row) xs ys = refl

pub rows_append : (head : Head) (r : Registers) (xs ys : List Opcode) → rows_from head r (xs ++ ys) ≡ rows_from head r xs ++ rows_from head (registers_after head r xs) ys
rows_append head r [] ys = refl
rows_append head r (x ∷ xs) ys =
    ap (with_row (row_of head x r)) (rows_append head (after head x r) xs ys) ∙ with_row_append (row_of head x r) (rows_from head (after head x r) xs) (rows_from head (registers_after head (after head x r) xs) ys)

pub sound_append : (head : Head) (r : Registers) (xs ys : List Opcode) → AreSound head r xs → AreSound head (registers_after head r xs) ys → AreSound head r (xs ++ ys)
sound_append head r [] ys a b = b
sound_append head r (x ∷ xs) ys (s, a) b = (s, sound_append head (after head x r) xs ys a b)

pub ends_append : (before : Bool) (xs ys : List Row) → ends before (xs ++ ys) ≡ ends (ends before xs) ys
ends_append before [] ys = refl
ends_append before (x ∷ xs) ys = ends_append x.end xs ys

pub rows_one : (row : Option Row) → with_row row [] ≡ rows_in row
rows_one None = refl
rows_one (Some row) = refl

-- whether the rows end after one opcode more
abbrev pub ended_by : Bool → Option Row → Bool
ended_by before None = before
ended_by before (Some row) = row.end

ended_one : (before : Bool) (row : Option Row) → ends before (rows_in row) ≡ ended_by before row
ended_one before None = refl
ended_one before (Some row) = refl

-- one opcode more
module _ (head : Head) (program : List ℕ) (place : Place) (op : Opcode) (size : ℕ) (row : Option Row) (r : Registers) (ended : Bool) (inside : size ≤ length (drop place.at program)) (spelled : SpellsOpcode head.opcode_base op (take size (drop place.at program))) (sound : IsSound head op place.registers) (now : r ≡ after head op place.registers) (appended : row ≡ row_of head op place.registers) (closed : ended ≡ ended_by place.ended row) where
  next : Place
  next = record { at = place.at + size; registers = r; ended = ended }

  one_row : rows_from head place.registers (op ∷ []) ≡ rows_in row
  one_row = rows_one (row_of head op place.registers) ∙ ap rows_in (sym appended)

  one_more : (before : List Opcode) → Passed head program before place → (more : List Opcode) × Passed head program (before ++ more) (record { at = place.at + size; registers = r; ended = ended }) × (rows_from head place.registers more ≡ rows_in row)
  one_more before p =
      let left : length (drop place.at program) ≡ length program - place.at = length-drop place.at program in
      let within : place.at ≤ length program = p.inside in
      let from = start head.stmt in
      let one : AreSound head (registers_after head from before) (op ∷ []) = subst (λ (z : Registers). AreSound head z (op ∷ [])) p.registers (sound, tt) in
      let list : rows_from head from (before ++ op ∷ []) ≡ rows_from head from before ++ rows_in row =
      rows_append head from before (op ∷ []) ∙ ap (λ z. rows_from head from before ++ rows_from head z (op ∷ [])) (sym p.registers) ∙ ap (λ z. rows_from head from before ++ z) one_row
      in (
        op ∷ [],
        record {
          inside = omega arith;
          spelled = subst (λ (z : List ℕ). Joined (SpellsOpcode head.opcode_base) (before ++ op ∷ []) z) (sym (take_sum place.at size program)) (joined_push (SpellsOpcode head.opcode_base) before op (take place.at program) (take size (drop place.at program)) p.spelled spelled);
          sound = sound_append head from before (op ∷ []) p.sound one;
          registers = now ∙ ap (after head op) p.registers ∙ sym (registers_append head from before (op ∷ []));
          ended = closed ∙ sym (ended_one place.ended row) ∙ ap (λ z. ends z (rows_in row)) p.ended ∙ sym (ends_append true (rows_from head from before) (rows_in row)) ∙ ap (ends true) (sym list);
        },
        one_row,
      )

  pub passed_one : PassesOn head program place (record { at = place.at + size; registers = r; ended = ended }) (rows_in row)
  passed_one = record { from = one_more }

-- no opcode more
pub passed_none : (head : Head) (program : List ℕ) (place : Place) → PassesOn head program place place []
passed_none head program place = record {
  from = λ before p. ([], subst (λ (z : List Opcode). Passed head program z place) (sym (append-nil before)) p, refl);
}

two_parts : (head : Head) (program : List ℕ) (a b c : Place) (rows : List Row) → PassesOn head program a b [] → PassesOn head program b c rows → (before : List Opcode) → Passed head program before a → (more : List Opcode) × Passed head program (before ++ more) c × (rows_from head a.registers more ≡ rows)
two_parts head program a b c rows f g before p =
    let one = f.from before p in
    let two = g.from (before ++ one.0) one.1 in
    let registers : b.registers ≡ registers_after head a.registers one.0 =
    one.1.registers ∙ registers_append head (start head.stmt) before one.0 ∙ ap (λ z. registers_after head z one.0) (sym p.registers)
    in (
      one.0 ++ two.0,
      subst (λ (z : List Opcode). Passed head program z c) (append_assoc before one.0 two.0) two.1,
      rows_append head a.registers one.0 two.0 ∙ ap (λ z. z ++ rows_from head (registers_after head a.registers one.0) two.0) one.2
          ∙ ap (λ z. rows_from head z two.0) (sym registers) ∙ two.2,
    )

-- opcodes without a row, and then more
pub passed_on : (head : Head) (program : List ℕ) (a b c : Place) (rows : List Row) → PassesOn head program a b [] → PassesOn head program b c rows → PassesOn head program a c rows
passed_on head program a b c rows f g = record { from = two_parts head program a b c rows f g }

-- the same, where an opcode had no row
pub passed_more : (head : Head) (program : List ℕ) (a b c : Place) (row : Option Row) → PassesOn head program a b [] → PassesOn head program b c (rows_in row) → row ≡ None → PassesOn head program a c []
passed_more head program a b c row f g none =
    passed_on head program a b c [] f (subst (λ (z : Option Row). PassesOn head program b c (rows_in z)) none g)

-- the line after more opcodes
pub near_more : (count more : ℕ) (line : ℤ) → IsNear count line → count ≤ more → IsNear more line
near_more count more line near le = record { above = omega (arith, ints); below = omega (arith, ints) }

pub near_start : (head : Head) (place : Place) → place ≡ at_start head → IsNear place.at place.registers.line
near_start head place e =
    let here : IsNear 0 (pos 1) = record { above = omega (arith, ints); below = omega (arith, ints) } in
    subst (λ (z : Place). IsNear z.at z.registers.line) (sym e) here

pub start_passed : (head : Head) (program : List ℕ) → Passed head program [] (at_start head)
start_passed head program = record { inside = omega arith; spelled = refl; sound = tt; registers = refl; ended = refl }

pub stands_at_start : (section : List ℕ) (head : Head) (origin : ℕ) (place : Place) → place ≡ at_start head → IsHead section head → Stands section (record { head = head; origin = origin; place = place; stopped = None })
stands_at_start section head origin place e h = record {
  head = h;
  opcodes = [];
  passed = subst (λ (z : Place). Passed head (program_of section head) [] z) (sym e) (start_passed head (program_of section head));
  faulty = tt;
}

here_of : (head : Head) (program : List ℕ) (place : Place) (kind : Kind) (inner at : ℕ) → at ≡ place.at + inner → FaultOpcode head.opcode_base kind inner (drop place.at program) → FaultHere head program place kind at
here_of head program place LineValue inner at e h = absurd h
here_of head program place kind inner at e h = (inner, h, e)

-- the bytes from a place on have a fault of an opcode
pub opcode_here : (head : Head) (program : List ℕ) (place : Place) (f g : Fault) → g.kind ≡ f.kind → g.place ≡ place.at + f.place → FaultOpcode head.opcode_base f.kind f.place (drop place.at program) → FaultHere head program place g.kind g.place
opcode_here head program place f g k p h =
    subst (λ (z : Kind). FaultHere head program place z g.place) (sym k) (here_of head program place f.kind f.place g.place p h)

pub opcode_fault : (head : Head) (program : List ℕ) (place : Place) (kind : Kind) (inner : ℕ) (before : List Opcode) → Passed head program before place → FaultOpcode head.opcode_base kind inner (drop place.at program) → FaultUntilEnd (SpellsOpcode head.opcode_base) (FaultOpcode head.opcode_base) kind (place.at + inner) program
opcode_fault head program place kind inner before p f =
    let size : length (take place.at program) ≡ place.at = length-take-le place.at program p.inside in
    record {
      before = before;
      front = take place.at program;
      rest = drop place.at program;
      inner = inner;
      spelled = p.spelled;
      fault = f;
      whole = sym (take-append-drop place.at program);
      place = omega arith;
    }

-- the next opcode is out of range
pub value_fault : (head : Head) (program : List ℕ) (place : Place) (op : Opcode) (size : ℕ) (before : List Opcode) → Passed head program before place → SpellsOpcode head.opcode_base op (take size (drop place.at program)) → (¬ IsSound head op place.registers) → IsOutOfRange head place.at program
value_fault head program place op size before p s out =
    let front : length (take place.at program) ≡ place.at = length-take-le place.at program p.inside in (
      before,
      op,
      record {
        front = take place.at program;
        body = take size (drop place.at program);
        rest = drop size (drop place.at program);
        place = sym front;
        spelled = p.spelled;
        here = s;
        whole = sym (take-append-drop place.at program) ∙ ap (λ z. take place.at program ++ z) (sym (take-append-drop size (drop place.at program)));
      },
      subst (λ (z : Registers). ¬ IsSound head op z) p.registers out,
    )

-- all is passed, and the last row doesn't end a sequence
pub open_program : (head : Head) (program : List ℕ) (a b : Place) (before : List Opcode) → Passed head program before a → PassesOn head program a b [] → b.at ≡ length program → b.ended ≡ false → IsOpen head program
open_program head program a b before p f all unclosed =
    let one = f.from before p in
    let whole : take b.at program ≡ program = ap (λ k. take k program) all ∙ take_all (length program) program (omega arith) in (
      before ++ one.0,
      subst (λ (z : List ℕ). Joined (SpellsOpcode head.opcode_base) (before ++ one.0) z) whole one.1.spelled,
      sym one.1.ended ∙ unclosed,
    )

-- a fault before the next row is one of the program
here_within : (head : Head) (program : List ℕ) (place : Place) (kind : Kind) (at : ℕ) (before : List Opcode) → Passed head program before place → FaultHere head program place kind at → FaultWithin head kind at program
here_within head program place LineValue at before p (op, size, s, out, e) =
    subst (λ (z : ℕ). IsOutOfRange head z program) (sym e) (value_fault head program place op size before p s out)
here_within head program place kind at before p f =
    subst (λ (z : ℕ). FaultUntilEnd (SpellsOpcode head.opcode_base) (FaultOpcode head.opcode_base) kind z program) (sym f.2) (opcode_fault head program place kind f.0 before p f.1)

ahead_within : (head : Head) (program : List ℕ) (old : Place) (kind : Kind) (at : ℕ) (before : List Opcode) → Passed head program before old → FaultAhead head program old kind at → FaultWithin head kind at program
ahead_within head program old kind at before p f =
    let one = f.passes.from before p in
    here_within head program f.place kind at (before ++ one.0) one.1 f.fault

next_within : (section : List ℕ) (head : Head) (old : Place) (kind : Kind) (at : ℕ) (before : List Opcode) → Passed head (program_of section head) before old → NextFault section head old kind at → OpcodesFault section head kind at
next_within section head old OpenSequence at before p f =
    (f.0, open_program head (program_of section head) old f.1.place before p f.1.passes f.1.at_end f.1.unclosed)
next_within section head old Limit at before p f = absurd f.2.fault.1
next_within section head old kind at before p (inner, e, f) = (inner, e, ahead_within head (program_of section head) old kind inner before p f)

opcodes_program : (section : List ℕ) (head : Head) (kind : Kind) (at : ℕ) → OpcodesFault section head kind at → ProgramFault section head kind at
opcodes_program section head Limit at f = absurd f
opcodes_program section head kind at f = f

pub next_fault : (section : List ℕ) (head : Head) (old : Place) (origin : ℕ) (f : Fault) (before : List Opcode) → Passed head (program_of section head) before old → IsFaultOf (NextFault section head old) origin f → IsFaultOf (OpcodesFault section head) origin f
next_fault section head old origin f before p (at, e, h) = (at, e, next_within section head old f.kind at before p h)

pub program_fault : (section : List ℕ) (head : Head) (origin : ℕ) (f : Fault) → IsFaultOf (OpcodesFault section head) origin f → IsFaultOf (ProgramFault section head) origin f
program_fault section head origin f (at, e, h) = (at, e, opcodes_program section head f.kind at h)

-- a fault ahead of a place
pub fault_ahead : (head : Head) (program : List ℕ) (old place : Place) (kind : Kind) (at : ℕ) → PassesOn head program old place [] → FaultHere head program place kind at → FaultAhead head program old kind at
fault_ahead head program old place kind at f h = record { place = place; passes = f; fault = h }

-- a fault in a program is one in the file
ahead_next : (section : List ℕ) (head : Head) (old : Place) (kind : Kind) (inner : ℕ) → FaultAhead head (program_of section head) old kind inner → NextFault section head old kind (head.program.at + inner)
ahead_next section head old OpenSequence inner f = absurd f.fault.1
ahead_next section head old kind inner f = (inner, refl, f)

pub shifted_fault : (section : List ℕ) (head : Head) (old : Place) (origin : ℕ) (f g : Fault) → g.kind ≡ f.kind → g.place ≡ origin + head.program.at + f.place → FaultAhead head (program_of section head) old f.kind f.place → IsFaultOf (NextFault section head old) origin g
shifted_fault section head old origin f g k p h =
    (head.program.at + f.place, omega arith, subst (λ (z : Kind). NextFault section head old z (head.program.at + f.place)) (sym k) (ahead_next section head old f.kind f.place h))

pub add_minus : (m n : ℕ) → m + n - m ≡ n
add_minus m n = omega arith

-- the cursor's place after a row
pub stands_on : (section : List ℕ) (head : Head) (origin : ℕ) (old new : Place) (stopped : Option Fault) (rows : List Row) → Stands section (record { head = head; origin = origin; place = old; stopped = stopped }) → PassesOn head (program_of section head) old new rows → Stands section (record { head = head; origin = origin; place = new; stopped = stopped })
stands_on section head origin old new stopped rows s f =
    let one = f.from s.opcodes s.passed in
    record { head = s.head; opcodes = s.opcodes ++ one.0; passed = one.1; faulty = s.faulty }

-- the cursor after a fault
pub stands_stopped : (section : List ℕ) (head : Head) (origin : ℕ) (old : Place) (stopped : Option Fault) (f : Fault) → Stands section (record { head = head; origin = origin; place = old; stopped = stopped }) → IsFaultOf (NextFault section head old) origin f → Stands section (record { head = head; origin = origin; place = old; stopped = Some f })
stands_stopped section head origin old stopped f s h = record {
  head = s.head;
  opcodes = s.opcodes;
  passed = s.passed;
  faulty = next_fault section head old origin f s.opcodes s.passed h;
}
