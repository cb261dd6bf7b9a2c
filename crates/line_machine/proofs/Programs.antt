-- Bytes that are a program have none of a program's faults.
use Rattle.std.proofs.Common.{◌≡◌, ◌≤◌, ◌<◌, ◌+◌, ℕ, List, [], ◌∷◌, ◌++◌, length, true, false, ◌∙◌, sym, ap, refl, subst, arith, inl, inr}
use Rattle.std.proofs.lemmas.List.{append_cancel_left, append-nil, length-append}
use Rattle.spelled.specs.Spelled.{Joined, FaultUntilEnd}
use Rattle.spelled.proofs.Joins.{joined_agree, joined_filled}
use Rattle.dw_base.specs.declared.fault.Kind.{Kind}
use Rattle.dw_base.specs.declared.fault.Kind.TheVariants.{Short, LebWide, LineOp, Limit, OpenSequence, LineValue}
use Rattle.line_machine.specs.declared.head.Head.{Head}
use Rattle.line_machine.specs.declared.opcode.Opcode.{Opcode}
use Rattle.line_machine.specs.declared.registers.Registers.{Registers}
use Rattle.line_machine.specs.declared.registers.Row.{Row}
use Rattle.line_machine.specs.Opcodes.{SpellsOpcode, IsBase}
use Rattle.line_machine.specs.Rows.{start, after, rows_from, registers_after, IsSound, AreSound, ends, GivesRows}
use Rattle.line_machine.specs.Heads.{IsHead, program_of}
use Rattle.line_machine.specs.Faults.{FaultOpcode, IsOutOfRange, IsOpen, IsLong, ProgramFault, row_limit}
use Rattle.dw_base.specs.Refusals.{IsFaulty}
use Rattle.line_machine.proofs.Unique.{opcodes_unique, opcodes_filled}
use Rattle.line_machine.proofs.Sound.{opcodes_whole}
use Rattle.line_machine.proofs.Passing.{rows_append}

no_bytes : (l : List ℕ) → length l ≡ 0 → l ≡ []
no_bytes [] none = refl
no_bytes (byte ∷ l) none = absurd (omega arith)

no_opcode : (base : ℕ) (kind : Kind) (at : ℕ) → FaultOpcode base kind at [] → ⊥
no_opcode base Short at (inl f) = absurd (omega (arith, f.0))
no_opcode base Short at (inr f) = absurd (omega (arith, f.0))
no_opcode base LebWide at (inl f) = absurd (omega (arith, f.0))
no_opcode base LebWide at (inr f) = absurd (omega (arith, f.0))
no_opcode base LineOp at f = absurd (omega (arith, f.0))
no_opcode base _ at f = absurd f

-- the values of an opcode among others are in range
sound_at : (head : Head) (r : Registers) (before : List Opcode) (op : Opcode) (more : List Opcode) → AreSound head r (before ++ op ∷ more) → IsSound head op (registers_after head r before)
sound_at head r [] op more s = s.0
sound_at head r (x ∷ before) op more s = sound_at head (after head x r) before op more s.1

module _ (head : Head) (is : IsBase head.opcode_base) where
  none_left : (more : List Opcode) (tail : List ℕ) → Joined (SpellsOpcode head.opcode_base) more tail → length tail ≡ 0 → more ≡ []
  none_left [] tail j none = refl
  none_left (op ∷ more) tail j none =
      let some : 0 < length tail = joined_filled (SpellsOpcode head.opcode_base) (opcodes_filled head.opcode_base) op more tail j in
      absurd (omega arith)

  -- opcodes of a program go on after those of its front
  pub rest_of : (opcodes before : List Opcode) (program front rest : List ℕ) → Joined (SpellsOpcode head.opcode_base) opcodes program → Joined (SpellsOpcode head.opcode_base) before front → program ≡ front ++ rest → (more : List Opcode) × (opcodes ≡ before ++ more) × Joined (SpellsOpcode head.opcode_base) more rest
  rest_of opcodes before program front rest j k e =
      elim (joined_agree (SpellsOpcode head.opcode_base) (opcodes_unique head.opcode_base is) before opcodes front program rest [] k j (sym e ∙ sym (append-nil program))) [
        | inl o ↦
            let same : o.tail ≡ rest = append_cancel_left front o.tail rest (sym o.bytes ∙ e) in
            (o.more, o.values, subst (λ (z : List ℕ). Joined (SpellsOpcode head.opcode_base) o.more z) same o.spelled)
        | inr o ↦
            let a : length front ≡ length program + length o.tail = ap length o.bytes ∙ length-append program o.tail in
            let b : length program ≡ length front + length rest = ap length e ∙ length-append front rest in
            let none : length o.tail ≡ 0 = omega arith in
            let left : length rest ≡ 0 = omega arith in
            let values : before ≡ opcodes = o.values ∙ ap (λ (z : List Opcode). opcodes ++ z) (none_left o.more o.tail o.spelled none) ∙ append-nil opcodes in
            ([], sym values ∙ sym (append-nil before), no_bytes rest left)
      ]

  first_whole : (more : List Opcode) (kind : Kind) (at : ℕ) (rest : List ℕ) → Joined (SpellsOpcode head.opcode_base) more rest → FaultOpcode head.opcode_base kind at rest → ⊥
  first_whole [] kind at rest j f = no_opcode head.opcode_base kind at (subst (λ (z : List ℕ). FaultOpcode head.opcode_base kind at z) j f)
  first_whole (op ∷ more) kind at rest (a, x, s, j, e) f =
      opcodes_whole head.opcode_base is op kind at a x s (subst (λ (z : List ℕ). FaultOpcode head.opcode_base kind at z) e f)

  no_fault : (opcodes : List Opcode) (program : List ℕ) (kind : Kind) (at : ℕ) → Joined (SpellsOpcode head.opcode_base) opcodes program → FaultUntilEnd (SpellsOpcode head.opcode_base) (FaultOpcode head.opcode_base) kind at program → ⊥
  no_fault opcodes program kind at j f =
      let left = rest_of opcodes f.before program f.front f.rest j f.spelled f.whole in
      first_whole left.0 kind f.inner f.rest left.2 f.fault

  in_range : (opcodes before more : List Opcode) (op : Opcode) (body rest : List ℕ) → AreSound head (start head.stmt) opcodes → opcodes ≡ before ++ more → Joined (SpellsOpcode head.opcode_base) more (body ++ rest) → SpellsOpcode head.opcode_base op body → IsSound head op (registers_after head (start head.stmt) before)
  in_range opcodes before [] op body rest sound e j s =
      let none : length (body ++ rest) ≡ 0 = ap length j in
      let some : 0 < length body = opcodes_filled head.opcode_base op body s in
      let sum : length (body ++ rest) ≡ length body + length rest = length-append body rest in
      absurd (omega arith)
  in_range opcodes before (other ∷ more) op body rest sound e (a, x, t, j, f) s =
      let one = opcodes_unique head.opcode_base is other op a body x rest t s (sym f) in
      let all : AreSound head (start head.stmt) (before ++ other ∷ more) = subst (λ (z : List Opcode). AreSound head (start head.stmt) z) e sound in
      subst (λ (z : Opcode). IsSound head z (registers_after head (start head.stmt) before)) one.1 (sound_at head (start head.stmt) before other more all)

  no_value : (opcodes : List Opcode) (program : List ℕ) (at : ℕ) → Joined (SpellsOpcode head.opcode_base) opcodes program → AreSound head (start head.stmt) opcodes → IsOutOfRange head at program → ⊥
  no_value opcodes program at j sound (before, op, s, out) =
      let left = rest_of opcodes before program s.front (s.body ++ s.rest) j s.spelled s.whole in
      out (in_range opcodes before left.0 op s.body s.rest sound left.1 left.2 s.here)

  not_open : (opcodes : List Opcode) (program : List ℕ) → Joined (SpellsOpcode head.opcode_base) opcodes program → ends true (rows_from head (start head.stmt) opcodes) ≡ true → IsOpen head program → ⊥
  not_open opcodes program j ended (others, k, unclosed) =
      let left = rest_of opcodes others program program [] j k (sym (append-nil program)) in
      let none : left.0 ≡ [] = none_left left.0 [] left.2 refl in
      let same : opcodes ≡ others = left.1 ∙ ap (λ (z : List Opcode). others ++ z) none ∙ append-nil others in
      let clash : true ≡ false = sym ended ∙ ap (λ z. ends true (rows_from head (start head.stmt) z)) same ∙ unclosed in
      absurd (cc)

  not_long : (opcodes : List Opcode) (program : List ℕ) → Joined (SpellsOpcode head.opcode_base) opcodes program → length (rows_from head (start head.stmt) opcodes) ≤ row_limit → IsLong head program → ⊥
  not_long opcodes program j few (others, front, rest, k, e, long) =
      let left = rest_of opcodes others program front rest j k e in
      let size : length (rows_from head (start head.stmt) opcodes) ≡ length (rows_from head (start head.stmt) others) + length (rows_from head (registers_after head (start head.stmt) others) left.0) =
      ap (λ z. length (rows_from head (start head.stmt) z)) left.1 ∙ ap length (rows_append head (start head.stmt) others left.0) ∙ length-append (rows_from head (start head.stmt) others) (rows_from head (registers_after head (start head.stmt) others) left.0)
      in
      absurd (omega arith)

-- bytes that give rows, of which there aren't too many, have no fault
pub program_whole : (section : List ℕ) (head : Head) (rows : List Row) → IsBase head.opcode_base → GivesRows head (program_of section head) rows → length rows ≤ row_limit → ¬ IsFaulty (ProgramFault section head)
program_whole section head rows is gives few (OpenSequence, place, f) =
    not_open head is gives.opcodes (program_of section head) gives.spelled (ap (ends true) (sym gives.given) ∙ gives.ended) f.1
program_whole section head rows is gives few (Limit, place, f) =
    not_long head is gives.opcodes (program_of section head) gives.spelled (subst (λ (z : List Row). length z ≤ row_limit) gives.given few) f.1
program_whole section head rows is gives few (LineValue, place, f) = no_value head is gives.opcodes (program_of section head) f.0 gives.spelled gives.sound f.2
program_whole section head rows is gives few (kind, place, f) = no_fault head is gives.opcodes (program_of section head) kind f.0 gives.spelled f.2

-- the head of a section has an opcode base that is read
pub based_of : (section : List ℕ) (head : Head) → IsHead section head → IsBase head.opcode_base
based_of section head h = subst (λ (z : Head). IsBase z.opcode_base) (sym h.fields) h.rules.numbers.based

-- bytes give one list of rows
pub one_reading : (head : Head) (bytes : List ℕ) (rows more : List Row) → IsBase head.opcode_base → GivesRows head bytes rows → GivesRows head bytes more → rows ≡ more
one_reading head bytes rows more is p q =
    let left = rest_of head is p.opcodes q.opcodes bytes bytes [] p.spelled q.spelled (sym (append-nil bytes)) in
    let none : left.0 ≡ [] = none_left head is left.0 [] left.2 refl in
    let same : p.opcodes ≡ q.opcodes = left.1 ∙ ap (λ (z : List Opcode). q.opcodes ++ z) none ∙ append-nil q.opcodes in
    p.given ∙ ap (rows_from head (start head.stmt)) same ∙ sym q.given
