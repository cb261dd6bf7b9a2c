-- Heads by which opcodes act alike give the same rows.
use Rattle.std.proofs.Common.{◌≡◌, ◌∙◌, ℕ, List, [], ◌∷◌, sym, ap, refl, subst}
use Rattle.line_machine.specs.declared.head.Head.{Head}
use Rattle.line_machine.specs.declared.registers.Registers.{Registers}
use Rattle.line_machine.specs.declared.registers.Row.{Row}
use Rattle.line_machine.specs.declared.opcode.Opcode.{Opcode}
use Rattle.line_machine.specs.declared.opcode.Opcode.TheVariants.{Copy, AdvancePc, AdvanceLine, SetFile, SetColumn, NegateStmt, SetBasicBlock, ConstAddPc, FixedAdvancePc, SetPrologueEnd, SetEpilogueBegin, SetIsa, EndSequence, SetAddress, SetDiscriminator, Special}
use Rattle.line_machine.specs.Rows.{start, after, row_of, with_row, rows_from, IsSound, AreSound, GivesRows}

-- a head at another place
abbrev moved : Head → Head → Head
moved head other = record head { at = other.at; len = other.len; tables = other.tables; program = other.program }

after_moved : (head other : Head) (op : Opcode) (r : Registers) → after (moved head other) op r ≡ after head op r
after_moved head other Copy r = refl
after_moved head other (AdvancePc v) r = refl
after_moved head other (AdvanceLine v) r = refl
after_moved head other (SetFile v) r = refl
after_moved head other (SetColumn v) r = refl
after_moved head other NegateStmt r = refl
after_moved head other SetBasicBlock r = refl
after_moved head other ConstAddPc r = refl
after_moved head other (FixedAdvancePc v) r = refl
after_moved head other SetPrologueEnd r = refl
after_moved head other SetEpilogueBegin r = refl
after_moved head other (SetIsa v) r = refl
after_moved head other EndSequence r = refl
after_moved head other (SetAddress v) r = refl
after_moved head other (SetDiscriminator v) r = refl
after_moved head other (Special v) r = refl

row_moved : (head other : Head) (op : Opcode) (r : Registers) → row_of (moved head other) op r ≡ row_of head op r
row_moved head other Copy r = refl
row_moved head other (AdvancePc v) r = refl
row_moved head other (AdvanceLine v) r = refl
row_moved head other (SetFile v) r = refl
row_moved head other (SetColumn v) r = refl
row_moved head other NegateStmt r = refl
row_moved head other SetBasicBlock r = refl
row_moved head other ConstAddPc r = refl
row_moved head other (FixedAdvancePc v) r = refl
row_moved head other SetPrologueEnd r = refl
row_moved head other SetEpilogueBegin r = refl
row_moved head other (SetIsa v) r = refl
row_moved head other EndSequence r = refl
row_moved head other (SetAddress v) r = refl
row_moved head other (SetDiscriminator v) r = refl
row_moved head other (Special v) r = refl

sound_moved : (head other : Head) (op : Opcode) (r : Registers) → IsSound head op r → IsSound (moved head other) op r
sound_moved head other Copy r h = h
sound_moved head other (AdvancePc v) r h = h
sound_moved head other (AdvanceLine v) r h = h
sound_moved head other (SetFile v) r h = h
sound_moved head other (SetColumn v) r h = h
sound_moved head other NegateStmt r h = h
sound_moved head other SetBasicBlock r h = h
sound_moved head other ConstAddPc r h = h
sound_moved head other (FixedAdvancePc v) r h = h
sound_moved head other SetPrologueEnd r h = h
sound_moved head other SetEpilogueBegin r h = h
sound_moved head other (SetIsa v) r h = h
sound_moved head other EndSequence r h = h
sound_moved head other (SetAddress v) r h = h
sound_moved head other (SetDiscriminator v) r h = h
sound_moved head other (Special v) r h = h

rows_moved : (head other : Head) (r : Registers) (ops : List Opcode) → rows_from (moved head other) r ops ≡ rows_from head r ops
rows_moved head other r [] = refl
rows_moved head other r (op ∷ ops) =
    ap (λ z. with_row z (rows_from (moved head other) (after (moved head other) op r) ops)) (row_moved head other op r)
    ∙ ap (λ z. with_row (row_of head op r) (rows_from (moved head other) z ops)) (after_moved head other op r)
    ∙ ap (with_row (row_of head op r)) (rows_moved head other (after head op r) ops)

are_sound_moved : (head other : Head) (r : Registers) (ops : List Opcode) → AreSound head r ops → AreSound (moved head other) r ops
are_sound_moved head other r [] h = tt
are_sound_moved head other r (op ∷ ops) h =
    (sound_moved head other op r h.0, subst (λ (z : Registers). AreSound (moved head other) z ops) (sym (after_moved head other op r)) (are_sound_moved head other (after head op r) ops h.1))

gives_moved : (head other : Head) (bytes : List ℕ) (rows : List Row) → GivesRows head bytes rows → GivesRows (moved head other) bytes rows
gives_moved head other bytes rows g = record {
  opcodes = g.opcodes;
  spelled = g.spelled;
  sound = are_sound_moved head other (start head.stmt) g.opcodes g.sound;
  given = g.given ∙ sym (rows_moved head other (start head.stmt) g.opcodes);
  ended = g.ended;
}

-- The fields of a head by which opcodes act are those of another.
pub record ActsAs (head other : Head) : Type 0 where
  pub min : head.min ≡ other.min
  pub stmt : head.stmt ≡ other.stmt
  pub base : head.base ≡ other.base
  pub range : head.range ≡ other.range
  pub opcode_base : head.opcode_base ≡ other.opcode_base

moved_is : (head other : Head) → ActsAs head other → moved head other ≡ other
moved_is head other a =
    ap (λ z. record other { min = z; stmt = head.stmt; base = head.base; range = head.range; opcode_base = head.opcode_base }) a.min
    ∙ ap (λ z. record other { stmt = z; base = head.base; range = head.range; opcode_base = head.opcode_base }) a.stmt
    ∙ ap (λ z. record other { base = z; range = head.range; opcode_base = head.opcode_base }) a.base
    ∙ ap (λ z. record other { range = z; opcode_base = head.opcode_base }) a.range
    ∙ ap (λ z. record other { opcode_base = z }) a.opcode_base

-- the rows under a head are those under another whose fields are the same
pub gives_as : (head other : Head) (bytes : List ℕ) (rows : List Row) → ActsAs head other → GivesRows head bytes rows → GivesRows other bytes rows
gives_as head other bytes rows a g = subst (λ (z : Head). GivesRows z bytes rows) (moved_is head other a) (gives_moved head other bytes rows g)
