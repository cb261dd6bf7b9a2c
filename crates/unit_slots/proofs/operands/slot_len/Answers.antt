use Rattle.std.proofs.Common.{◌≡◌, ◌∙◌, sym, ap, refl, arith}
use Rattle.std.specs.Prelude.{Some}
use Rattle.expr_ops.specs.Table.{operands_of}
use Rattle.expr_ops.specs.declared.table.Operands.{Operands}
use Rattle.expr_ops.specs.declared.table.Operands.TheVariants as operands
use Rattle.unit_slots.proofs.OperandSlots.{call_two, call_four, call_size, one_begins, one_room, two_begins, two_room, typed_number, typed_begins, last_begins, typed_room, typed_size, none_unknown, nothing_unknown}
use Rattle.unit_slots.proofs.operands.slot_len.Goals as goal

pub returns-then-bytes-at-clause-room : goal.returns-then-bytes-at-clause-room
returns-then-bytes-at-clause-room c = λ size lead.
    let is = call_two c.args.bytes.now c.args.op.now size lead c.if-op.true c.if-bytes-at.true in
    omega (arith, is)

pub returns-else-bytes-at-clause-size : goal.returns-else-bytes-at-clause-size
returns-else-bytes-at-clause-size c =
    call_size c.args.bytes.now c.args.op.now c.requires.stands.0 c.requires.stands.1 4 c.if-op.true c.if-bytes-at.false refl

pub returns-else-bytes-at-clause-room : goal.returns-else-bytes-at-clause-room
returns-else-bytes-at-clause-room c = λ size lead.
    let is = call_four c.args.bytes.now c.args.op.now size lead c.if-op.true c.if-bytes-at.false in
    omega (arith, is)

pub number_len-requires-clause-number : goal.number_len-requires-clause-number
number_len-requires-clause-number c =
    let known : operands_of c.args.op.now.code ≡ Some (operands.One c.in-Some-One.field-0-0) = sym c.operands_of.ensures ∙ c.in-Some-One.is ∙ ap (λ (k : Operands). Some k) c.in-Some-One.field-0-is in
    one_begins c.args.bytes.now c.args.op.now c.requires.stands.0 c.requires.slot c.if-op.false c.requires.stands.1 c.in-Some-One.field-0-0 known

pub returns-in-Some-One-clause-room : goal.returns-in-Some-One-clause-room
returns-in-Some-One-clause-room c = λ size lead.
    let known : operands_of c.args.op.now.code ≡ Some (operands.One c.in-Some-One.field-0-0) = sym c.operands_of.ensures ∙ c.in-Some-One.is ∙ ap (λ (k : Operands). Some k) c.in-Some-One.field-0-is in
    one_room c.args.bytes.now c.args.op.now size c.requires.slot c.if-op.false lead c.in-Some-One.field-0-0 known c.number_len.result c.number_len.ensures.size

pub number_len-requires-in-Some-Two-clause-number : goal.number_len-requires-in-Some-Two-clause-number
number_len-requires-in-Some-Two-clause-number c =
    let known : operands_of c.args.op.now.code ≡ Some (operands.Two c.in-Some-Two.field-0-0 c.in-Some-Two.field-0-1) = sym c.operands_of.ensures ∙ c.in-Some-Two.is ∙ ap (λ (k : Operands). Some k) c.in-Some-Two.field-0-is in
    two_begins c.args.bytes.now c.args.op.now c.requires.stands.0 c.requires.slot c.if-op.false c.requires.stands.1 c.in-Some-Two.field-0-0 c.in-Some-Two.field-0-1 known

pub returns-in-Some-Two-clause-room : goal.returns-in-Some-Two-clause-room
returns-in-Some-Two-clause-room c = λ size lead.
    let known : operands_of c.args.op.now.code ≡ Some (operands.Two c.in-Some-Two.field-0-0 c.in-Some-Two.field-0-1) = sym c.operands_of.ensures ∙ c.in-Some-Two.is ∙ ap (λ (k : Operands). Some k) c.in-Some-Two.field-0-is in
    two_room c.args.bytes.now c.args.op.now size c.requires.slot c.if-op.false lead c.in-Some-Two.field-0-0 c.in-Some-Two.field-0-1 known c.number_len-in-Some-Two.result c.number_len-in-Some-Two.ensures.size

pub operand_end-requires-clause-number : goal.operand_end-requires-clause-number
operand_end-requires-clause-number c =
    let known : operands_of c.args.op.now.code ≡ Some (operands.Typed c.in-Some-Typed.first) = sym c.operands_of.ensures ∙ c.in-Some-Typed.is ∙ ap (λ (k : Operands). Some k) c.in-Some-Typed.field-0-is in
    typed_number c.args.bytes.now c.args.op.now c.requires.stands.0 c.requires.slot c.if-op.false c.in-Some-Typed.first known

pub operand_end-requires-clause-there : goal.operand_end-requires-clause-there
operand_end-requires-clause-there c =
    let known : operands_of c.args.op.now.code ≡ Some (operands.Typed c.in-Some-Typed.first) = sym c.operands_of.ensures ∙ c.in-Some-Typed.is ∙ ap (λ (k : Operands). Some k) c.in-Some-Typed.field-0-is in
    typed_begins c.args.bytes.now c.args.op.now c.requires.stands.0 c.requires.slot c.if-op.false c.requires.stands.1 c.in-Some-Typed.first known

pub number_len-requires-in-Some-Typed-clause-number : goal.number_len-requires-in-Some-Typed-clause-number
number_len-requires-in-Some-Typed-clause-number c =
    let known : operands_of c.args.op.now.code ≡ Some (operands.Typed c.in-Some-Typed.first) = sym c.operands_of.ensures ∙ c.in-Some-Typed.is ∙ ap (λ (k : Operands). Some k) c.in-Some-Typed.field-0-is in
    last_begins c.args.bytes.now c.args.op.now c.requires.stands.0 c.requires.slot c.if-op.false c.requires.stands.1 c.in-Some-Typed.first c.operand_end.result known c.operand_end.ensures

pub returns-in-Some-Typed-clause-size : goal.returns-in-Some-Typed-clause-size
returns-in-Some-Typed-clause-size c =
    let known : operands_of c.args.op.now.code ≡ Some (operands.Typed c.in-Some-Typed.first) = sym c.operands_of.ensures ∙ c.in-Some-Typed.is ∙ ap (λ (k : Operands). Some k) c.in-Some-Typed.field-0-is in
    typed_size c.args.bytes.now c.args.op.now c.requires.stands.0 c.requires.slot c.if-op.false c.in-Some-Typed.first c.operand_end.result c.number_len-in-Some-Typed.result known c.operand_end.ensures c.number_len-in-Some-Typed.ensures.size

pub returns-in-Some-Typed-clause-room : goal.returns-in-Some-Typed-clause-room
returns-in-Some-Typed-clause-room c = λ size lead.
    let known : operands_of c.args.op.now.code ≡ Some (operands.Typed c.in-Some-Typed.first) = sym c.operands_of.ensures ∙ c.in-Some-Typed.is ∙ ap (λ (k : Operands). Some k) c.in-Some-Typed.field-0-is in
    typed_room c.args.bytes.now c.args.op.now size c.requires.slot c.if-op.false lead c.in-Some-Typed.first c.operand_end.result known c.operand_end.ensures c.number_len-in-Some-Typed.result c.number_len-in-Some-Typed.ensures.size

pub unreachable-requires : goal.unreachable-requires
unreachable-requires c =
    let known : operands_of c.args.op.now.code ≡ Some operands.Nothing = sym c.operands_of.ensures ∙ c.in-Some-Nothing.is ∙ ap (λ (k : Operands). Some k) c.in-Some-Nothing.field-0-is in
    nothing_unknown c.args.bytes.now c.args.op.now c.requires.stands.0 c.requires.slot c.if-op.false known

pub unreachable-requires-in-None : goal.unreachable-requires-in-None
unreachable-requires-in-None c = none_unknown c.args.bytes.now c.args.op.now c.requires.stands.0 c.requires.slot c.if-op.false (sym c.operands_of.ensures ∙ c.in-None.is)
