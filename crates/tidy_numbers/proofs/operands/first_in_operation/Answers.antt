use Rattle.std.proofs.Common.{◌≡◌, ◌∙◌, sym, ap}
use Rattle.std.specs.Prelude.{Some}
use Rattle.expr_ops.specs.Table.{operands_of}
use Rattle.expr_ops.specs.declared.table.Operands.{Operands}
use Rattle.expr_ops.specs.declared.table.Operands.TheVariants as operands
use Rattle.tidy_numbers.proofs.OperandPlaces.{one_there, two_there, typed_there, one_found, two_found, typed_found}
use Rattle.tidy_numbers.proofs.operands.first_in_operation.Goals as goal

pub first_of_one-requires-clause-number : goal.first_of_one-requires-clause-number
first_of_one-requires-clause-number c =
    let known : operands_of c.args.op.now.code ≡ Some (operands.One c.in-One.shape) = sym c.in_ok-operands_of.ensures ∙ ap (λ (k : Operands). Some k) c.in-One.is in
    one_there c.args.bytes.now c.args.op.now c.requires.0 c.requires.1 c.in-One.shape known

pub first_of_two-requires-clause-two : goal.first_of_two-requires-clause-two
first_of_two-requires-clause-two c =
    let known : operands_of c.args.op.now.code ≡ Some (operands.Two c.in-Two.first c.in-Two.second) = sym c.in_ok-operands_of.ensures ∙ ap (λ (k : Operands). Some k) c.in-Two.is in
    two_there c.args.bytes.now c.args.op.now c.requires.0 c.requires.1 c.in-Two.first c.in-Two.second known

pub first_of_two-requires-in-Typed-clause-two : goal.first_of_two-requires-in-Typed-clause-two
first_of_two-requires-in-Typed-clause-two c =
    let known : operands_of c.args.op.now.code ≡ Some (operands.Typed c.in-Typed.first) = sym c.in_ok-operands_of.ensures ∙ ap (λ (k : Operands). Some k) c.in-Typed.is in
    typed_there c.args.bytes.now c.args.op.now c.requires.0 c.requires.1 c.in-Typed.first known

pub returns-in-One : goal.returns-in-One
returns-in-One c =
    let known : operands_of c.args.op.now.code ≡ Some (operands.One c.in-One.shape) = sym c.in_ok-operands_of.ensures ∙ ap (λ (k : Operands). Some k) c.in-One.is in
    one_found c.args.owned c.args.bytes.now c.args.op.now c.has_slot_in-is_slot.result c.has_slot_in-is_slot.ensures c.first_of_one.result c.in-One.shape known c.first_of_one.ensures

pub returns-in-Two : goal.returns-in-Two
returns-in-Two c =
    let known : operands_of c.args.op.now.code ≡ Some (operands.Two c.in-Two.first c.in-Two.second) = sym c.in_ok-operands_of.ensures ∙ ap (λ (k : Operands). Some k) c.in-Two.is in
    two_found c.args.owned c.args.bytes.now c.args.op.now c.has_slot_in-is_slot.result c.has_slot_in-is_slot.ensures c.first_of_two.result c.in-Two.first c.in-Two.second known c.first_of_two.ensures

pub returns-in-Typed : goal.returns-in-Typed
returns-in-Typed c =
    let known : operands_of c.args.op.now.code ≡ Some (operands.Typed c.in-Typed.first) = sym c.in_ok-operands_of.ensures ∙ ap (λ (k : Operands). Some k) c.in-Typed.is in
    typed_found c.args.owned c.args.bytes.now c.args.op.now c.has_slot_in-is_slot.result c.has_slot_in-is_slot.ensures c.first_of_two-in-Typed.result c.in-Typed.first known c.first_of_two-in-Typed.ensures
