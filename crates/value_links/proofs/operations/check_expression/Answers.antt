use Rattle.std.proofs.Common.{◌≤◌, ◌+◌, ◌∙◌, ℕ, List, length, sym, ap, subst, arith}
use Rattle.std.specs.Prelude.{false}
use Rattle.std.proofs.lemmas.List.{take_all}
use Rattle.std.proofs.lemmas.List.Elements.{All-more}
use Rattle.expr_ops.specs.declared.op.Op.{Op}
use Rattle.entry_arena.specs.Arena.{Arena}
use Rattle.entry_read.specs.Units.{HeadAndForest}
use Rattle.value_links.specs.Reading.{Linkable}
use Rattle.value_links.specs.Links.{held_at}
use Rattle.value_links.specs.Parts.{HoldsParts}
use Rattle.value_links.specs.inside.Checks.{table_held, IsAstray}
use Rattle.value_links.proofs.TabledUnits.{some_with_table}
use Rattle.value_links.proofs.ExprLinks.{no_op, op_lead, AreNamed, has_own, expr_inside, reference_inside, expr_linked, reference_fault}
use Rattle.value_links.proofs.operations.check_expression.Goals as goal

pub bytes-bytes-requires : goal.bytes-bytes-requires
bytes-bytes-requires c =
    let lies = expr_inside (held_at c.args.parts.now.units.units.items c.args.unit) (table_held c.args.parts.now.units c.args.unit) (some_with_table c.args.parts.now.units c.requires.held c.args.unit c.requires.unit) c.args.number c.args.span c.requires.stands in
    subst (λ (z : Arena). c.args.span.at + c.args.span.len ≤ length z.section) (sym (c.forest.ensures ∙ ap (λ (z : HeadAndForest). z.forest) c.unit_of.ensures)) lies

pub reference_place-requires : goal.reference_place-requires
reference_place-requires c =
    let own = has_own c.args.parts.now.units.units.items c.args.parts.now.operations.items c.args.unit c.requires.unit c.requires.operations c.args.number c.args.span c.requires.stands c.unit_of.result.now c.forest.result.now c.bytes-bytes.result.now c.index.result.now c.of_value-ops.result.now c.unit_of.ensures c.forest.ensures c.bytes-bytes.ensures c.index.ensures c.of_value-ops.ensures in
    record { lead = op_lead c.bytes-bytes.result.now c.of_value-ops.result.now c.loop-op.op-index own.placed c.loop-op-test.true }

pub overflow_add-result : goal.overflow_add-result
overflow_add-result c =
    let own = has_own c.args.parts.now.units.units.items c.args.parts.now.operations.items c.args.unit c.requires.unit c.requires.operations c.args.number c.args.span c.requires.stands c.unit_of.result.now c.forest.result.now c.bytes-bytes.result.now c.index.result.now c.of_value-ops.result.now c.unit_of.ensures c.forest.ensures c.bytes-bytes.ensures c.index.ensures c.of_value-ops.ensures in
    let lies = expr_inside (held_at c.args.parts.now.units.units.items c.args.unit) (table_held c.args.parts.now.units c.args.unit) (some_with_table c.args.parts.now.units c.requires.held c.args.unit c.requires.unit) c.args.number c.args.span c.requires.stands in
    let inside = reference_inside c.references_inside.ensures c.of_value-ops.result.now c.bytes-bytes.result.now (held_at c.args.parts.now.units.units.items c.args.unit).forest.section c.args.span c.loop-op.op-index c.reference_place.result own.placed c.loop-op-test.true (c.is_astray.ensures.reference c.if-is_astray.true) c.reference_place.ensures own.bytes_are lies in
    omega (arith, inside, c.requires.room)

pub returns-then-is_astray-clause-fault : goal.returns-then-is_astray-clause-fault
returns-then-is_astray-clause-fault c = λ (file : List ℕ) (r : Linkable) (holds : HoldsParts file r c.args.parts.now).
    let own = has_own c.args.parts.now.units.units.items c.args.parts.now.operations.items c.args.unit c.requires.unit c.requires.operations c.args.number c.args.span c.requires.stands c.unit_of.result.now c.forest.result.now c.bytes-bytes.result.now c.index.result.now c.of_value-ops.result.now c.unit_of.ensures c.forest.ensures c.bytes-bytes.ensures c.index.ensures c.of_value-ops.ensures in
    reference_fault file r c.args.parts.now holds c.args.unit c.requires.unit c.args.number c.args.span c.bytes-bytes.result.now c.of_value-ops.result.now c.loop-op.op-index c.reference_place.result c.requires.stands own.bytes_are own.spelled own.placed c.loop-op-test.true c.reference_place.ensures (c.if-is_astray.ensures.astray file r holds)

pub returns-then-is_astray-clause-inside : goal.returns-then-is_astray-clause-inside
returns-then-is_astray-clause-inside c =
    let own = has_own c.args.parts.now.units.units.items c.args.parts.now.operations.items c.args.unit c.requires.unit c.requires.operations c.args.number c.args.span c.requires.stands c.unit_of.result.now c.forest.result.now c.bytes-bytes.result.now c.index.result.now c.of_value-ops.result.now c.unit_of.ensures c.forest.ensures c.bytes-bytes.ensures c.index.ensures c.of_value-ops.ensures in
    let lies = expr_inside (held_at c.args.parts.now.units.units.items c.args.unit) (table_held c.args.parts.now.units c.args.unit) (some_with_table c.args.parts.now.units c.requires.held c.args.unit c.requires.unit) c.args.number c.args.span c.requires.stands in
    let inside = reference_inside c.references_inside.ensures c.of_value-ops.result.now c.bytes-bytes.result.now (held_at c.args.parts.now.units.units.items c.args.unit).forest.section c.args.span c.loop-op.op-index c.reference_place.result own.placed c.loop-op-test.true (c.is_astray.ensures.reference c.if-is_astray.true) c.reference_place.ensures own.bytes_are lies in
    inside

pub loop-op-preserved : goal.loop-op-preserved
loop-op-preserved c = λ (file : List ℕ) (r : Linkable) (holds : HoldsParts file r c.args.parts.now).
    All-more (λ (op : Op). IsAstray r c.args.unit op false) c.of_value-ops.result.now c.loop-op.op-index no_op c.loop-op-test.true (c.loop-op.invariant file r holds) (c.if-is_astray.ensures.astray file r holds)

pub returns-clause-linked : goal.returns-clause-linked
returns-clause-linked c = λ (file : List ℕ) (r : Linkable) (holds : HoldsParts file r c.args.parts.now).
    let own = has_own c.args.parts.now.units.units.items c.args.parts.now.operations.items c.args.unit c.requires.unit c.requires.operations c.args.number c.args.span c.requires.stands c.unit_of.result.now c.forest.result.now c.bytes-bytes.result.now c.index.result.now c.of_value-ops.result.now c.unit_of.ensures c.forest.ensures c.bytes-bytes.ensures c.index.ensures c.of_value-ops.ensures in
    let whole : AreNamed r c.args.unit c.of_value-ops.result.now = subst (AreNamed r c.args.unit) (take_all c.loop-op.op-index c.of_value-ops.result.now c.loop-op-test.false) (c.loop-op.invariant file r holds) in
    expr_linked file r c.args.parts.now holds c.args.unit c.requires.unit c.args.number (subst (AreNamed r c.args.unit) own.ops_are whole)
