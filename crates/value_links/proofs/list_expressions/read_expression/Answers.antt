use Rattle.std.proofs.Common.{◌≡◌, ◌∙◌, ℕ, List, sym, subst, arith}
use Rattle.std.specs.Prelude.{true}
use Rattle.std.proofs.lemmas.Bool.{true≢false}
use Rattle.std.proofs.lemmas.List.{take_all}
use Rattle.std.proofs.lemmas.List.Elements.{All-nil, All-more}
use Rattle.std.proofs.lemmas.Result.{err_from_is_err_and}
use Rattle.expr_ops.specs.Drafts.{op_at}
use Rattle.value_links.specs.Reading.{Linkable}
use Rattle.value_links.specs.Parts.{HoldsParts}
use Rattle.value_links.specs.inside.ListExpressions.{OpCounts}
use Rattle.value_links.proofs.ExprLinks.{no_op, op_lead}
use Rattle.value_links.proofs.ListOperations.{IsOpRead, AreOpsRead, AreHeld, held_alone, reference_below, expr_read, counted_fault, astray_fault, spelled_fault}
use Rattle.value_links.proofs.list_expressions.read_expression.Goals as goal
use Rattle.value_links.proofs.list_expressions.read_expression.Goals.{else-list-via-then-list+else-counts_in_unit, else-list-via-else-list}

pub returns-in_err-push_expr-clause-fault : goal.returns-in_err-push_expr-clause-fault
returns-in_err-push_expr-clause-fault c =
    let list = c.args.list.now in
    let p = err_from_is_err_and c.from_residual.result c.from_residual.ensures.1 in
    rw (p.1, p.2) (spelled_fault c.args.parts.now list.owner list.torn c.args.reach c.args.bytes.now c.args.from list.place c.in_err-push_expr.field-0.0 c.in_err-push_expr.ensures.fault)

pub loop-op-init : goal.loop-op-init
loop-op-init c = λ (file : List ℕ) (r : Linkable) (holds : HoldsParts file r c.args.parts.now). All-nil (IsOpRead r c.args.list.now.owner c.args.list.now.torn)

pub returns-then-counts_in_unit-clause-fault : goal.returns-then-counts_in_unit-clause-fault
returns-then-counts_in_unit-clause-fault c = λ (file : List ℕ) (r : Linkable) (holds : HoldsParts file r c.args.parts.now).
    let list = c.args.list.now in
    let ops = c.deref-op-items.result.now in
    let held : AreHeld c.args.reach c.args.bytes.now ops = held_alone c.args.reach c.args.bytes.now c.clear.new.self.items c.push_expr.new.ops.items ops c.in_ok-push_expr.ensures.read c.clear.ensures.items c.deref-op-items.ensures.value in
    counted_fault r list.owner list.torn c.args.reach c.args.bytes.now ops held c.args.from list.place c.loop-op.op-index c.loop-op-test.true c.if-list.true (c.counts_in_unit.ensures.0 c.if-counts_in_unit.true)

pub reference_place-requires : goal.reference_place-requires
reference_place-requires c =
    let ops = c.deref-op-items.result.now in
    let held : AreHeld c.args.reach c.args.bytes.now ops = held_alone c.args.reach c.args.bytes.now c.clear.new.self.items c.push_expr.new.ops.items ops c.in_ok-push_expr.ensures.read c.clear.ensures.items c.deref-op-items.ensures.value in
    record { lead = op_lead c.args.bytes.now ops c.loop-op.op-index held.placed c.loop-op-test.true }

pub overflow_add-result : goal.overflow_add-result
overflow_add-result c =
    let ops = c.deref-op-items.result.now in
    let held : AreHeld c.args.reach c.args.bytes.now ops = held_alone c.args.reach c.args.bytes.now c.clear.new.self.items c.push_expr.new.ops.items ops c.in_ok-push_expr.ensures.read c.clear.ensures.items c.deref-op-items.ensures.value in
    let below = reference_below c.references_inside.ensures ops c.args.bytes.now c.loop-op.op-index c.reference_place.result held.placed c.loop-op-test.true (c.is_astray_in.ensures.reference c.if-is_astray_in.true) c.reference_place.ensures in
    omega (arith, below, c.requires.room)

pub returns-then-is_astray_in-clause-fault : goal.returns-then-is_astray_in-clause-fault
returns-then-is_astray_in-clause-fault c = λ (file : List ℕ) (r : Linkable) (holds : HoldsParts file r c.args.parts.now).
    let list = c.args.list.now in
    let ops = c.deref-op-items.result.now in
    let held : AreHeld c.args.reach c.args.bytes.now ops = held_alone c.args.reach c.args.bytes.now c.clear.new.self.items c.push_expr.new.ops.items ops c.in_ok-push_expr.ensures.read c.clear.ensures.items c.deref-op-items.ensures.value in
    astray_fault r list.owner list.torn c.args.reach c.args.bytes.now ops held c.args.from list.place c.loop-op.op-index c.loop-op-test.true c.reference_place.result c.reference_place.ensures (c.is_astray_in.ensures.astray c.if-is_astray_in.true file r holds)

pub loop-op-preserved : goal.loop-op-preserved
loop-op-preserved c = λ (file : List ℕ) (r : Linkable) (holds : HoldsParts file r c.args.parts.now).
    let list = c.args.list.now in
    let ops = c.deref-op-items.result.now in
    let uncounted : list.torn ≡ true → ¬ OpCounts (op_at ops c.loop-op.op-index) = elim c.else-list.branch [
      | else-list-via-then-list+else-counts_in_unit w ↦ λ apart counts. true≢false (sym (w.counts_in_unit.ensures.1 counts) ∙ w.if-counts_in_unit.false)
      | else-list-via-else-list w ↦ λ apart counts. true≢false (sym apart ∙ w.if-list.false)
    ] in
    All-more (IsOpRead r list.owner list.torn) ops c.loop-op.op-index no_op c.loop-op-test.true (c.loop-op.invariant file r holds) (c.is_astray_in.ensures.linked (λ t. true≢false (sym t ∙ c.if-is_astray_in.false)) file r holds, uncounted)

pub returns-clause-read : goal.returns-clause-read
returns-clause-read c = λ (file : List ℕ) (r : Linkable) (holds : HoldsParts file r c.args.parts.now).
    let list = c.args.list.now in
    let ops = c.deref-op-items.result.now in
    let held : AreHeld c.args.reach c.args.bytes.now ops = held_alone c.args.reach c.args.bytes.now c.clear.new.self.items c.push_expr.new.ops.items ops c.in_ok-push_expr.ensures.read c.clear.ensures.items c.deref-op-items.ensures.value in
    let whole : AreOpsRead r list.owner list.torn ops = subst (AreOpsRead r list.owner list.torn) (take_all c.loop-op.op-index ops c.loop-op-test.false) (c.loop-op.invariant file r holds) in
    expr_read r list.owner list.torn c.args.reach c.args.bytes.now ops held c.requires.alone whole
