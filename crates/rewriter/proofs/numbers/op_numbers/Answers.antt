use Rattle.std.proofs.Common.{◌≡◌, ◌≤◌, ◌<◌, ◌∙◌, List, length, sym, ap, subst, arith}
use Rattle.std.proofs.lemmas.Grind.{common_steps}
use Rattle.expr_ops.specs.Drafts.{op_at}
use Rattle.entry_arena.specs.Operations.{HeldOps}
use Rattle.value_links.specs.World.{operations_at}
use Rattle.rewriter.specs.inside.Held.{AreOperationsUpTo}
use Rattle.rewriter.proofs.OpNumbers.{operations_count, operations_read, numbered_none, numbered_next}
use Rattle.rewriter.proofs.numbers.op_numbers.Goals as goal

pub index-operations-requires : goal.index-operations-requires
index-operations-requires c =
    let inside : c.args.unit < length c.operations.result.now.items = subst (λ (z : List HeldOps). c.args.unit < length z) (sym c.operations.ensures) (operations_count c.args.world.now c.requires.world c.args.unit c.requires.unit) in
    grind (arith, common_steps, inside)

pub loop-id-init : goal.loop-id-init
loop-id-init c = numbered_none c.args.world.now c.args.places.now.items c.args.unit c.new-numbers.result.items c.new-numbers.ensures.items

pub loop-id-preserved : goal.loop-id-preserved
loop-id-preserved c =
    let operations = operations_read c.args.world.now c.args.unit c.operations.result.now.items c.index-operations.result.now (operations_count c.args.world.now c.requires.world c.args.unit c.requires.unit) c.operations.ensures c.index-operations.ensures in
    let is : c.op-op.result ≡ op_at (operations_at c.args.world.now.operations c.args.unit).ops c.loop-id.id = c.op-op.ensures ∙ ap (λ (h : HeldOps). op_at h.ops c.loop-id.id) operations in
    numbered_next c.loop-id.numbers.items c.op_number.result c.args.world.now c.args.places.now.items c.args.unit c.loop-id.id c.op-op.result c.loop-id.invariant is c.op_number.ensures.fits c.op_number.ensures.number c.push.new.self.items c.in_ok-push.ensures.items

pub returns : goal.returns
returns c =
    let operations = operations_read c.args.world.now c.args.unit c.operations.result.now.items c.index-operations.result.now (operations_count c.args.world.now c.requires.world c.args.unit c.requires.unit) c.operations.ensures c.index-operations.ensures in
    let count : c.op_count-count.result ≡ length (operations_at c.args.world.now.operations c.args.unit).ops = c.op_count-count.ensures ∙ ap (λ (h : HeldOps). length h.ops) operations in
    let past : c.op_count-count.result ≤ c.loop-id.id = c.loop-id-test.false in
    let most : c.loop-id.id ≤ c.op_count-count.result = c.loop-id.auto.id-end in
    let end : c.loop-id.id ≡ length (operations_at c.args.world.now.operations c.args.unit).ops = omega arith in
    subst (AreOperationsUpTo c.args.world.now c.args.places.now.items c.args.unit c.loop-id.numbers.items) end c.loop-id.invariant
