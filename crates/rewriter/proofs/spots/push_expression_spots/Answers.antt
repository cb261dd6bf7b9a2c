use Rattle.std.proofs.Common.{◌≡◌, ◌+◌, ◌∙◌, ℕ, List, [], ◌∷◌, drop, sym, ap, subst}
use Rattle.std.proofs.lemmas.List.{drop_more, drop_all}
use Rattle.expr_ops.specs.declared.op.Op.{Op}
use Rattle.expr_ops.specs.Drafts.{op_at}
use Rattle.expr_ops.specs.Ops.{all_meant}
use Rattle.unit_write.specs.declared.slots.Spot.{Spot}
use Rattle.unit_write.specs.declared.slots.Spot.TheVariants.{Nothing as NoSpot}
use Rattle.unit_write.specs.Slots.{IsSpotFor}
use Rattle.rewriter.specs.inside.Placed.{unit_in}
use Rattle.rewriter.proofs.NamedSpots.{AreSpotsOfFront, spots_added}
use Rattle.rewriter.proofs.SlotFronts.{front_none, front_more, front_still, front_all}
use Rattle.rewriter.proofs.spots.push_expression_spots.Goals as goal
use Rattle.rewriter.proofs.spots.push_expression_spots.Goals.{then-has_slot+in_ok-push-2, else-has_slot}

pub loop-op-init : goal.loop-op-init
loop-op-init c =
    let unit = unit_in c.args.world.now.units c.args.unit in
    λ bytes. front_none (IsSpotFor unit.forest unit.head.at) bytes c.args.ops.now c.args.spots.now.items c.push.new.self.items NoSpot tt c.in_ok-push.ensures.items

pub op_spot-requires-clause-slot : goal.op_spot-requires-clause-slot
op_spot-requires-clause-slot c = sym c.if-has_slot.ensures

pub op_spot-requires-clause-names : goal.op_spot-requires-clause-names
op_spot-requires-clause-names c = c.requires.names c.loop-op.op-index (op_at [] 0) c.loop-op-test.true

pub loop-op-preserved : goal.loop-op-preserved
loop-op-preserved c =
    let unit = unit_in c.args.world.now.units c.args.unit in
    let op : Op = op_at c.args.ops.now c.loop-op.op-index in
    let next : drop c.loop-op.op-index c.args.ops.now ≡ op ∷ drop (c.loop-op.op-index + 1) c.args.ops.now = drop_more c.args.ops.now c.loop-op.op-index (op_at [] 0) c.loop-op-test.true in
    elim c.if-has_slot.branch [
      | then-has_slot+in_ok-push-2 w ↦
          (λ (bytes : List ℕ). front_more (IsSpotFor unit.forest unit.head.at) bytes c.args.ops.now c.args.spots.now.items c.loop-op.op-index op c.loop-op.spots.items next (c.loop-op.invariant bytes) c.if-has_slot.spots.items w.op_spot.result (sym w.if-has_slot.ensures) (w.op_spot.ensures bytes (all_meant bytes (drop (c.loop-op.op-index + 1) c.args.ops.now))) (ap (λ v. v.items) w.spots-is ∙ w.in_ok-push-2.ensures.items))
      | else-has_slot w ↦
          subst (λ (z : List Spot). AreSpotsOfFront unit c.args.ops.now (c.loop-op.op-index + 1) c.args.spots.now.items z) (sym (ap (λ v. v.items) w.spots-is)) (λ bytes. front_still (IsSpotFor unit.forest unit.head.at) bytes c.args.ops.now c.args.spots.now.items c.loop-op.op-index op c.loop-op.spots.items next (c.loop-op.invariant bytes) (sym w.if-has_slot.ensures))
    ]

pub returns : goal.returns
returns c =
    let unit = unit_in c.args.world.now.units c.args.unit in
    λ bytes. spots_added unit bytes c.args.ops.now c.args.spots.now.items c.loop-op.spots.items (front_all (IsSpotFor unit.forest unit.head.at) bytes c.args.ops.now c.args.spots.now.items c.loop-op.op-index c.loop-op.spots.items (drop_all c.loop-op.op-index c.args.ops.now c.loop-op-test.false) (c.loop-op.invariant bytes))
