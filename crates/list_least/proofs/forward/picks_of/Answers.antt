use Rattle.std.proofs.Common.{◌≡◌, ◌<◌, ◌+◌, length, get_or, ap, arith, false}
use Rattle.std.specs.Prelude.{None}
use Rattle.list_model.specs.declared.item.Item.{Item}
use Rattle.list_model.specs.Items.{Bounds}
use Rattle.list_least.specs.declared.cheapest.Choice.{Choice}
use Rattle.list_least.specs.Plans.{bounds_of}
use Rattle.list_least.proofs.Ways.{way_start, either_way, last_way, way_kept, way_set, way_end, way_same, placed_same}
use Rattle.list_least.proofs.forward.picks_of.Goals.{then-is_set_before+in_ok-set_base+in_ok-left-2, else-is_set_before}
use Rattle.list_least.proofs.forward.picks_of.Goals as goal

pub loop-i-init : goal.loop-i-init
loop-i-init c addr context items e known = way_start c.args.list addr context items c.args.potentials.now c.args.first_base c.new-picks.result.items c.in_ok-left.left e known.greatest c.new-picks.ensures.items (c.in_ok-left.ensures addr context items known.all)

pub is_set_before-requires-clause-last : goal.is_set_before-requires-clause-last
is_set_before-requires-clause-last c last =
    let d : Item = record { start = 0; end = 0; whole = false; expr = record { at = 0; len = 0 } } in
    let n : Choice = record { bytes = 0; base = 0; index = None } in
    let k = c.requires.known in
    let all = k.4.all in
    last_way c.args.list k.0 k.1 k.2 c.args.costs.now c.args.potentials.now c.args.choices.now c.loop-i.i c.loop-i.base d n c.loop-i.picks.items c.loop-i.left k.4 (omega (arith, c.requires.same, all.same)) (omega (arith, c.loop-i-test.true, all.same)) (c.loop-i.invariant k.0 k.1 k.2 k.3 k.4) last

pub is_set_before-requires-clause-either : goal.is_set_before-requires-clause-either
is_set_before-requires-clause-either c less bytes least =
    let d : Item = record { start = 0; end = 0; whole = false; expr = record { at = 0; len = 0 } } in
    let n : Choice = record { bytes = 0; base = 0; index = None } in
    let k = c.requires.known in
    let all = k.4.all in
    let lt : c.loop-i.i < length k.2 = omega (arith, c.loop-i-test.true, all.same) in
    either_way c.args.list k.0 k.1 k.2 c.args.costs.now c.args.potentials.now c.args.choices.now c.loop-i.i c.loop-i.base d n c.loop-i.picks.items c.loop-i.left k.4 (omega (arith, c.requires.same, all.same)) lt (c.loop-i.invariant k.0 k.1 k.2 k.3 k.4) bytes less (least k.0 k.1 (bounds_of (get_or k.2 c.loop-i.i d)) (all.each c.loop-i.i lt))

pub loop-i-preserved : goal.loop-i-preserved
loop-i-preserved c addr context items e known =
    let d : Item = record { start = 0; end = 0; whole = false; expr = record { at = 0; len = 0 } } in
    let n : Choice = record { bytes = 0; base = 0; index = None } in
    let all = known.all in
    let same : length c.args.potentials.now ≡ length items = omega (arith, c.requires.same, all.same) in
    let lt : c.loop-i.i < length items = omega (arith, c.loop-i-test.true, all.same) in
    let way = c.loop-i.invariant addr context items e known in
    let are = all.each c.loop-i.i lt in
    let item : Bounds = bounds_of (get_or items c.loop-i.i d) in
    let placed = c.in_ok-place.ensures addr context item are in
    elim c.if-is_set_before.branch [
      | then-is_set_before+in_ok-set_base+in_ok-left-2 w ↦
          let b : c.if-is_set_before.base ≡ (get_or c.args.choices.now c.loop-i.i n).base = w.base-is in
          way_same c.args.list addr context items c.args.potentials.now (c.loop-i.i + 1) (get_or c.args.choices.now c.loop-i.i n).base c.if-is_set_before.base c.place.new.picks.items w.in_ok-left-2.left c.if-is_set_before.left b w.left-is (
          way_set c.args.list addr context items c.args.costs.now c.args.potentials.now c.args.choices.now c.loop-i.i c.loop-i.base d n c.loop-i.picks.items c.loop-i.left known same lt way w.set_base.new.picks.items c.place.new.picks.items w.in_ok-left-2.left (c.is_set_before.ensures.set w.if-is_set_before.true) (w.in_ok-set_base.ensures addr context)
          (placed_same c.args.list addr context (get_or c.args.choices.now c.loop-i.i n).base c.if-is_set_before.base item w.set_base.new.picks.items c.if-is_set_before.picks.items c.place.new.picks.items b (ap (λ z. z.items) w.picks-is) placed)
          (w.in_ok-left-2.ensures addr context items all))
      | else-is_set_before w ↦
          let kept = c.is_set_before.ensures.kept w.if-is_set_before.false in
          let placed2 = placed_same c.args.list addr context c.loop-i.base c.if-is_set_before.base item c.loop-i.picks.items c.if-is_set_before.picks.items c.place.new.picks.items w.base-is (ap (λ z. z.items) w.picks-is) placed in
          way_same c.args.list addr context items c.args.potentials.now (c.loop-i.i + 1) c.loop-i.base c.if-is_set_before.base c.place.new.picks.items c.loop-i.left c.if-is_set_before.left w.base-is w.left-is (
          way_kept c.args.list addr context items c.args.costs.now c.args.potentials.now c.args.choices.now c.loop-i.i c.loop-i.base d n c.loop-i.picks.items c.loop-i.left known same lt way c.place.new.picks.items kept.1.0 kept.0 (kept.1.1 addr context item are) kept.1.2 placed2)
    ]

pub returns : goal.returns
returns c addr context items e known size least =
    let all = known.all in
    way_end c.args.list addr context items c.args.potentials.now c.loop-i.i c.loop-i.base c.loop-i.picks.items c.loop-i.left (omega (arith, c.loop-i-test.false, c.loop-i.auto.i-end, all.same)) (omega (arith, c.requires.same, all.same)) (c.loop-i.invariant addr context items e known) size least
