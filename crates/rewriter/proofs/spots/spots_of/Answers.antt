use Rattle.std.proofs.Common.{◌≡◌, ◌≤◌, ◌<◌, ◌+◌, ◌∙◌, List, length, sym, ap, subst, arith}
use Rattle.dw_base.specs.declared.fault.Reach.TheVariants.{Narrow}
use Rattle.entry_arena.specs.declared.entry.Entry.{Entry}
use Rattle.entry_arena.specs.Arena.{Arena, entry_at}
use Rattle.entry_read.specs.Units.{HeadAndForest}
use Rattle.unit_write.specs.declared.slots.Spot.{Spot}
use Rattle.rewriter.specs.inside.Placed.{unit_in, operations_for}
use Rattle.rewriter.specs.inside.Held.{AreSpotsUpTo}
use Rattle.rewriter.proofs.Links.{own_is}
use Rattle.rewriter.proofs.Meant.{unit_means}
use Rattle.rewriter.proofs.UnitExpressions.{section_short}
use Rattle.rewriter.proofs.NamedSpots.{AreSpotsOfFirst, first_none, first_more}
use Rattle.rewriter.proofs.spots.spots_of.Goals as goal

pub loop-id-init : goal.loop-id-init
loop-id-init c =
    let own = c.args.own.now in
    let unit = unit_means c.args.world.now c.args.unit Narrow c.requires.world c.requires.unit own c.requires.own in
    subst (λ (z : List Spot). AreSpotsOfFirst own (operations_for c.args.world.now own c.args.unit) z 0) (sym c.new-spots.ensures.items) (first_none own (operations_for c.args.world.now own c.args.unit) unit.values)

pub push_spots-requires-clause-entry : goal.push_spots-requires-clause-entry
push_spots-requires-clause-entry c =
    let read = own_is c.args.world.now c.args.unit c.units.result.now.items c.index.result.now c.requires.unit c.units.ensures c.index.ensures in
    let count : c.len-count.result ≡ length (unit_in c.args.world.now.units c.args.unit).forest.entries = c.len-count.ensures ∙ ap (λ (f : Arena). length f.entries) c.forest.ensures ∙ ap (λ (h : HeadAndForest). length h.forest.entries) read in
    let below : c.loop-id.id < c.len-count.result = c.loop-id-test.true in
    (unit_means c.args.world.now c.args.unit Narrow c.requires.world c.requires.unit c.args.own.now c.requires.own).entries c.loop-id.id (omega arith)

pub push_spots-requires-clause-short : goal.push_spots-requires-clause-short
push_spots-requires-clause-short c = section_short c.args.world.now c.args.unit c.requires.world c.requires.unit

pub push_spots-requires-clause-before : goal.push_spots-requires-clause-before
push_spots-requires-clause-before c =
    let own = c.args.own.now in
    let read = own_is c.args.world.now c.args.unit c.units.result.now.items c.index.result.now c.requires.unit c.units.ensures c.index.ensures in
    let same : own.forest.entries ≡ (unit_in c.args.world.now.units c.args.unit).forest.entries = ap (λ (h : HeadAndForest). h.forest.entries) c.requires.own.same in
    let count : c.len-count.result ≡ length (unit_in c.args.world.now.units c.args.unit).forest.entries = c.len-count.ensures ∙ ap (λ (f : Arena). length f.entries) c.forest.ensures ∙ ap (λ (h : HeadAndForest). length h.forest.entries) read in
    let below : c.loop-id.id < c.len-count.result = c.loop-id-test.true in
    subst (λ (es : List Entry). AreSpotsUpTo own (operations_for c.args.world.now own c.args.unit) c.loop-id.spots.items (entry_at es c.loop-id.id).first) same (c.loop-id.invariant.next (omega (arith, below, count, ap length same)))

pub loop-id-preserved : goal.loop-id-preserved
loop-id-preserved c =
    let own = c.args.own.now in
    let unit = unit_means c.args.world.now c.args.unit Narrow c.requires.world c.requires.unit own c.requires.own in
    let up = subst (λ (es : List Entry). AreSpotsUpTo own (operations_for c.args.world.now own c.args.unit) c.push_spots.new.spots.items ((entry_at es c.loop-id.id).first + (entry_at es c.loop-id.id).count)) (sym unit.same) c.in_ok-push_spots.ensures in
    first_more own (operations_for c.args.world.now own c.args.unit) c.push_spots.new.spots.items c.loop-id.id unit.values up

pub returns : goal.returns
returns c =
    let read = own_is c.args.world.now c.args.unit c.units.result.now.items c.index.result.now c.requires.unit c.units.ensures c.index.ensures in
    let same : length c.args.own.now.forest.entries ≡ length (unit_in c.args.world.now.units c.args.unit).forest.entries = ap (λ (h : HeadAndForest). length h.forest.entries) c.requires.own.same in
    let count : c.len-count.result ≡ length (unit_in c.args.world.now.units c.args.unit).forest.entries = c.len-count.ensures ∙ ap (λ (f : Arena). length f.entries) c.forest.ensures ∙ ap (λ (h : HeadAndForest). length h.forest.entries) read in
    let past : c.len-count.result ≤ c.loop-id.id = c.loop-id-test.false in
    let most : c.loop-id.id ≤ c.len-count.result = c.loop-id.auto.id-end in
    c.loop-id.invariant.all (omega (arith, same, count, past, most))
