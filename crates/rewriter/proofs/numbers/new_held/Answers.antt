use Rattle.std.proofs.Common.{◌≡◌, ◌≤◌, ◌<◌, ◌∙◌, ℕ, List, length, sym, ap, subst, arith}
use Rattle.entry_arena.specs.Arena.{Arena}
use Rattle.entry_read.specs.Units.{HeadAndForest}
use Rattle.rewriter.specs.inside.Placed.{unit_in}
use Rattle.rewriter.specs.inside.Held.{AreNumberedUpTo}
use Rattle.rewriter.proofs.Links.{own_is}
use Rattle.rewriter.proofs.Counting.{numbered_none, numbered_more}
use Rattle.rewriter.proofs.numbers.new_held.Goals as goal

pub loop-id-init : goal.loop-id-init
loop-id-init c =
    subst (λ (z : List ℕ). AreNumberedUpTo c.args.world.now c.args.own.now c.args.places.now.items c.args.new_places.now c.args.unit z 0) (sym c.in_ok-held.ensures.items) (numbered_none c.args.world.now c.args.own.now c.args.places.now.items c.args.new_places.now c.args.unit c.requires.unit)

pub push_numbers-requires-clause-entry : goal.push_numbers-requires-clause-entry
push_numbers-requires-clause-entry c =
    let own = own_is c.args.world.now c.args.unit c.units.result.now.items c.index.result.now c.requires.unit.known c.units.ensures c.index.ensures in
    let count : c.len-id-end.result ≡ length (unit_in c.args.world.now.units c.args.unit).forest.entries = c.len-id-end.ensures ∙ ap (λ (f : Arena). length f.entries) c.forest-forest.ensures ∙ ap (λ (h : HeadAndForest). length h.forest.entries) own in
    let below : c.loop-id.id < c.len-id-end.result = c.loop-id-test.true in
    c.requires.unit.entries c.loop-id.id (omega arith)

pub loop-id-preserved : goal.loop-id-preserved
loop-id-preserved c =
    let own = own_is c.args.world.now c.args.unit c.units.result.now.items c.index.result.now c.requires.unit.known c.units.ensures c.index.ensures in
    let count : c.len-id-end.result ≡ length (unit_in c.args.world.now.units c.args.unit).forest.entries = c.len-id-end.ensures ∙ ap (λ (f : Arena). length f.entries) c.forest-forest.ensures ∙ ap (λ (h : HeadAndForest). length h.forest.entries) own in
    let below : c.loop-id.id < c.len-id-end.result = c.loop-id-test.true in
    numbered_more c.args.world.now c.args.own.now c.args.places.now.items c.args.new_places.now c.args.unit c.loop-id.id c.loop-id.held.items c.push_numbers.new.held.items c.requires.unit (omega arith) c.loop-id.invariant c.in_ok-push_numbers.ensures

pub returns : goal.returns
returns c =
    let own = own_is c.args.world.now c.args.unit c.units.result.now.items c.index.result.now c.requires.unit.known c.units.ensures c.index.ensures in
    let count : c.len-id-end.result ≡ length (unit_in c.args.world.now.units c.args.unit).forest.entries = c.len-id-end.ensures ∙ ap (λ (f : Arena). length f.entries) c.forest-forest.ensures ∙ ap (λ (h : HeadAndForest). length h.forest.entries) own in
    let past : c.len-id-end.result ≤ c.loop-id.id = c.loop-id-test.false in
    let most : c.loop-id.id ≤ c.len-id-end.result = c.loop-id.auto.id-end in
    let same : c.loop-id.id ≡ length (unit_in c.args.world.now.units c.args.unit).forest.entries = omega arith in
    subst (AreNumberedUpTo c.args.world.now c.args.own.now c.args.places.now.items c.args.new_places.now c.args.unit c.loop-id.held.items) same c.loop-id.invariant
