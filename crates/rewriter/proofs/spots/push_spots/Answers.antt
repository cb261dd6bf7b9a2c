use Rattle.std.proofs.Common.{◌≡◌, ◌<◌, ◌≤◌, ◌+◌, ◌∙◌, ap, subst, arith}
use Rattle.entry_arena.specs.Arena.{Arena, entry_at}
use Rattle.entry_arena.specs.declared.entry.Entry.{Entry}
use Rattle.entry_read.specs.Units.{HeadAndForest}
use Rattle.rewriter.specs.inside.Placed.{operations_for}
use Rattle.rewriter.specs.inside.Held.{entry_in, AreSpotsUpTo}
use Rattle.rewriter.proofs.Links.{own_is}
use Rattle.rewriter.proofs.spots.push_spots.Goals as goal

pub push_value_spots-requires-clause-column : goal.push_value_spots-requires-clause-column
push_value_spots-requires-clause-column c =
    let own = own_is c.args.world.now c.args.unit c.units.result.now.items c.index.result.now c.requires.entry.unit c.units.ensures c.index.ensures in
    let entry : c.entry-count.result ≡ entry_in c.args.world.now c.args.unit c.args.id = c.entry-count.ensures ∙ ap (λ (f : Arena). entry_at f.entries c.args.id) c.forest.ensures ∙ ap (λ (h : HeadAndForest). entry_at h.forest.entries c.args.id) own in
    let count : c.entry-count.result.count ≡ (entry_in c.args.world.now c.args.unit c.args.id).count = ap (λ (e : Entry). e.count) entry in
    let below : c.loop-column.column < c.entry-count.result.count = c.loop-column-test.true in
    omega arith

pub loop-column-preserved : goal.loop-column-preserved
loop-column-preserved c =
    let next : (entry_in c.args.world.now c.args.unit c.args.id).first + c.loop-column.column + 1 ≡ (entry_in c.args.world.now c.args.unit c.args.id).first + (c.loop-column.column + 1) = omega arith in
    subst (AreSpotsUpTo c.args.own.now (operations_for c.args.world.now c.args.own.now c.args.unit) c.push_value_spots.new.spots.items) next c.in_ok-push_value_spots.ensures

pub returns : goal.returns
returns c =
    let own = own_is c.args.world.now c.args.unit c.units.result.now.items c.index.result.now c.requires.entry.unit c.units.ensures c.index.ensures in
    let entry : c.entry-count.result ≡ entry_in c.args.world.now c.args.unit c.args.id = c.entry-count.ensures ∙ ap (λ (f : Arena). entry_at f.entries c.args.id) c.forest.ensures ∙ ap (λ (h : HeadAndForest). entry_at h.forest.entries c.args.id) own in
    let count : c.entry-count.result.count ≡ (entry_in c.args.world.now c.args.unit c.args.id).count = ap (λ (e : Entry). e.count) entry in
    let past : c.entry-count.result.count ≤ c.loop-column.column = c.loop-column-test.false in
    let most : c.loop-column.column ≤ c.entry-count.result.count = c.loop-column.auto.column-end in
    let all : c.loop-column.column ≡ (entry_in c.args.world.now c.args.unit c.args.id).count = omega arith in
    subst (λ n. AreSpotsUpTo c.args.own.now (operations_for c.args.world.now c.args.own.now c.args.unit) c.loop-column.spots.items ((entry_in c.args.world.now c.args.unit c.args.id).first + n)) all c.loop-column.invariant
