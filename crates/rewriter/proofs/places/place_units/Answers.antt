use Rattle.std.proofs.Common.{◌≡◌, ◌<◌, ◌+◌, ◌∙◌, ℕ, List, length, get_or, subst, sym, ap, arith}
use Rattle.std.proofs.lemmas.Grind.{common_steps}
use Rattle.unit_write.specs.declared.places.Places.{Places}
use Rattle.list_lookup.specs.declared.owned.Owned.{Owned}
use Rattle.list_lookup.specs.Owned.{AreOwnedIn}
use Rattle.rewriter.proofs.Placement.{ArePlacedUpTo, AreRanksUpTo, placed_none, room_next, placed_more, ranks_none, ranks_more, ranks_all}
use Rattle.rewriter.proofs.places.place_units.Goals as goal

pub loop-number-init : goal.loop-number-init
loop-number-init c =
    let world = c.args.world.now in
    let tables = c.args.tables.now.items in
    let placed : ArePlacedUpTo world tables c.new-places.result.items 0 0 = subst (λ (z : List Places). ArePlacedUpTo world tables z 0 0) (sym c.new-places.ensures.items) (placed_none world tables) in
    (placed, ranks_none world tables c.new-places.result.items c.new-records.result.items c.new-records.ensures.items)

pub loop-number-preserved : goal.loop-number-preserved
loop-number-preserved c =
    let known : c.loop-number.number < length c.args.world.now.units = grind (arith, common_steps) in
    let (placed, ranks) = c.loop-number.invariant in
    let next = c.in_ok-unit.ensures.placed in
    let more = placed_more c.args.world.now c.args.tables.now.items c.loop-number.places.items c.loop-number.number c.loop-number.start c.loop-number.records.items c.place_numbered.new.records.items c.in_ok-unit.unit known placed next c.in_ok-unit.ensures.most in
    let told = ranks_more c.args.world.now c.args.tables.now.items c.loop-number.places.items c.loop-number.number c.loop-number.start c.loop-number.records.items c.place_numbered.new.records.items c.in_ok-unit.unit placed.count ranks next in
    subst (λ (z : List Places). ArePlacedUpTo c.args.world.now c.args.tables.now.items z (c.loop-number.number + 1) c.in_ok-unit.unit.end × AreRanksUpTo c.args.world.now c.args.tables.now.items z (c.loop-number.number + 1) c.place_numbered.new.records.items) (sym c.in_ok-push.ensures.items) (more, told)

pub place_numbered-requires-clause-known : goal.place_numbered-requires-clause-known
place_numbered-requires-clause-known c = grind (arith, common_steps)

pub place_numbered-requires-clause-owned : goal.place_numbered-requires-clause-owned
place_numbered-requires-clause-owned c =
    let world = c.args.world.now in
    let n : ℕ = c.loop-number.number in
    let all = c.in_ok-owned.ensures in
    let known : n < length world.units = grind (arith, common_steps) in
    let own = all.each n c.index.result.now (omega (arith, known, all.units)) in
    let same : c.deref.result.now ≡ (get_or c.in_ok-owned.owned.items n c.index.result.now).lists.items = c.deref.ensures.value ∙ ap (λ (o : Owned). o.lists.items) c.index.ensures in
    subst (AreOwnedIn world n) (sym same) own

pub place_numbered-requires-clause-room : goal.place_numbered-requires-clause-room
place_numbered-requires-clause-room c =
    let known : c.loop-number.number < length c.args.world.now.units = grind (arith, common_steps) in
    room_next c.args.world.now c.args.tables.now.items c.loop-number.places.items c.loop-number.number c.loop-number.start c.requires.world c.loop-number.invariant.0 known

pub returns-clause-placed : goal.returns-clause-placed
returns-clause-placed c =
    let placed = c.loop-number.invariant.0 in
    let all : c.loop-number.number ≡ length c.args.world.now.units = grind (arith, common_steps) in
    (c.loop-number.start, record { count = placed.count ∙ all; follow = placed.follow; small = placed.small; each = λ u below. placed.each u (omega (arith, below, all)) })

pub returns-clause-records : goal.returns-clause-records
returns-clause-records c =
    let all : c.loop-number.number ≡ length c.args.world.now.units = grind (arith, common_steps) in
    ranks_all c.args.world.now c.args.tables.now.items c.loop-number.places.items c.loop-number.number c.loop-number.records.items all c.loop-number.invariant.1
