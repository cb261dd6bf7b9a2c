use Rattle.std.proofs.Common.{◌≡◌, ◌<◌, ◌^◌, ℕ, List, length, sym, subst, arith}
use Rattle.std.proofs.lemmas.Grind.{common_steps}
use Rattle.dw_base.specs.declared.fault.Reach.TheVariants.{Narrow}
use Rattle.list_lookup.proofs.UnitCounts.{units_are_few}
use Rattle.rewriter.specs.inside.Held.{StandAnew}
use Rattle.rewriter.proofs.Stand.{stand_none, stand_more}
use Rattle.rewriter.proofs.Written.{unit_to}
use Rattle.rewriter.proofs.WrittenUnits.{units_written}
use Rattle.rewriter.proofs.units.write_units.Goals as goal

pub overflow_cast-number : goal.overflow_cast-number
overflow_cast-number c =
    let few : length c.args.world.now.units < 2 ^ 32 = units_are_few c.args.world.now Narrow c.requires.world in
    let known : c.loop-number.number < length c.args.world.now.units = grind (arith, common_steps) in
    record { fits = omega (arith, few, known) }

pub loop-number-init : goal.loop-number-init
loop-number-init c =
    subst (λ (z : List ℕ). StandAnew c.args.world.now c.args.tables.now.tables.items c.args.places.now.items c.args.new_places.now z 0) (sym c.in_ok-info.ensures.items) (stand_none c.args.world.now c.args.tables.now.tables.items c.args.places.now.items c.args.new_places.now c.requires.places.0 c.requires.places.1)

pub loop-number-preserved : goal.loop-number-preserved
loop-number-preserved c =
    let known : c.loop-number.number < length c.args.world.now.units = grind (arith, common_steps) in
    let behind = c.in_ok-write_numbered.ensures.written in
    let ends = unit_to c.args.world.now Narrow c.args.tables.now.tables.items c.args.places.now.items c.args.new_places.now c.args.tables.now.bytes.items c.write_numbered.new.info.items c.loop-number.number c.requires.world c.requires.tables.1 known behind in
    stand_more c.args.world.now c.args.tables.now.tables.items c.args.places.now.items c.args.new_places.now c.requires.places.0 c.requires.places.1 c.loop-number.info.items c.write_numbered.new.info.items c.loop-number.number known c.loop-number.invariant behind c.in_ok-write_numbered.ensures.behind ends

pub returns-clause-written : goal.returns-clause-written
returns-clause-written c = λ file r holds.
    let same : c.loop-number.number ≡ length c.args.world.now.units = grind (arith, common_steps) in
    let stand = subst (StandAnew c.args.world.now c.args.tables.now.tables.items c.args.places.now.items c.args.new_places.now c.loop-number.info.items) same c.loop-number.invariant in
    units_written c.args.world.now Narrow c.args.tables.now.tables.items c.args.places.now.items c.args.new_places.now c.args.tables.now.bytes.items c.loop-number.info.items c.requires.places.0 c.requires.world c.requires.tables.1 c.requires.places.1 c.requires.taken file r holds stand
