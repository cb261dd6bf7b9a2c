use Rattle.std.proofs.Common.{sym, subst}
use Rattle.sample_maker.specs.Drawn.{units_drawn, unit_of}
use Rattle.sample_maker.specs.inside.Small.{IsUnitSmall}
use Rattle.sample_maker.proofs.SmallDraws.{unit_small}
use Rattle.sample_maker.proofs.SectionsDrawn.{lack_next}
use Rattle.sample_maker.proofs.make.draw_sections.Goals as goal

pub put_unit-requires-clause-small : goal.put_unit-requires-clause-small
put_unit-requires-clause-small c = subst IsUnitSmall (sym c.in_ok-unit.ensures.drawn) (unit_small c.loop-u.draws.state)

pub loop-u-preserved : goal.loop-u-preserved
loop-u-preserved c =
    lack_next (units_drawn c.args.number c.args.units) c.args.units c.loop-u.u c.loop-u.draws.state c.draw_unit.new.draws.state (unit_of c.in_ok-unit.unit) c.loop-u.sections c.put_unit.new.sections c.loop-u-test.true c.in_ok-unit.ensures.drawn c.in_ok-unit.ensures.state c.loop-u.invariant (record {
      info = c.in_ok-put_unit.ensures.info;
      lines = c.in_ok-put_unit.ensures.lines;
      locations = c.in_ok-put_unit.ensures.locations;
      ranges = c.in_ok-put_unit.ensures.ranges;
      aranges = c.in_ok-put_unit.ensures.aranges;
    })
