use Rattle.std.proofs.Common.{◌-◌}
use Rattle.sample_maker.specs.Draws.{all_drawn}
use Rattle.sample_maker.specs.Drawn.{unit_drawn, behind_unit, units_drawn}
use Rattle.sample_maker.specs.inside.Sections.{LackUnits}
use Rattle.sample_maker.proofs.make.draw_sections.Given as goal

abbrev pub invariant-loop-u : goal.invariant-loop-u
invariant-loop-u l = LackUnits (units_drawn l.number l.units) (all_drawn unit_drawn behind_unit (l.units - l.u) l.draws.state) l.u l.sections
