use Rattle.std.proofs.Common.{subst, sym}
use Rattle.std.specs.Prelude.{Option, Some, None}
use Rattle.value_links.specs.declared.link.Link.{Link}
use Rattle.value_links.specs.inside.Links.{IsSectionTargetFound, AreUnitsApart}
use Rattle.value_links.proofs.Searching.{target_found, none_in, found_in}
use Rattle.value_links.proofs.link.section_target.Goals as goal

pub returns-in_err-target : goal.returns-in_err-target
returns-in_err-target c = λ (apart : AreUnitsApart c.args.units.now).
    let forest = c.forest.result.now in
    let at = c.in_err-target.ensures in
    let none = target_found forest c.args.place None at.entry at.chain_end at.none in
    let nothing = none_in c.args.units.now apart c.args.place c.in_ok-number.number c.index-units-number.result forest (c.in_ok-number.ensures.last apart) c.index-units-number.is c.forest.ensures none in
    subst (λ (z : Option Link). IsSectionTargetFound c.args.units.now c.args.place z) (sym c.from_residual-in_err-target.ensures) nothing

pub returns : goal.returns
returns c = λ (apart : AreUnitsApart c.args.units.now).
    let forest = c.forest.result.now in
    let at = c.in_ok-target.ensures in
    let target = c.in_ok-target.target in
    let here = target_found forest c.args.place (Some target) at.entry at.chain_end at.none in
    found_in c.args.units.now apart c.args.place c.in_ok-number.number c.index-units-number.result forest target c.in_ok-unit.unit (c.in_ok-number.ensures.last apart) c.index-units-number.is c.forest.ensures c.in_ok-unit.ensures here
