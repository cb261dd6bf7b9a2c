use Rattle.std.proofs.Common.{◌≡◌, ◌<◌, ◌^◌, ◌∙◌, ℕ, List, length, subst, arith}
use Rattle.value_links.specs.Reading.{Linkable, unit_at}
use Rattle.value_links.specs.Parts.{HoldsParts}
use Rattle.value_links.specs.inside.Namings.{AreJoined}
use Rattle.value_links.specs.inside.Views.{IsUnitViewing, IsSomeViewing}
use Rattle.value_links.proofs.TabledUnits.{some_few}
use Rattle.value_links.proofs.NamingLists.{below_next}
use Rattle.value_links.proofs.NamingValues.{units_counted}
use Rattle.value_links.proofs.views.push_units.Goals as goal

pub overflow_cast-unit-end : goal.overflow_cast-unit-end
overflow_cast-unit-end c =
    let few : length c.args.parts.now.units.units.items < 2 ^ 32 = some_few c.args.parts.now.units c.requires.held in
    omega arith

pub loop-unit-preserved : goal.loop-unit-preserved
loop-unit-preserved c = λ (file : List ℕ) (r : Linkable) (holds : HoldsParts file r c.args.parts.now).
    below_next (λ u y. IsUnitViewing r u (length (unit_at r u).forest.entries) y) c.args.viewings.now.items c.loop-unit.viewings.items c.push_unit.new.viewings.items c.loop-unit.unit (c.loop-unit.invariant file r holds) (c.in_ok-push_unit.ensures file r holds)

pub returns : goal.returns
returns c = λ (file : List ℕ) (r : Linkable) (holds : HoldsParts file r c.args.parts.now).
    let all : c.loop-unit.unit ≡ length c.args.parts.now.units.units.items = omega arith in
    subst (λ (z : ℕ). AreJoined c.args.viewings.now.items c.loop-unit.viewings.items (IsSomeViewing r z)) (all ∙ units_counted file r c.args.parts.now holds) (c.loop-unit.invariant file r holds)
