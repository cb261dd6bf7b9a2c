use Rattle.std.proofs.Common.{◌≡◌, ◌≤◌, ◌<◌, ◌^◌, ℕ, List, length, subst, sym, refl, arith, below_more}
use Rattle.dw_base.specs.declared.fault.Reach.{Reach}
use Rattle.value_links.specs.Reading.{Linkable}
use Rattle.value_links.specs.Parts.{HoldsParts}
use Rattle.value_links.specs.inside.Checks.{IsUnitLinked}
use Rattle.value_links.proofs.TabledUnits.{some_few, some_section}
use Rattle.value_links.proofs.PartValues.{known_unit, all_linked, all_based}
use Rattle.value_links.proofs.check.check_links.Goals as goal

pub overflow_cast-number-end : goal.overflow_cast-number-end
overflow_cast-number-end c =
    let few : length c.args.parts.now.units.units.items < 2 ^ 32 = some_few c.args.parts.now.units (c.args.info.now, c.args.abbrevs.now, c.requires.held) in
    omega (arith, few, c.len-number-end.ensures)

pub check_unit-requires-clause-room : goal.check_unit-requires-clause-room
check_unit-requires-clause-room c =
    let inside : c.loop-number.number < length c.args.parts.now.units.units.items = omega (arith, c.len-number-end.ensures) in
    let section = some_section c.args.parts.now.units (c.args.info.now, c.args.abbrevs.now, c.requires.held) c.loop-number.number inside in
    let size : length c.args.info.now < 2 ^ 64 = omega (arith, c.requires.room) in
    subst (λ (z : List ℕ). length z < 2 ^ 64) (sym section) size

pub overflow_add-result : goal.overflow_add-result
overflow_add-result c =
    let inside : c.loop-number.number < length c.args.parts.now.units.units.items = omega (arith, c.len-number-end.ensures) in
    let section = some_section c.args.parts.now.units (c.args.info.now, c.args.abbrevs.now, c.requires.held) c.loop-number.number inside in
    let place : c.in-Err.fault.place ≤ length c.args.info.now = subst (λ (z : List ℕ). c.in-Err.fault.place ≤ length z) section c.in-Err.ensures.inside in
    omega (arith, place, c.requires.room)

pub returns-in-Err-clause-fault : goal.returns-in-Err-clause-fault
returns-in-Err-clause-fault c = λ (file : List ℕ) (r : Linkable) (reach : Reach) (holds : HoldsParts file r c.args.parts.now).
    let inside : c.loop-number.number < length c.args.parts.now.units.units.items = omega (arith, c.len-number-end.ensures) in
    (c.in-Err.fault.place, refl, (c.loop-number.number, known_unit file r c.args.parts.now holds c.loop-number.number inside, c.in-Err.ensures.fault file r holds reach))

pub loop-number-preserved : goal.loop-number-preserved
loop-number-preserved c = λ (file : List ℕ) (r : Linkable) (holds : HoldsParts file r c.args.parts.now).
    below_more (IsUnitLinked r) c.loop-number.number (c.loop-number.invariant file r holds) (c.in-Ok.ensures.linked file r holds)

pub returns-clause-linked : goal.returns-clause-linked
returns-clause-linked c = λ (file : List ℕ) (r : Linkable) (holds : HoldsParts file r c.args.parts.now).
    let all : c.loop-number.number ≡ length c.args.parts.now.units.units.items = omega (arith, c.len-number-end.ensures, c.loop-number-test.false, c.loop-number.auto.number-end) in
    all_linked file r c.args.parts.now holds c.loop-number.number all (c.loop-number.invariant file r holds)

pub returns-clause-based : goal.returns-clause-based
returns-clause-based c = λ (file : List ℕ) (r : Linkable) (holds : HoldsParts file r c.args.parts.now).
    let all : c.loop-number.number ≡ length c.args.parts.now.units.units.items = omega (arith, c.len-number-end.ensures, c.loop-number-test.false, c.loop-number.auto.number-end) in
    all_based file r c.args.parts.now holds c.loop-number.number all (c.loop-number.invariant file r holds)
