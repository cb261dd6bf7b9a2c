use Rattle.std.proofs.Common.{◌≡◌, ◌≤◌, ℕ, List, length, subst, sym, refl, arith}
use Rattle.dw_base.specs.declared.fault.Kind.TheVariants.{Aranges as NoAranges}
use Rattle.companions.specs.declared.set.ArangeSet.{ArangeSet}
use Rattle.fixed_width.specs.InitialLengths.{unit_end}
use Rattle.companions.specs.Aranges.{IsSet, HasSet, SetsFollow}
use Rattle.companions.specs.Faults.{FaultSets}
use Rattle.companions.proofs.Tiling.{follow_push, follow_units, sets_whole, refused}
use Rattle.companions.proofs.set.read_aranges.Goals as goal

pub returns-in_default-parse-clause-fault : goal.returns-in_default-parse-clause-fault
returns-in_default-parse-clause-fault c =
    let section = c.args.section.now in
    let starts = c.args.starts.now.items in
    let at = c.loop-at.at in
    let none : ¬ HasSet section starts at = subst (λ (z : List ℕ). ¬ HasSet section z at) c.deref.ensures.value c.in_default-parse.ensures in
    refused (FaultSets section starts) c.args.origin at NoAranges c.refused-in_default-parse.result c.refused-in_default-parse.ensures
    (record { sets = c.loop-at.sets.items; at = at; front = c.loop-at.invariant.front; inside = c.loop-at-test.true; fault = (refl, c.in-Ok.ensures.whole, none) })

pub loop-at-preserved : goal.loop-at-preserved
loop-at-preserved c =
    let section = c.args.section.now in
    let starts = c.args.starts.now.items in
    let set = c.in-Some.set in
    let at = c.loop-at.at in
    let ends : c.in-Ok.end ≡ unit_end section at = c.in-Ok.ensures.end in
    let inside : unit_end section at ≤ length section = c.in-Ok.ensures.whole.inside in
    let stands : IsSet section starts set = subst (λ (z : List ℕ). IsSet section z set) c.deref.ensures.value c.in-Some.ensures.1 in
    let more = follow_push section starts c.loop-at.sets.items set 0 at c.loop-at.invariant.front c.in-Some.ensures.0 stands in
    let held = subst (λ (z : List ArangeSet). SetsFollow section starts z 0 (unit_end section at)) (sym c.in_ok-push.ensures) more in
    record { inside = omega arith; front = subst (λ (z : ℕ). SetsFollow section starts c.push.new.sets.items 0 z) (sym ends) held }

pub returns-clause-whole : goal.returns-clause-whole
returns-clause-whole c =
    let section = c.args.section.now in
    let starts = c.args.starts.now.items in
    let sets = c.loop-at.sets.items in
    let inside : c.loop-at.at ≤ length section = c.loop-at.invariant.inside in
    let all : c.loop-at.at ≡ length section = omega (arith, c.loop-at-test.false) in
    sets_whole section starts sets (subst (λ (z : ℕ). SetsFollow section starts sets 0 z) all c.loop-at.invariant.front)

pub returns-clause-units : goal.returns-clause-units
returns-clause-units c = follow_units c.args.section.now c.args.starts.now.items c.loop-at.sets.items 0 c.loop-at.at c.loop-at.invariant.front
