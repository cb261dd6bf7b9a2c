use Rattle.std.proofs.Common.{◌≡◌, ◌≢◌, ◌<◌, ℕ, length, ap, subst, arith, below_more}
use Rattle.std.specs.Prelude.{Option, min}
use Rattle.same_meaning.specs.inside.Compared.{OfMeanings, IsFirstFound}
use Rattle.same_meaning.proofs.ProgramMeanings.{one_of_both}
use Rattle.same_meaning.proofs.UnitMeanings.{AreSameAt, DifferIn, few_held, first_in, first_alone, none_other}
use Rattle.same_meaning.proofs.units.first_entry.Goals as goal

pub overflow_cast-common : goal.overflow_cast-common
overflow_cast-common c =
    let size : length c.units.result.now.items ≡ length c.args.before.now.units = ap length c.units.ensures in
    let few = few_held c.args.before.now c.requires.before in
    omega arith

pub returns-in-Some-clause-first : goal.returns-in-Some-clause-first
returns-in-Some-clause-first c =
    let a = c.args.before.now in
    let b = c.args.after.now in
    let u = c.loop-unit.unit in
    first_in a b c.requires.before c.requires.after c.one_reading.ensures.reading u c.in-Some.entry c.loop-unit.invariant.units (subst (λ (z : Option ℕ). OfMeanings a b (λ c d. IsFirstFound (DifferIn c d u) z)) c.in-Some.is c.in_ok-entry.ensures.first)

pub loop-unit-preserved : goal.loop-unit-preserved
loop-unit-preserved c =
    let a = c.args.before.now in
    let b = c.args.after.now in
    let u = c.loop-unit.unit in
    let here : OfMeanings a b (λ c d. AreSameAt c d u) = subst (λ (z : Option ℕ). OfMeanings a b (λ c d. IsFirstFound (DifferIn c d u) z)) c.in_default.is c.in_ok-entry.ensures.first in
    record {
      units = below_more (λ (v : ℕ). OfMeanings a b (λ c d. AreSameAt c d v)) u c.loop-unit.invariant.units here;
      lists = c.first_of_unit.ensures.lists;
    }

pub returns-then-old-new-clause-first : goal.returns-then-old-new-clause-first
returns-then-old-new-clause-first c =
    let a = c.args.before.now in
    let b = c.args.after.now in
    let n = c.min-common.result in
    let old : length c.units.result.now.items ≡ length a.units = ap length c.units.ensures in
    let new : length c.units-2.result.now.items ≡ length b.units = ap length c.units-2.ensures in
    let whole : n ≡ length a.units = omega arith in
    let also : n ≡ length b.units = omega arith in
    none_other a b c.requires.before c.requires.after c.one_reading.ensures.reading n whole also (λ (v : ℕ) (less : v < n). c.loop-unit.invariant.units v (omega arith))

pub returns-else-old-new-clause-first : goal.returns-else-old-new-clause-first
returns-else-old-new-clause-first c =
    let a = c.args.before.now in
    let b = c.args.after.now in
    let n = c.min-common.result in
    let old : length c.units.result.now.items ≡ length a.units = ap length c.units.ensures in
    let new : length c.units-2.result.now.items ≡ length b.units = ap length c.units-2.ensures in
    let least : n ≡ min (length a.units) (length b.units) = omega arith in
    let apart : length a.units ≢ length b.units = λ (same : length a.units ≡ length b.units). c.if-old-new.false (omega arith) in
    first_alone a b c.requires.before c.requires.after c.one_reading.ensures.reading n (one_of_both n (length a.units) (length b.units) least) (omega arith) (omega arith) apart (λ (v : ℕ) (less : v < n). c.loop-unit.invariant.units v (omega arith))
