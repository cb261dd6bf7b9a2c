use Rattle.std.proofs.Common.{sym, refl, arith}
use Rattle.std.proofs.lemmas.Bool.{false≢true}
use Rattle.companions.specs.declared.set.ArangeSet.{ArangeSet}
use Rattle.same_meaning.proofs.SameSets.{same_unit, same_units}
use Rattle.same_meaning.proofs.kept.have_other_units.Goals as goal

pub returns-then-before-i : goal.returns-then-before-i
returns-then-before-i c =
    let e : ArangeSet = record { at = 0; unit = 0 } in
    (λ is same. let unit = same_unit c.args.before.now c.args.after.now c.loop-i.i e same (omega arith) (omega arith) in c.if-before-i.true (sym unit), λ differ. refl)

pub returns : goal.returns
returns c = (λ is. absurd (false≢true is), λ differ. absurd (differ (same_units c.args.before.now c.args.after.now (omega arith) (λ k d inside. c.loop-i.invariant k d (omega arith)))))
