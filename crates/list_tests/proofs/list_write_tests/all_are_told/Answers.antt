use Rattle.std.proofs.Common.{◌≡◌, ◌≤◌, ℕ, List, length, map, subst, arith, inl, inr, refl}
use Rattle.std.proofs.lemmas.Bool.{cases_lt}
use Rattle.list_model.specs.declared.contribution.Contribution.{Contribution}
use Rattle.list_write.specs.Written.{to_write, part_at}
use Rattle.list_tests.specs.Writable.{AreTold}
use Rattle.list_tests.proofs.list_write_tests.all_are_told.Goals as goal

pub loop-part-preserved : goal.loop-part-preserved
loop-part-preserved c = λ p less.
    let lists = map to_write c.args.lists.now.items in
    let i = c.loop-part.part-index in
    elim (cases_lt p i) [
      | inl before ↦ c.loop-part.invariant p before
      | inr past ↦
          let same : i ≡ p = omega arith in
          subst (λ (z : ℕ). AreTold c.args.section.now (part_at c.args.parts.now z) lists) same (subst (λ (z : List Contribution). AreTold c.args.section.now (part_at z i) lists) refl (c.are_told.ensures c.if-not-are_told.false))
    ]

pub returns : goal.returns
returns c = λ holds p slot inside less.
    let past : length c.args.parts.now ≤ c.loop-part.part-index = subst (λ (z : List Contribution). length z ≤ c.loop-part.part-index) refl c.loop-part-test.false in
    c.loop-part.invariant p (omega (arith, past, inside)) slot less
