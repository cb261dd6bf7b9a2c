use Rattle.std.proofs.Common.{◌≡◌, ◌-◌, ℕ, subst, arith}
use Rattle.elf_sections.specs.Names.{text_at}
use Rattle.elf_sections.specs.inside.Sums.{sum_of}
use Rattle.elf_sections.proofs.SumLaws.{sum_one_before}
use Rattle.elf_sections.proofs.sums.sum_from.Goals as goal

pub loop-at-preserved : goal.loop-at-preserved
loop-at-preserved c = record {
  order = omega (arith, c.loop-at-test.true);
  inside = omega (arith, c.loop-at.invariant.inside);
  sum = sum_one_before c.args.factor c.args.bytes.now c.loop-at.at c.loop-at.sum c.sum_before-sum.result (omega (arith, c.loop-at-test.true)) (omega (arith, c.loop-at.invariant.inside, c.requires.inside)) c.loop-at.invariant.sum c.sum_before-sum.ensures;
}

pub returns : goal.returns
returns c =
    let here : c.loop-at.at ≡ c.args.from = omega (arith, c.loop-at-test.false, c.loop-at.invariant.order) in
    subst (λ (k : ℕ). c.loop-at.sum ≡ sum_of c.args.factor (text_at c.args.bytes.now k)) here c.loop-at.invariant.sum
