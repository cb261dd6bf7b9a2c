use Rattle.std.proofs.Common.{◌≡◌, ◌+◌, ◌++◌, List, drop, map, sym, subst}
use Rattle.std.specs.List.{concat}
use Rattle.sample_maker.specs.declared.drawn.Step.{Step}
use Rattle.sample_maker.specs.inside.Bytes.{step_bytes}
use Rattle.sample_maker.proofs.Joining.{concat_goes_on}
use Rattle.sample_maker.proofs.lines.put_steps.Goals as goal

pub loop-step-preserved : goal.loop-step-preserved
loop-step-preserved c =
    let i = c.loop-step.step-index in
    let whole = c.args.out.now.items ++ concat (map step_bytes c.args.steps.now.items) in
    let mid = c.loop-step.out.items in
    let new = c.put_step.new.out.items in
    let same = c.deref-step-items.ensures.value in
    let so_far = subst (λ (z : List Step). mid ++ concat (map step_bytes (drop i z)) ≡ whole) (sym same) c.loop-step.invariant in
    subst (λ (z : List Step). new ++ concat (map step_bytes (drop (i + 1) z)) ≡ whole) same (concat_goes_on step_bytes c.deref-step-items.result.now i _ mid new whole c.loop-step-test.true so_far c.in_ok-put_step.ensures)
