use Rattle.std.proofs.Common.{◌≡◌, ◌++◌, drop, map}
use Rattle.std.specs.List.{concat}
use Rattle.sample_maker.specs.inside.Bytes.{step_bytes}
use Rattle.sample_maker.proofs.lines.put_steps.Given as goal

abbrev pub invariant-loop-step : goal.invariant-loop-step
invariant-loop-step l = l.out.items ++ concat (map step_bytes (drop l.step-index l.steps.items)) ≡ l.fn.out.items ++ concat (map step_bytes l.steps.items)
