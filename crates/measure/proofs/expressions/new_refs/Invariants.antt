use Rattle.std.proofs.Common.{◌<◌, ◌^◌}
use Rattle.std.specs.List.{All}
use Rattle.measure.proofs.expressions.new_refs.Given as goal

abbrev pub invariant-loop-op : goal.invariant-loop-op
invariant-loop-op l = All (λ n. n < 2 ^ 32) l.refs.items
