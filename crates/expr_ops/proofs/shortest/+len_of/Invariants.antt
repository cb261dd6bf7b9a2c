use Rattle.std.proofs.Common.{length, ◌-◌, ◌≡◌, ◌≤◌, ◌+◌, drop, ℕ, List}
use Rattle.expr_ops.specs.Ops.{all_meant}
use Rattle.expr_ops.specs.Shortest.{shortest_length}
use Rattle.expr_ops.specs.Nests.{Nest}
use Rattle.expr_ops.specs.inside.Cursors.{Leaves}
use Rattle.expr_ops.proofs.shortest.+len_of.Given as goal

abbrev pub decreases-len_of : goal.decreases-len_of
decreases-len_of l = length l.ops.now

abbrev pub invariant-loop-at : goal.invariant-loop-at
invariant-loop-at l = record {
  inside : l.at ≤ length l.ops;
  nest : Nest (all_meant l.bytes (drop l.at l.ops));
  sum : l.sum + shortest_length (drop l.ref_at l.refs) (all_meant l.bytes (drop l.at l.ops)) ≡ shortest_length (drop l.fn.ref_at l.refs) (all_meant l.bytes l.ops);
  leaves : (rest : List ℕ) → Leaves (drop l.ref_at l.refs) (all_meant l.bytes (drop l.at l.ops)) rest → Leaves (drop l.fn.ref_at l.refs) (all_meant l.bytes l.ops) rest;
}

abbrev pub decreases-loop-at : goal.decreases-loop-at
decreases-loop-at l = length l.ops - l.at
