use Rattle.std.proofs.Common.{length, ◌-◌, ◌≡◌, ◌≤◌, ◌<◌, ◌+◌, ◌*◌, ◌^◌, ℕ, List}
use Rattle.expr_ops.specs.Ops.{Stands}
use Rattle.expr_ops.specs.inside.Levels.{IsFront, IsChained}
use Rattle.expr_ops.proofs.read.+levels.Given as goal

abbrev pub decreases-read_level : goal.decreases-read_level
decreases-read_level l = 2 * l.deep + 1

abbrev pub decreases-read_segment : goal.decreases-read_segment
decreases-read_segment l = 2 * l.deep

abbrev pub invariant-read_level-loop-at : goal.invariant-read_level-loop-at
invariant-read_level-loop-at l = record {
  inside : l.at ≤ length l.bytes;
  first : l.first ≡ length l.fn.ops.items;
  grown : length l.fn.ops.items ≤ length l.ops.items;
  few : length l.ops.items < 2 ^ 32;
  chain : (outer : List ℕ) → Stands outer l.base l.bytes → IsChained outer l.base (l.base + l.at) l.fn.ops.items l.ops.items;
  front : (outer : List ℕ) → Stands outer l.base l.bytes → IsFront outer l.most l.deep l.bytes l.fn.ops.items l.ops.items l.starts.items l.at;
}

abbrev pub decreases-read_level-loop-at : goal.decreases-read_level-loop-at
decreases-read_level-loop-at l = length l.bytes - l.at
