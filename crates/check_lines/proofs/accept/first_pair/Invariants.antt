use Rattle.std.proofs.Common.{◌≡◌, ◌<◌, ◌*◌, ℕ}
use Rattle.check_lines.specs.inside.Looking.{IsNumberAccepted}
use Rattle.check_lines.proofs.accept.first_pair.Given as goal

abbrev pub invariant-loop-below : goal.invariant-loop-below
invariant-loop-below l = record {
  accepted : (pair : ℕ) → pair < 256 * l.below → IsNumberAccepted l.min l.bytes l.counted l.numbers pair;
  ways : l.ways ≡ l.min;
}
