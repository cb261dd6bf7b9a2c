use Rattle.std.proofs.Common.{◌≢◌, ◌<◌, ℕ, get_or}
use Rattle.form_codec.proofs.read.first_zero.Given as goal

abbrev pub invariant-loop-place : goal.invariant-loop-place
invariant-loop-place l = record { clear : (k : ℕ) → k < l.place → get_or l.bytes k 0 ≢ 0 }
