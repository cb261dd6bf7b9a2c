use Rattle.std.proofs.Common.{◌≡◌, ◌<◌, ℕ, slice_index}
use Rattle.tidy_files.proofs.programs.first_other_byte.Given as goal

-- the bytes so far are those that stood there
abbrev pub invariant-loop-place : goal.invariant-loop-place
invariant-loop-place l = (k : ℕ) → k < l.place → slice_index l.old k ≡ slice_index l.new k
