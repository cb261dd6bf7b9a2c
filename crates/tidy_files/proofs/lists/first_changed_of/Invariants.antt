use Rattle.std.proofs.Common.{◌<◌, ℕ, get_or}
use Rattle.list_arena.specs.Held.{HeldList}
use Rattle.value_links.specs.World.{lists_held}
use Rattle.tidy_files.specs.Tidy.{SayTheSame}
use Rattle.tidy_files.proofs.lists.first_changed_of.Given as goal

-- the lists so far say the same
abbrev pub invariant-loop-number : goal.invariant-loop-number
invariant-loop-number l = (k : ℕ) (d : HeldList) → k < l.number → SayTheSame l.kind (get_or (lists_held l.before l.kind) k d).raw (get_or (lists_held l.after l.kind) k d).raw
