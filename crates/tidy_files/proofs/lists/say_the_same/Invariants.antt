use Rattle.std.proofs.Common.{get_or}
use Rattle.list_arena.specs.Held.{HeldList}
use Rattle.tidy_files.proofs.SameEntries.{AreAlikeBelow}
use Rattle.tidy_files.proofs.lists.say_the_same.Given as goal

-- the entries so far are alike
abbrev pub invariant-loop-index : goal.invariant-loop-index
invariant-loop-index l = (d : HeldList) → AreAlikeBelow l.index (get_or l.old l.number d).raw (get_or l.new l.number d).raw
