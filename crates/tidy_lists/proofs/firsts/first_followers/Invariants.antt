use Rattle.std.proofs.Common.{◌≡◌, length}
use Rattle.tidy_lists.proofs.FirstLaws.{AreFirstSoFar}
use Rattle.tidy_lists.proofs.firsts.first_followers.Given as goal

abbrev pub invariant-loop-pair : goal.invariant-loop-pair
invariant-loop-pair l = (length l.firsts.items ≡ l.count) × AreFirstSoFar l.pairs l.pair-index l.count l.firsts.items
