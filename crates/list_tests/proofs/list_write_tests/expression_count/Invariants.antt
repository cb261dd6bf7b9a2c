use Rattle.std.proofs.Common.{◌≡◌, List, take}
use Rattle.list_model.specs.Entries.{Entry}
use Rattle.list_least.specs.Plans.{ArePicks}
use Rattle.list_write.specs.inside.Puts.{carried_count}
use Rattle.list_tests.proofs.list_write_tests.expression_count.Given as goal

abbrev pub invariant-loop-pick : goal.invariant-loop-pick
invariant-loop-pick l = (entries : List Entry) → ArePicks l.kind l.picks.items entries → l.count ≡ carried_count l.kind (take l.pick-index entries)
