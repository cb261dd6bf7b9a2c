use Rattle.std.proofs.Common.{List, take}
use Rattle.list_model.specs.Entries.{Entry}
use Rattle.list_least.specs.Plans.{ArePicks}
use Rattle.list_write.specs.Written.{to_write}
use Rattle.list_write.specs.inside.Puts.{AreEntriesPut}
use Rattle.list_write.proofs.list.put_list.Given as goal

abbrev pub invariant-loop-pick : goal.invariant-loop-pick
invariant-loop-pick l = (entries : List Entry) → ArePicks l.kind l.list.plan.picks.items entries → AreEntriesPut l.kind (take l.pick-index entries) (to_write l.list).expressions l.next l.fn.out.items l.out.items
