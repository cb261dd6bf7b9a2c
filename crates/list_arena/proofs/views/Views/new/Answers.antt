use Rattle.list_arena.proofs.PairLaws.{none_held, none_well}
use Rattle.list_arena.proofs.views.Views.new.Goals as goal

pub invariant_of-result : goal.invariant_of-result
invariant_of-result c = rw (c.new.ensures, c.new-2.ensures.items, c.new-3.ensures.items) none_well

pub returns : goal.returns
returns c = rw (c.new.ensures, c.new-2.ensures.items, c.new-3.ensures.items) none_held
