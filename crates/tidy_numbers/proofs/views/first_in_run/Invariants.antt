use Rattle.std.proofs.Common.{get_or}
use Rattle.list_arena.specs.Held.{HeldViews}
use Rattle.tidy_numbers.specs.inside.NumberWalks.{run_read}
use Rattle.tidy_numbers.proofs.PairWalks.{IsRunWalked}
use Rattle.tidy_numbers.proofs.views.first_in_run.Given as goal

abbrev pub invariant-loop : goal.invariant-loop
invariant-loop l = (d : HeldViews) → IsRunWalked l.bytes (run_read (get_or l.views l.number d)) l.fn.before l.counter l.next.at l.next.long
