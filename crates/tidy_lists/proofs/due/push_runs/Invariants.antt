use Rattle.std.proofs.Common.{◌-◌, length}
use Rattle.tidy_lists.specs.inside.Compared.{OfBoth}
use Rattle.tidy_lists.specs.inside.DuePlaces.{IsNextDue}
use Rattle.tidy_lists.proofs.HeldThings.{AreRunsSwept}
use Rattle.tidy_lists.proofs.due.push_runs.Given as goal

abbrev pub invariant-loop-due : goal.invariant-loop-due
invariant-loop-due l =
    OfBoth l.before l.after (λ r s. IsNextDue l.fn.kind r s l.number l.due.items l.next) × AreRunsSwept l.before l.fn.kind l.number (length l.fn.due.items) (length l.due.items)

abbrev pub decreases-loop-due : goal.decreases-loop-due
decreases-loop-due l = l.count - length l.due.items
