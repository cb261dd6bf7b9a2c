use Rattle.std.proofs.Common.{◌≡◌, ◌≤◌, length}
use Rattle.tidy_lists.specs.inside.Compared.{OfBoth}
use Rattle.tidy_lists.specs.inside.DuePlaces.{runs_held, AreDue}
use Rattle.tidy_lists.proofs.due.due_places.Given as goal

abbrev pub invariant-loop-number : goal.invariant-loop-number
invariant-loop-number l =
    (length l.lists.items ≡ l.number) × (length l.runs.items ≤ length (runs_held l.before l.kind)) × OfBoth l.before l.after (λ r s. AreDue l.kind r s l.lists.items l.runs.items)
