use Rattle.std.proofs.Common.{◌≤◌, ℕ, length, drop}
use Rattle.tidy_places.specs.inside.Chains.{AreDue, IsFilledAmong}
use Rattle.tidy_places.proofs.first_filled_among.Given as goal

abbrev pub invariant-loop-due : goal.invariant-loop-due
invariant-loop-due l = record {
  due : (end : ℕ) × AreDue l.file l.start (drop l.due-index l.sections) end × (end ≤ length l.file);
  to : (p : ℕ) → IsFilledAmong l.file l.fn.from l.sections p → IsFilledAmong l.file l.start (drop l.due-index l.sections) p;
  back : (p : ℕ) → IsFilledAmong l.file l.start (drop l.due-index l.sections) p → IsFilledAmong l.file l.fn.from l.sections p;
}
