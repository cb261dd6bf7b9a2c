use Rattle.std.proofs.Common.{◌<◌, ℕ}
use Rattle.same_meaning.specs.inside.Compared.{AreSameLists}
use Rattle.same_meaning.proofs.EntryOrder.{AreSameAt}
use Rattle.same_meaning.proofs.entries.first_entry_in.Given as goal

abbrev pub invariant-loop-id : goal.invariant-loop-id
invariant-loop-id l = record {
  entries : (j : ℕ) → j < l.id → AreSameAt l.before l.after l.unit j;
  lists : AreSameLists l.before l.after l.lists;
}
