use Rattle.list_lookup.specs.Owned.{OwnNothing}
use Rattle.list_lookup.proofs.owned.nothing_owned.Given as goal

-- of the units before
abbrev pub invariant-loop : goal.invariant-loop
invariant-loop l = OwnNothing l.counter l.all.items
