use Rattle.std.proofs.Common.{ℕ, List}
use Rattle.std.specs.List.{All}
use Rattle.value_links.specs.inside.Tabled.{IsNamed, HoldFront}
use Rattle.value_links.proofs.units.read_each.Given as goal

abbrev pub invariant-loop-number : goal.invariant-loop-number
invariant-loop-number l = (abbrevs : List ℕ) → All (IsNamed abbrevs) l.tables → HoldFront l.info abbrevs l.heads l.tables l.numbers l.units.items l.before l.number
