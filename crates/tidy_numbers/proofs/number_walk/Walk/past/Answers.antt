use Rattle.std.proofs.Common.{inl, inr}
use Rattle.tidy_numbers.proofs.WalkedNumbers.{found_next}
use Rattle.tidy_numbers.proofs.number_walk.Walk.past.Goals as goal
use Rattle.tidy_numbers.proofs.number_walk.Walk.past.Goals.{then-front, else-front}

pub returns-clause-long : goal.returns-clause-long
returns-clause-long c =
    elim c.if-front.branch [
      | then-front w ↦ found_next c.args.front.long c.args.self.at c.args.self.long c.if-front.here c.earlier.result (inl (w.if-front.true, w.here-is)) c.earlier.ensures
      | else-front w ↦ found_next c.args.front.long c.args.self.at c.args.self.long c.if-front.here c.earlier.result (inr (w.if-front.false, w.here-is)) c.earlier.ensures
    ]
