use Rattle.std.proofs.Common.{◌∙◌}
use Rattle.leb_codec.specs.Leb.{Uleb}
use Rattle.tidy_numbers.specs.Fronts.{BeginsLong}
use Rattle.tidy_numbers.proofs.WalkedNumbers.{stands_inside, begins, ends_there, found_here}
use Rattle.tidy_numbers.proofs.number_walk.Walk.past_unsigned.Goals as goal

pub unsigned_front-requires-clause-within : goal.unsigned_front-requires-clause-within
unsigned_front-requires-clause-within c = let (n, (end, stands)) = c.requires in stands_inside (Uleb n) c.args.bytes.now c.args.self.at end stands

pub unsigned_front-requires-clause-number : goal.unsigned_front-requires-clause-number
unsigned_front-requires-clause-number c = let (n, (end, stands)) = c.requires in begins Uleb c.args.bytes.now c.args.self.at n end stands

pub returns-clause-ends : goal.returns-clause-ends
returns-clause-ends c = λ n end stands. c.past.ensures.ends ∙ ends_there Uleb c.args.bytes.now c.args.self.at c.unsigned_front.result.end c.unsigned_front.ensures.end n end stands

pub returns-clause-long : goal.returns-clause-long
returns-clause-long c = found_here BeginsLong c.args.bytes.now c.args.self.at c.unsigned_front.result.long c.args.self.long c.past.result.long c.unsigned_front.ensures.long c.past.ensures.long
