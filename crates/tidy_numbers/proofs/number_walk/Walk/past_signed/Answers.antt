use Rattle.std.proofs.Common.{◌∙◌}
use Rattle.leb_codec.specs.Leb.{Sleb}
use Rattle.tidy_numbers.specs.Fronts.{BeginsLongSigned}
use Rattle.tidy_numbers.proofs.WalkedNumbers.{stands_inside, begins, ends_there, found_here}
use Rattle.tidy_numbers.proofs.number_walk.Walk.past_signed.Goals as goal

pub signed_front-requires-clause-within : goal.signed_front-requires-clause-within
signed_front-requires-clause-within c = let (n, (end, stands)) = c.requires in stands_inside (Sleb n) c.args.bytes.now c.args.self.at end stands

pub signed_front-requires-clause-number : goal.signed_front-requires-clause-number
signed_front-requires-clause-number c = let (n, (end, stands)) = c.requires in begins Sleb c.args.bytes.now c.args.self.at n end stands

pub returns-clause-ends : goal.returns-clause-ends
returns-clause-ends c = λ n end stands. c.past.ensures.ends ∙ ends_there Sleb c.args.bytes.now c.args.self.at c.signed_front.result.end c.signed_front.ensures.end n end stands

pub returns-clause-long : goal.returns-clause-long
returns-clause-long c = found_here BeginsLongSigned c.args.bytes.now c.args.self.at c.signed_front.result.long c.args.self.long c.past.result.long c.signed_front.ensures.long c.past.ensures.long
