use Rattle.tidy_numbers.proofs.PairWalks.{first_stands, last_stands, ends_pair, found_pair}
use Rattle.tidy_numbers.proofs.views.past_pair.Goals as goal

pub past_unsigned-first-requires : goal.past_unsigned-first-requires
past_unsigned-first-requires c =
    let (pair, (end, stands)) = c.requires in
    first_stands pair c.args.bytes.now c.args.walk.at end stands

pub past_unsigned-requires : goal.past_unsigned-requires
past_unsigned-requires c =
    let (pair, (end, stands)) = c.requires in
    last_stands pair c.args.bytes.now c.args.walk.at end stands c.past_unsigned-first.result.at c.past_unsigned-first.ensures.ends

pub returns-clause-ends : goal.returns-clause-ends
returns-clause-ends c = λ pair end stands. ends_pair pair c.args.bytes.now c.args.walk.at end stands c.past_unsigned-first.result.at c.past_unsigned-first.ensures.ends c.past_unsigned.result.at c.past_unsigned.ensures.ends

pub returns-clause-long : goal.returns-clause-long
returns-clause-long c =
    let (pair, (end, stands)) = c.requires in
    found_pair pair c.args.bytes.now c.args.walk.at end stands c.past_unsigned-first.result.at c.past_unsigned-first.ensures.ends c.args.walk.long c.past_unsigned-first.result.long c.past_unsigned.result.long c.past_unsigned-first.ensures.long c.past_unsigned.ensures.long
