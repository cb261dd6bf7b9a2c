use Rattle.std.proofs.Common.{◌∙◌, get_or, ap}
use Rattle.line_sums.specs.Accepted.{numbers_of}
use Rattle.line_params.proofs.Joining.{joined_with, spread_with, spread_more, spread_room}
use Rattle.line_params.proofs.runs.push_numbers.Goals as goal

pub push_number-requires : goal.push_number-requires
push_number-requires c = record { room = spread_room c.args.runs.now.items c.loop-number.runs.items c.args.numbers.now c.loop-number.number-index c.loop-number-test.true c.loop-number.invariant.spread c.requires.room }

pub loop-number-preserved : goal.loop-number-preserved
loop-number-preserved c =
    let number = get_or c.args.numbers.now c.loop-number.number-index 0 in
    record {
      joined = rw c.in_ok-push_number.ensures (joined_with c.loop-number.runs.items number (c.type_inv.numbers c.loop-number.number-index).fits c.loop-number.invariant.joined);
      spread = spread_more (numbers_of c.args.runs.now.items) (numbers_of c.loop-number.runs.items) c.args.numbers.now c.loop-number.number-index 0 _ c.loop-number-test.true c.loop-number.invariant.spread (ap numbers_of c.in_ok-push_number.ensures ∙ spread_with c.loop-number.runs.items number);
    }
