use Rattle.std.proofs.Common.{◌<◌, [], get_or, arith}
use Rattle.loc_lists.specs.declared.views.ViewPair.{ViewPair}
use Rattle.list_arena.specs.Held.{HeldViews}
use Rattle.tidy_numbers.specs.inside.NumberWalks.{run_read}
use Rattle.tidy_numbers.proofs.PairWalks.{run_none, run_pair, run_more, run_all}
use Rattle.tidy_numbers.proofs.views.first_in_run.Goals as goal

abbrev no_pair : ViewPair
no_pair = record { first = 0; last = 0 }

pub loop-init : goal.loop-init
loop-init c = λ d. run_none c.args.bytes.now (run_read (get_or c.args.views.now c.args.number d)) c.args.before c.at.result (c.at.ensures d) (c.requires.run d)

pub past_pair-next-requires : goal.past_pair-next-requires
past_pair-next-requires c =
    let l = c.loop in
    let none : HeldViews = record { list = 0; at = 0; pairs = [] } in
    let before : l.counter < c.pair_count-end.result = c.loop-test.true in
    run_pair c.args.bytes.now (run_read (get_or c.args.views.now c.args.number none)) c.args.before l.counter l.next.at l.next.long (l.invariant none) no_pair (omega (arith, c.pair_count-end.ensures none, before))

pub loop-preserved : goal.loop-preserved
loop-preserved c = λ d.
    let l = c.loop in
    let before : l.counter < c.pair_count-end.result = c.loop-test.true in
    let next = c.past_pair-next in
    run_more c.args.bytes.now (run_read (get_or c.args.views.now c.args.number d)) c.args.before l.counter l.next.at l.next.long (l.invariant d) no_pair (omega (arith, c.pair_count-end.ensures d, before)) next.result.at next.result.long next.ensures.ends next.ensures.long

pub returns : goal.returns
returns c = λ d.
    let l = c.loop in
    run_all c.args.bytes.now (run_read (get_or c.args.views.now c.args.number d)) c.args.before l.counter l.next.at l.next.long (l.invariant d) (omega (arith, c.pair_count-end.ensures d, c.loop-test.false))
