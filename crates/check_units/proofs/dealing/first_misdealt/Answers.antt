use Rattle.std.proofs.Common.{◌+◌, below_more, arith}
use Rattle.slot_layout.specs.Rows.{rows_of}
use Rattle.slot_layout.proofs.GrowLaws.{count_rows}
use Rattle.check_units.proofs.DealLaws.{dealt_up, dealt_inside, has_from, has_not_from}
use Rattle.check_units.proofs.dealing.first_misdealt.Goals as goal

pub slice_bounds-own-count : goal.slice_bounds-own-count
slice_bounds-own-count c =
    let slots = c.args.slots.now in
    dealt_up (rows_of slots) c.args.sizes.now c.args.ranks.now c.args.starts.now c.requires.checked.each_slot c.requires.dealt c.loop-i.i (omega (arith, count_rows slots))

pub slice_bounds-own-start : goal.slice_bounds-own-start
slice_bounds-own-start c =
    let slots = c.args.slots.now in
    let inside = dealt_inside (rows_of slots) c.args.sizes.now c.args.ranks.now c.args.starts.now c.requires.checked.each_slot c.requires.dealt (c.loop-i.i + 1) (omega (arith, count_rows slots)) in
    let up = dealt_up (rows_of slots) c.args.sizes.now c.args.ranks.now c.args.starts.now c.requires.checked.each_slot c.requires.dealt c.loop-i.i (omega (arith, count_rows slots)) in
    omega (arith, up, inside)

pub returns-then-not-has_its_ranks : goal.returns-then-not-has_its_ranks
returns-then-not-has_its_ranks c = record {
  within = omega arith;
  before = c.loop-i.invariant;
  fails = λ _. has_not_from c.args.slots.now c.args.sizes.now c.args.ranks.now c.args.starts.now c.requires.checked.each_slot c.requires.dealt c.loop-i.i c.loop-i-test.true c.has_its_ranks.result c.if-not-has_its_ranks.true c.has_its_ranks.ensures;
}

pub loop-i-preserved : goal.loop-i-preserved
loop-i-preserved c =
    below_more _ _ c.loop-i.invariant
    (has_from c.args.slots.now c.args.sizes.now c.args.ranks.now c.args.starts.now c.requires.checked.each_slot c.requires.dealt c.loop-i.i c.loop-i-test.true c.has_its_ranks.result c.if-not-has_its_ranks.false c.has_its_ranks.ensures)
