use Rattle.std.proofs.Common.{arith}
use Rattle.tidy_numbers.specs.LongLists.{AreLongOperandsOf, HoldsBehindCode}
use Rattle.tidy_numbers.proofs.FoundAmong.{below_next}
use Rattle.tidy_numbers.proofs.ListPlaces.{raw_at, among_found}
use Rattle.tidy_numbers.proofs.lists.first_operand_in.Goals as goal

pub loop-raw-preserved : goal.loop-raw-preserved
loop-raw-preserved c =
    below_next (λ k. HoldsBehindCode AreLongOperandsOf c.args.kind c.args.section.now (raw_at c.args.raws.now k)) c.loop-raw.raw-index c.loop-raw.found c.first_in_entry.result c.earlier-found.result c.loop-raw.invariant c.first_in_entry.ensures c.earlier-found.ensures

pub returns : goal.returns
returns c = among_found (HoldsBehindCode AreLongOperandsOf c.args.kind c.args.section.now) c.args.raws.now c.loop-raw.raw-index c.loop-raw.found (omega (arith, c.loop-raw-test.false)) c.loop-raw.invariant
