use Rattle.std.proofs.Common.{arith}
use Rattle.tidy_numbers.specs.inside.ListEntries.{IsLongInItem}
use Rattle.tidy_numbers.proofs.FoundAmong.{below_next}
use Rattle.tidy_numbers.proofs.ListPlaces.{raw_at, among_found}
use Rattle.tidy_numbers.proofs.lists.first_in_items.Goals as goal

pub loop-raw-preserved : goal.loop-raw-preserved
loop-raw-preserved c =
    below_next (λ k. IsLongInItem c.args.owned c.args.section.now (raw_at c.args.raws.now k)) c.loop-raw.raw-index c.loop-raw.found c.in_ok-first_in_item.field-0 c.earlier-found.result c.loop-raw.invariant c.in_ok-first_in_item.ensures c.earlier-found.ensures

pub returns : goal.returns
returns c = among_found (IsLongInItem c.args.owned c.args.section.now) c.args.raws.now c.loop-raw.raw-index c.loop-raw.found (omega (arith, c.loop-raw-test.false)) c.loop-raw.invariant
