use Rattle.list_model.specs.declared.entry.ListKind.TheVariants.{Locations}
use Rattle.std.proofs.Common.{arith}
use Rattle.tidy_numbers.specs.LongLists.{IsLongLength, HoldsBehindCode}
use Rattle.tidy_numbers.proofs.FoundAmong.{below_next}
use Rattle.tidy_numbers.proofs.ListPlaces.{raw_at, among_found}
use Rattle.tidy_numbers.proofs.lists.first_length_in.Goals as goal

pub loop-raw-preserved : goal.loop-raw-preserved
loop-raw-preserved c =
    below_next (λ k. HoldsBehindCode IsLongLength Locations c.args.section.now (raw_at c.args.raws.now k)) c.loop-raw.raw-index c.loop-raw.found c.long_length.result c.earlier-found.result c.loop-raw.invariant c.long_length.ensures c.earlier-found.ensures

pub returns : goal.returns
returns c = among_found (HoldsBehindCode IsLongLength Locations c.args.section.now) c.args.raws.now c.loop-raw.raw-index c.loop-raw.found (omega (arith, c.loop-raw-test.false)) c.loop-raw.invariant
