use Rattle.value_links.proofs.TableLaws.{places_rise, place_known}
use Rattle.value_links.proofs.tables.table_numbers.Goals as goal

pub number_of-requires-clause-rising : goal.number_of-requires-clause-rising
number_of-requires-clause-rising c = places_rise c.args.places.now c.requires.places.rising

pub number_of-requires-clause-known : goal.number_of-requires-clause-known
number_of-requires-clause-known c = place_known c.args.heads.now c.args.places.now c.loop-head.head-index _ c.requires.places c.loop-head-test.true
