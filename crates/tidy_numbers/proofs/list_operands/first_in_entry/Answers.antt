use Rattle.tidy_numbers.specs.LongLists.{AreLongOperandsOf}
use Rattle.tidy_numbers.proofs.ListEntryPlaces.{entry_found}
use Rattle.tidy_numbers.proofs.list_operands.first_in_entry.Goals as goal

pub returns : goal.returns
returns c = entry_found AreLongOperandsOf c.args.list c.args.section.now c.args.raw.now c.in_ok-kind.kind c.in_ok-kind.ensures c.first_of_operands.result c.first_of_operands.ensures
