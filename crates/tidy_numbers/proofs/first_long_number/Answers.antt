use Rattle.tidy_numbers.proofs.FileNumbers.{file_least}
use Rattle.tidy_numbers.proofs.first_long_number.Goals as goal

pub returns : goal.returns
returns c =
    file_least c.args.classes c.one_reading.ensures.reading c.args.world.now c.requires c.first_in_abbrev.result c.first_in_info.result c.in_ok-ranges.ranges c.in_ok-locations.locations c.earlier-lists.result c.earlier-entries.result c.earlier.result c.earlier-lists.ensures c.earlier-entries.ensures c.earlier.ensures c.first_in_abbrev.ensures c.first_in_info.ensures c.in_ok-ranges.ensures c.in_ok-locations.ensures
