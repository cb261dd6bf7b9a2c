use Rattle.std.proofs.Common.{refl}
use Rattle.value_links.specs.Sections.{lists_name}
use Rattle.tidy_numbers.specs.LongNumbers.{IsLongInSection}
use Rattle.tidy_numbers.proofs.FileNumbers.{lists_inside, ranges_least, locations_least, least_in_file}
use Rattle.tidy_numbers.proofs.sections.first_in_section.Goals as goal

pub in_lists-requires : goal.in_lists-requires
in_lists-requires c =
    let least = ranges_least c.args.classes c.args.world.now c.args.kind c.in-Ranges.is c.in_ok-lists.lists c.in_ok-lists.ensures in
    lists_inside c.args.world.now c.requires c.args.classes c.args.kind c.in_ok-lists.lists least

pub in_lists-requires-in-Locations : goal.in_lists-requires-in-Locations
in_lists-requires-in-Locations c =
    let least = locations_least c.args.classes c.args.world.now c.args.kind c.in-Locations.is c.in_ok-lists.lists c.first_in_views.result c.earlier-place.result c.in_ok-lists.ensures c.first_in_views.ensures c.earlier-place.ensures in
    lists_inside c.args.world.now c.requires c.args.classes c.args.kind c.earlier-place.result least

pub returns-in-Ranges : goal.returns-in-Ranges
returns-in-Ranges c = λ s read holds.
    let least = ranges_least c.args.classes c.args.world.now c.args.kind c.in-Ranges.is c.in_ok-lists.lists c.in_ok-lists.ensures in
    least_in_file c.args.world.now.image (lists_name c.args.kind) (lists_name c.args.kind) refl (IsLongInSection c.args.classes s c.args.kind) c.in_ok-lists.lists c.in_lists.result c.in_lists.ensures (least s read holds)

pub returns-in-Locations : goal.returns-in-Locations
returns-in-Locations c = λ s read holds.
    let least = locations_least c.args.classes c.args.world.now c.args.kind c.in-Locations.is c.in_ok-lists.lists c.first_in_views.result c.earlier-place.result c.in_ok-lists.ensures c.first_in_views.ensures c.earlier-place.ensures in
    least_in_file c.args.world.now.image (lists_name c.args.kind) (lists_name c.args.kind) refl (IsLongInSection c.args.classes s c.args.kind) c.earlier-place.result c.in_lists-in-Locations.result c.in_lists-in-Locations.ensures (least s read holds)
