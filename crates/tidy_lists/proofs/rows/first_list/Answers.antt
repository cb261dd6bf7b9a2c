use Rattle.list_model.specs.declared.entry.ListKind.TheVariants.{Ranges, Locations}
use Rattle.tidy_lists.specs.Due.Row.{OfList}
use Rattle.tidy_lists.proofs.RowLaws.{found_inside, row_found}
use Rattle.tidy_lists.proofs.rows.first_list.Goals as goal

pub in_file-requires : goal.in_file-requires
in_file-requires c = found_inside c.args.before.now c.args.after.now c.requires.before c.requires.after OfList Ranges c.in_ok-ranges.ranges c.in_ok-ranges.ensures

pub in_file-requires-2 : goal.in_file-requires-2
in_file-requires-2 c = found_inside c.args.before.now c.args.after.now c.requires.before c.requires.after OfList Locations c.in_ok-locations.locations c.in_ok-locations.ensures

pub returns : goal.returns
returns c =
    row_found c.args.before.now c.args.after.now c.args.after.now.image OfList c.in_ok-ranges.ranges c.in_ok-locations.locations c.in_file.result c.in_file-2.result c.lesser.result c.in_file.ensures c.in_file-2.ensures c.lesser.ensures c.in_ok-ranges.ensures c.in_ok-locations.ensures
