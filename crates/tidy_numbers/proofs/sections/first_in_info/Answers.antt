use Rattle.value_links.specs.Sections.{info_name}
use Rattle.tidy_numbers.specs.LongNumbers.{IsLongInInfo}
use Rattle.tidy_numbers.proofs.FileNumbers.{info_least, info_inside, inside_named, least_in_file}
use Rattle.tidy_numbers.proofs.sections.first_in_info.Goals as goal

pub in_file-requires-clause-inside : goal.in_file-requires-clause-inside
in_file-requires-clause-inside c =
    let inside = info_inside c.args.world.now c.requires c.first_in_entries.result c.first_in_expressions.result c.earlier-place.result c.first_in_entries.ensures c.first_in_expressions.ensures c.earlier-place.ensures in
    inside_named c.args.world.now.image c.as_slice.result.now info_name c.as_slice.ensures c.earlier-place.result inside

pub returns : goal.returns
returns c = λ s read holds.
    let least = info_least c.args.world.now c.requires c.first_in_entries.result c.first_in_expressions.result c.earlier-place.result c.first_in_entries.ensures c.first_in_expressions.ensures c.earlier-place.ensures in
    least_in_file c.args.world.now.image c.as_slice.result.now info_name c.as_slice.ensures (IsLongInInfo s) c.earlier-place.result c.in_file.result c.in_file.ensures (least s read holds)
