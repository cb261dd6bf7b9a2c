use Rattle.value_links.proofs.TabledUnits.{has_root}
use Rattle.value_links.proofs.RootValues.{column_inside, attribute_there}
use Rattle.value_links.proofs.check.root_attribute.Goals as goal

pub attribute_of-requires-clause-id : goal.attribute_of-requires-clause-id
attribute_of-requires-clause-id c = has_root c.args.unit.now c.args.table.now c.requires.unit

pub attribute_of-requires-clause-column : goal.attribute_of-requires-clause-column
attribute_of-requires-clause-column c = column_inside c.args.unit.now c.args.table.now c.requires.unit 0 (has_root c.args.unit.now c.args.table.now c.requires.unit) c.args.column c.requires.column

pub returns : goal.returns
returns c =
    let unit = c.args.unit.now in
    let table = c.args.table.now in
    let root = has_root unit table c.requires.unit in
    attribute_there unit table c.requires.unit 0 root c.args.column (column_inside unit table c.requires.unit 0 root c.args.column c.requires.column) c.attribute_of.result.0 c.attribute_of.result.1 c.attribute_of.ensures.name c.attribute_of.ensures.value
