use Rattle.list_model.proofs.Walking.{one_table, base_whole, filled_whole}
use Rattle.list_model.proofs.laws.addresses_have_one_table.Goals as goal

pub returns-clause-unique : goal.returns-clause-unique
returns-clause-unique c = one_table

pub returns-clause-whole : goal.returns-clause-whole
returns-clause-whole c = base_whole

pub returns-clause-filled : goal.returns-clause-filled
returns-clause-filled c = filled_whole
