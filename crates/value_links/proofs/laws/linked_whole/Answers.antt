use Rattle.value_links.proofs.LinkLaws.{linked_faultless}
use Rattle.value_links.proofs.ExpressionLaws.{linked_or_faulty, linked_operations_faultless}
use Rattle.value_links.proofs.laws.linked_whole.Goals as goal

pub returns-clause-some : goal.returns-clause-some
returns-clause-some c = linked_or_faulty

pub returns-clause-whole : goal.returns-clause-whole
returns-clause-whole c = linked_faultless

pub returns-clause-expressions : goal.returns-clause-expressions
returns-clause-expressions c = linked_operations_faultless
