use Rattle.value_links.proofs.Meaningful.{valid_means}
use Rattle.value_links.proofs.Validity.{valid_meaning}
use Rattle.value_links.proofs.laws.valid_files.Goals as goal

pub returns-clause-mean : goal.returns-clause-mean
returns-clause-mean c = valid_means

pub returns-clause-whole : goal.returns-clause-whole
returns-clause-whole c = valid_meaning
