use Rattle.value_links.proofs.Meaningful.{linked_means}
use Rattle.value_links.proofs.laws.linked_files_mean.Goals as goal

pub returns : goal.returns
returns c = linked_means
