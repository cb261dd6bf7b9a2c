use Rattle.value_links.proofs.LinkedOnce.{linked_once}
use Rattle.value_links.proofs.MeaningLaws.{meaning_once, links_mean}
use Rattle.value_links.proofs.laws.one_meaning.Goals as goal

pub returns-clause-linked : goal.returns-clause-linked
returns-clause-linked c = linked_once

pub returns-clause-meaning : goal.returns-clause-meaning
returns-clause-meaning c = meaning_once

pub returns-clause-means : goal.returns-clause-means
returns-clause-means c = links_mean
