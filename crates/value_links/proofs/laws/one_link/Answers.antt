use Rattle.value_links.proofs.LinksOnce.{linked_value_once, link_once}
use Rattle.value_links.proofs.laws.one_link.Goals as goal

pub returns-clause-value : goal.returns-clause-value
returns-clause-value c = linked_value_once

pub returns-clause-link : goal.returns-clause-link
returns-clause-link c = link_once
