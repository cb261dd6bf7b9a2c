use Rattle.value_links.proofs.SectionLaws.{sections_are_found}
use Rattle.value_links.proofs.laws.sections_found.Goals as goal

pub returns : goal.returns
returns c = sections_are_found
