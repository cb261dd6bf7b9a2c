use Rattle.value_links.proofs.ReadingOnce.{linkable_once, reading_once}
use Rattle.value_links.proofs.laws.one_reading.Goals as goal

pub returns-clause-links : goal.returns-clause-links
returns-clause-links c = linkable_once

pub returns-clause-reading : goal.returns-clause-reading
returns-clause-reading c = reading_once
