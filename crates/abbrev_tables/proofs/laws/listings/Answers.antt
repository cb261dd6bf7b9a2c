use Rattle.abbrev_tables.proofs.ListingOnce.{listing_once}
use Rattle.abbrev_tables.proofs.ListingStands.{tables_listed}
use Rattle.abbrev_tables.proofs.laws.listings.Goals as goal

pub returns-clause-once : goal.returns-clause-once
returns-clause-once c = listing_once

pub returns-clause-some : goal.returns-clause-some
returns-clause-some c = tables_listed
