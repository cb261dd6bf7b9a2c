use Rattle.certificates.proofs.Ends.{unique_record}
use Rattle.certificates.proofs.Files.{one_reading, never_broken, one_break}
use Rattle.certificates.proofs.Spellings.{one_spelling}
use Rattle.certificates.proofs.records_end.Goals as goal

pub returns-clause-end : goal.returns-clause-end
returns-clause-end c = unique_record

pub returns-clause-once : goal.returns-clause-once
returns-clause-once c = one_reading

pub returns-clause-never_both : goal.returns-clause-never_both
returns-clause-never_both c = never_broken

pub returns-clause-one_break : goal.returns-clause-one_break
returns-clause-one_break c = one_break

pub returns-clause-spelled_once : goal.returns-clause-spelled_once
returns-clause-spelled_once c = one_spelling
