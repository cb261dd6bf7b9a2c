use Rattle.check_records.proofs.WrittenRecords.{certificates_accepted}
use Rattle.check_records.proofs.laws.written_records.Goals as goal

pub returns : goal.returns
returns c = certificates_accepted
