use Rattle.std.proofs.Common.{◌-◌, List, length}
use Rattle.leb_codec.specs.Records.{Record}
use Rattle.check_records.proofs.Standing.{Standing}
use Rattle.check_records.proofs.broken.first_broken.Given as goal

abbrev pub invariant-loop-at : goal.invariant-loop-at
invariant-loop-at l = (records : List Record) × Standing l.fn.classes l.certificate l.at records

abbrev pub decreases-loop-at : goal.decreases-loop-at
decreases-loop-at l = length l.certificate - l.at
