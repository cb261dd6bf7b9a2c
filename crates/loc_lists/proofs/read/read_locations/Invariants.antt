use Rattle.std.proofs.Common.{◌≤◌, ◌<◌, ◌+◌, ◌-◌, length}
use Rattle.std.specs.List.{All}
use Rattle.list_model.specs.Reading.{list_entry_limit}
use Rattle.loc_lists.proofs.LocationReads.{IsFront}
use Rattle.loc_lists.proofs.read.read_locations.Given as goal

abbrev pub invariant-loop-raws : goal.invariant-loop-raws
invariant-loop-raws l = record {
  inside : l.place ≤ length l.bytes;
  front : IsFront l.bytes l.at l.raws.items l.place;
  few : length l.raws.items ≤ list_entry_limit l.reach;
  places : All (λ raw. raw.at < length l.section) l.raws.items;
  spans : All (λ raw. raw.expr.at + raw.expr.len ≤ length l.section) l.raws.items;
}

abbrev pub decreases-loop-raws : goal.decreases-loop-raws
decreases-loop-raws l = length l.bytes - l.place
