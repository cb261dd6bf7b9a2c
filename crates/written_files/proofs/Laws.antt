-- What is so of a file that is written anew, in one: the crates above take it as one.
use Rattle.written_files.specs.inside.Laws.{AreLaws}
use Rattle.written_files.proofs.Counterparts.{holds_of_these, correspond, written_forms}
use Rattle.written_files.proofs.FewestBytes.{shortest_are_fewest, fewest_counted, held_counted}
use Rattle.written_files.proofs.Expressions.{entries_fewest, lists_fewest}
use Rattle.written_files.proofs.Standing.{lists_stand, runs_stand}

pub written_laws : AreLaws
written_laws = record {
  holds = holds_of_these;
  correspond = correspond;
  written_forms = written_forms;
  shortest = shortest_are_fewest;
  counted = fewest_counted;
  held_counted = held_counted;
  entries_fewest = entries_fewest holds_of_these correspond;
  lists_fewest = lists_fewest holds_of_these correspond;
  lists_stand = lists_stand holds_of_these;
  runs_stand = runs_stand holds_of_these;
}
