use Rattle.std.specs.Prelude.{take}
use Rattle.value_links.specs.Parts.{section_held}
use Rattle.value_links.specs.inside.Views.{AreRunsRead}
use Rattle.value_links.proofs.views.read_runs.Given as goal

abbrev pub invariant-loop-list : goal.invariant-loop-list
invariant-loop-list l = AreRunsRead (section_held l.contributions) l.lists (take l.list-index l.turned) l.views
