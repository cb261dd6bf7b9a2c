use Rattle.std.specs.Prelude.{◌≡◌, ◌≤◌, take}
use Rattle.loc_lists.specs.Views.{view_limit}
use Rattle.value_links.specs.inside.Views.{total_for}
use Rattle.value_links.proofs.views.check_total.Given as goal

abbrev pub invariant-loop-place : goal.invariant-loop-place
invariant-loop-place l = record { is : l.total ≡ total_for l.lists (take l.place-index l.viewings); few : l.total ≤ view_limit }
