use Rattle.std.specs.Prelude.{◌≡◌, ◌≤◌, slice_index_or, take}
use Rattle.list_arena.specs.Held.{HeldList}
use Rattle.value_links.specs.inside.Views.{raw_pairs}
use Rattle.value_links.proofs.views.pair_count.Given as goal

abbrev pub invariant-loop-index : goal.invariant-loop-index
invariant-loop-index l = record { is : (d : HeldList) → l.count ≡ raw_pairs (take l.index (slice_index_or l.lists l.number d).raw); few : l.count ≤ l.index }
