use Rattle.std.proofs.Common.{ℕ, List, take}
use Rattle.expr_ops.specs.Expressions.{Operation}
use Rattle.unit_slots.specs.inside.Rows.{HasSpots}
use Rattle.unit_slots.specs.inside.Made.{IsBegun, AddsLists}
use Rattle.unit_slots.proofs.lists.push_lists.Given as goal

-- the slots of the lists so far are added
abbrev pub invariant-loop-number : goal.invariant-loop-number
invariant-loop-number l = record {
  begun : IsBegun l.unit l.spots l.made.slots.items l.made.sizes.items;
  added : (held : ℕ → List Operation) (own : List ℕ) → HasSpots l.unit held own l.spots → AddsLists l.world l.unit held own (take l.number-index l.lists) l.fn.made.slots.items l.fn.made.sizes.items l.made.slots.items l.made.sizes.items;
}
