use Rattle.std.proofs.Common.{ℕ, List, take}
use Rattle.expr_ops.specs.Expressions.{Operation}
use Rattle.unit_slots.specs.inside.Rows.{HasSpots}
use Rattle.unit_slots.specs.inside.Made.{IsBegun, AddsItems}
use Rattle.unit_slots.proofs.lists.push_items.Given as goal

-- the slots of the items so far are added
abbrev pub invariant-loop-raw : goal.invariant-loop-raw
invariant-loop-raw l = record {
  begun : IsBegun l.unit l.spots l.made.slots.items l.made.sizes.items;
  added : (held : ℕ → List Operation) (own : List ℕ) → HasSpots l.unit held own l.spots → AddsItems l.unit held own l.section (take l.raw-index l.raws) l.fn.made.slots.items l.fn.made.sizes.items l.made.slots.items l.made.sizes.items;
}
