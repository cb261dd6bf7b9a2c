use Rattle.std.proofs.Common.{take}
use Rattle.list_model.specs.declared.entry.ListKind.TheVariants.{Locations}
use Rattle.loc_lists.specs.Locations.{expressions_of}
use Rattle.value_links.specs.Sections.{debug_lists}
use Rattle.rewriter.specs.inside.Owned.{AddsListSlots}
use Rattle.rewriter.specs.inside.Placed.{unit_in}
use Rattle.rewriter.proofs.list_slots.push_list.Given as goal

-- of the entries before
abbrev pub invariant-loop-entry : goal.invariant-loop-entry
invariant-loop-entry l = AddsListSlots (unit_in l.world.units l.unit) (expressions_of (debug_lists l.world.image Locations) (take l.entry-index l.list.raw)) l.fn.slots.items l.slots.items
