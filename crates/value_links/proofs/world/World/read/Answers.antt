use Rattle.std.proofs.Common.{ℕ, List, length, sym, subst, arith}
use Rattle.std.specs.Prelude.{MatchOption}
use Rattle.dw_base.specs.Refusals.{IsFaultOf}
use Rattle.list_model.specs.declared.tables.AddrTable.{AddrTable}
use Rattle.list_model.specs.Addresses.{TablesFollow}
use Rattle.list_model.specs.Faults.{FaultTables as FaultTablesOf}
use Rattle.value_links.specs.Sections.{offset_named, debug_addr, addr_name}
use Rattle.value_links.proofs.WorldLaws.{world_read, world_held}
use Rattle.value_links.proofs.world.World.read.Goals as goal

pub check_parts-requires-clause-fault : goal.check_parts-requires-clause-fault
check_parts-requires-clause-fault c =
    let addr : List ℕ = debug_addr c.args.file.now in
    let read = c.in_ok-tables.field-0 in
    subst (λ (z : List AddrTable). MatchOption read.fault (TablesFollow addr z 0 (length addr)) (IsFaultOf (FaultTablesOf addr) (offset_named c.args.file.now addr_name))) (sym c.in_ok-parts.ensures.tables) c.in_ok-tables.ensures.fault

pub returns-in_err-check_parts-clause-refused : goal.returns-in_err-check_parts-clause-refused
returns-in_err-check_parts-clause-refused c = let refused = c.in_err-check_parts.ensures.refused c.args.reach c.in_ok-image.ensures.order in let e = c.from_residual-in_err-check_parts.ensures in grind (arith, refused, e)

pub read_sets-requires-clause-parts : goal.read_sets-requires-clause-parts
read_sets-requires-clause-parts c = (c.args.reach, c.in_ok-image.ensures.order, c.in_ok-check_parts.ensures.linked c.args.reach c.in_ok-image.ensures.order)

pub read_named_lists-requires-clause-parts : goal.read_named_lists-requires-clause-parts
read_named_lists-requires-clause-parts c = (c.args.reach, c.in_ok-image.ensures.order, c.in_ok-check_parts.ensures.linked c.args.reach c.in_ok-image.ensures.order)

pub returns-in_err-sets-clause-refused : goal.returns-in_err-sets-clause-refused
returns-in_err-sets-clause-refused c = let refused = c.in_err-sets.ensures.refused c.args.reach c.in_ok-image.ensures.order in let e = c.from_residual-in_err-sets.ensures in grind (arith, refused, e)

pub returns-in_err-ranges-clause-refused : goal.returns-in_err-ranges-clause-refused
returns-in_err-ranges-clause-refused c = let refused = c.in_err-ranges.ensures.refused c.in_ok-image.ensures.order in let e = c.from_residual-in_err-ranges.ensures in grind (arith, refused, e)

pub read_file_views-requires-clause-parts : goal.read_file_views-requires-clause-parts
read_file_views-requires-clause-parts c = (c.args.reach, c.in_ok-image.ensures.order, c.in_ok-check_parts.ensures.linked c.args.reach c.in_ok-image.ensures.order)

pub read_file_views-requires-clause-sets : goal.read_file_views-requires-clause-sets
read_file_views-requires-clause-sets c = (c.in_ok-sets.sets.items, c.in_ok-sets.ensures.sets)

pub read_file_views-requires-clause-lists : goal.read_file_views-requires-clause-lists
read_file_views-requires-clause-lists c = λ r holds. (c.in_ok-ranges.ranges, c.in_ok-ranges.ensures.lists r holds)

pub returns-in_err-views-clause-refused : goal.returns-in_err-views-clause-refused
returns-in_err-views-clause-refused c = let refused = c.in_err-views.ensures.refused c.in_ok-image.ensures.order in let e = c.from_residual-in_err-views.ensures in grind (arith, refused, e)

pub invariant_of-result : goal.invariant_of-result
invariant_of-result c = world_held c.args.file.now c.in_ok-parts.parts (c.in_ok-check_parts.ensures.linked c.args.reach c.in_ok-image.ensures.order) c.in_ok-sets.sets.items c.in_ok-sets.ensures.sets c.args.reach c.in_ok-image.ensures.order c.in_ok-parts.ensures.operations c.in_ok-ranges.ranges c.in_ok-ranges.locations c.in_ok-ranges.ensures.lists c.in_ok-views.views c.in_ok-views.ensures.views c.in_ok-image.image c.in_ok-image.ensures.image

pub returns-clause-world : goal.returns-clause-world
returns-clause-world c = world_read c.args.file.now c.in_ok-parts.parts (c.in_ok-check_parts.ensures.linked c.args.reach c.in_ok-image.ensures.order) c.in_ok-sets.sets.items c.in_ok-sets.ensures.sets c.args.reach c.in_ok-image.ensures.order c.in_ok-parts.ensures.operations c.in_ok-ranges.ranges c.in_ok-ranges.locations c.in_ok-ranges.ensures.lists c.in_ok-views.views c.in_ok-views.ensures.views c.in_ok-image.image c.in_ok-image.ensures.image
