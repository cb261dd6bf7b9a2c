use Rattle.std.proofs.Common.{◌≡◌, ◌≤◌, ◌*◌, ◌∙◌, ℕ, List, length, true, sym, subst}
use Rattle.std.specs.Prelude.{map}
use Rattle.dw_base.specs.declared.classes.Classes.{Classes}
use Rattle.dw_base.specs.declared.fault.Reach.TheVariants.{Narrow}
use Rattle.list_model.specs.declared.context.Context.{Context}
use Rattle.list_model.specs.declared.entry.ListKind.{ListKind}
use Rattle.list_model.specs.Items.{HasTable}
use Rattle.list_model.specs.Potentials.{AcceptsList, AreGreatest}
use Rattle.list_least.specs.declared.plan.Plan.{Plan}
use Rattle.list_least.specs.Plans.{bounds_of, IsPlanned}
use Rattle.value_links.specs.Reading.{lists_of, list_at, context_at}
use Rattle.list_lookup.proofs.AddressTables.{context_table}
use Rattle.rewriter.specs.inside.Plans.{IsPlanOf, ArePotentialsOf}
use Rattle.rewriter.proofs.PlannedLists.{held_list, has_owner, owner_context, few_items, are_of_kind, planned_by, recorded_by, if_all}
use Rattle.rewriter.proofs.lists.live_plan.Goals as goal

pub unreachable-requires : goal.unreachable-requires
unreachable-requires c =
    let held = held_list c.args.world.now.image c.args.world.now c.requires.world.r c.args.kind c.args.list.now c.requires.world.holds c.requires.list in
    has_owner c.requires.world.r c.args.kind (list_at (lists_of c.requires.world.r c.args.kind) held.0) c.args.list.now held.2 c.args.items.now c.requires.items (sym c.owner.ensures ∙ c.in_default.is)

pub of-indexes-requires : goal.of-indexes-requires
of-indexes-requires c =
    (c.args.world.now, c.args.addr.now, c.requires.maps, owner_context c.args.world.now Narrow c.requires.world c.args.kind c.args.list.now c.requires.list c.args.items.now c.requires.items c.in-Some.owner (sym c.owner.ensures ∙ c.in-Some.is) c.context-context.result c.context-context.ensures)

pub least_in-requires-clause-table : goal.least_in-requires-clause-table
least_in-requires-clause-table c =
    let known = owner_context c.args.world.now Narrow c.requires.world c.args.kind c.args.list.now c.requires.list c.args.items.now c.requires.items c.in-Some.owner (sym c.owner.ensures ∙ c.in-Some.is) c.context-context.result c.context-context.ensures in
    subst (λ (z : List ℕ). HasTable z c.context-context.result.table) (sym c.requires.addr) (context_table c.args.world.now Narrow c.requires.world c.context-context.result known)

pub least_in-requires-clause-mapped : goal.least_in-requires-clause-mapped
least_in-requires-clause-mapped c =
    let known = owner_context c.args.world.now Narrow c.requires.world c.args.kind c.args.list.now c.requires.list c.args.items.now c.requires.items c.in-Some.owner (sym c.owner.ensures ∙ c.in-Some.is) c.context-context.result c.context-context.ensures in
    c.of-indexes.ensures c.args.world.now c.args.addr.now c.requires.maps known

pub least_in-requires-clause-few : goal.least_in-requires-clause-few
least_in-requires-clause-few c =
    let held = held_list c.args.world.now.image c.args.world.now c.requires.world.r c.args.kind c.args.list.now c.requires.world.holds c.requires.list in
    few_items c.requires.world.r c.args.kind (list_at (lists_of c.requires.world.r c.args.kind) held.0) c.args.list.now held.2 c.args.items.now c.requires.items

pub least_in-requires-clause-fits : goal.least_in-requires-clause-fits
least_in-requires-clause-fits c =
    let held = held_list c.args.world.now.image c.args.world.now c.requires.world.r c.args.kind c.args.list.now c.requires.world.holds c.requires.list in
    are_of_kind c.requires.world.r c.args.kind (list_at (lists_of c.requires.world.r c.args.kind) held.0) c.args.list.now held.2 c.args.items.now c.requires.items

pub returns-clause-plan : goal.returns-clause-plan
returns-clause-plan c =
    let world = c.args.world.now in
    let addr : List ℕ = c.args.addr.now in
    let context : Context = c.context-context.result in
    let items = c.args.items.now in
    let kind : ListKind = c.args.kind in
    if_all c.least_in.result
    (λ (plan : Plan). IsPlanned kind addr context (map bounds_of items) plan.picks.items plan.size)
    (λ (plan : Plan). AcceptsList addr context (map bounds_of items) plan.potentials.items plan.size)
    (λ (plan : Plan). length plan.picks.items ≤ 2 * length items)
    (λ (plan : Plan). (classes : Classes) → classes.lists ≡ true → IsPlanOf classes world kind c.args.list.now plan)
    (λ plan is accepted few classes lists r old other holds held.
    let addr_is : addr ≡ r.links.addresses = c.requires.addr ∙ sym holds.addresses in
    let context_is : context ≡ context_at r.links c.in-Some.owner = c.context-context.ensures world.image r holds in
    planned_by lists r kind old c.args.list.now held items c.requires.items c.entries_say.ensures.said c.entries_say.ensures.walk c.shortest_lists.ensures.shortest c.shortest_lists.ensures.planned addr c.bytes_are_small.ensures.small addr_is context c.in-Some.owner (sym c.owner.ensures ∙ c.in-Some.is) context_is plan is accepted few other)
    c.least_in.ensures.planned c.least_in.ensures.accepted c.least_in.ensures.few

pub returns-clause-potentials : goal.returns-clause-potentials
returns-clause-potentials c =
    let world = c.args.world.now in
    let addr : List ℕ = c.args.addr.now in
    let context : Context = c.context-context.result in
    let items = c.args.items.now in
    let kind : ListKind = c.args.kind in
    if_all c.least_in.result
    (λ (plan : Plan). IsPlanned kind addr context (map bounds_of items) plan.picks.items plan.size)
    (λ (plan : Plan). AcceptsList addr context (map bounds_of items) plan.potentials.items plan.size)
    (λ (plan : Plan). AreGreatest addr context (map bounds_of items) plan.potentials.items)
    (λ (plan : Plan). (classes : Classes) → classes.lists ≡ true → ArePotentialsOf classes world kind c.args.list.now plan.potentials.items)
    (λ plan is accepted greatest classes lists r old holds held.
    let addr_is : addr ≡ r.links.addresses = c.requires.addr ∙ sym holds.addresses in
    let context_is : context ≡ context_at r.links c.in-Some.owner = c.context-context.ensures world.image r holds in
    recorded_by lists r kind old c.args.list.now held items c.requires.items c.entries_say.ensures.said c.entries_say.ensures.walk c.shortest_lists.ensures.shortest c.shortest_lists.ensures.planned addr c.bytes_are_small.ensures.small addr_is context c.in-Some.owner (sym c.owner.ensures ∙ c.in-Some.is) context_is plan is accepted greatest)
    c.least_in.ensures.planned c.least_in.ensures.accepted c.least_in.ensures.greatest
