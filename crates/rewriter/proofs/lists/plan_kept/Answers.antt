use Rattle.std.proofs.Common.{◌≡◌, ◌+◌, ◌∙◌, List, subst}
use Rattle.list_model.specs.declared.entry.RawEntry.{RawEntry}
use Rattle.list_model.specs.Entries.{Entry, AreSaid}
use Rattle.list_least.specs.declared.plan.Plan.{Plan}
use Rattle.list_least.specs.Plans.{entries_bytes, ArePicks}
use Rattle.value_links.specs.World.{World}
use Rattle.rewriter.specs.inside.Plans.{IsPlanOf}
use Rattle.rewriter.proofs.ListTotals.{list_few}
use Rattle.rewriter.proofs.PlannedLists.{held_list, held_said, kept_planned, if_both}
use Rattle.rewriter.proofs.lists.plan_kept.Goals as goal

pub kept_plan-requires-clause-few : goal.kept_plan-requires-clause-few
kept_plan-requires-clause-few c =
    let world = c.requires.list.0 in
    let is = c.requires.list.1 in
    let held = held_list world.image world is.r c.args.kind c.args.list.now is.holds c.requires.list.2 in
    list_few world is c.args.kind held.0 held.1 c.entries.result.now.items (c.entries.ensures ∙ held.2.raws)

pub kept_plan-requires-clause-said : goal.kept_plan-requires-clause-said
kept_plan-requires-clause-said c =
    let world = c.requires.list.0 in
    let is = c.requires.list.1 in
    let held = held_list world.image world is.r c.args.kind c.args.list.now is.holds c.requires.list.2 in
    held_said is.r c.args.kind held.0 held.1 (is.read.lists c.args.kind) c.entries.result.now.items (c.entries.ensures ∙ held.2.raws)

pub returns : goal.returns
returns c =
    let list = c.args.list.now in
    let same : c.entries.result.now.items ≡ list.raw = c.entries.ensures in
    if_both c.kept_plan.result
    (λ (plan : Plan). (entries : List Entry) → AreSaid c.args.kind c.entries.result.now.items entries → ArePicks c.args.kind plan.picks.items entries)
    (λ (plan : Plan). (entries : List Entry) → AreSaid c.args.kind c.entries.result.now.items entries → plan.size ≡ entries_bytes entries + 1)
    (λ (plan : Plan). (world : World) → IsPlanOf c.args.classes world c.args.kind list plan)
    (λ plan picked bytes world r old other holds held.
    kept_planned r c.args.kind old list held c.entries_say.ensures.said c.shortest_lists.ensures.frozen plan c.requires.kept
    (subst (λ (z : List RawEntry). (entries : List Entry) → AreSaid c.args.kind z entries → ArePicks c.args.kind plan.picks.items entries) same picked)
    (subst (λ (z : List RawEntry). (entries : List Entry) → AreSaid c.args.kind z entries → plan.size ≡ entries_bytes entries + 1) same bytes)
    other)
    c.kept_plan.ensures.picked c.kept_plan.ensures.bytes
