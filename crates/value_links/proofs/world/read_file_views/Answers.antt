use Rattle.std.proofs.Common.{◌≡◌, ◌<◌, ◌+◌, ◌^◌, ◌∙◌, ℕ, List, length, sym, subst}
use Rattle.std.proofs.lemmas.Result.{IfOk-weaker, IfErr-weaker}
use Rattle.dw_base.specs.Refusals.{IsFaultOf, IsRefusedFor}
use Rattle.list_model.specs.declared.entry.ListKind.TheVariants.{Locations}
use Rattle.list_arena.specs.Held.{HeldList}
use Rattle.value_links.specs.Sections.{debug_info, debug_abbrev}
use Rattle.value_links.specs.Reading.{ListRead, Linkable}
use Rattle.value_links.specs.Lists.{AreListsOf}
use Rattle.value_links.specs.ListFaults.{FaultOfViews}
use Rattle.value_links.specs.Parts.{HoldsParts, lists_in}
use Rattle.value_links.specs.inside.Passes.{NamesLaterFault}
use Rattle.value_links.specs.World.{HoldLists}
use Rattle.value_links.proofs.HeldLists.{lists_held}
use Rattle.value_links.proofs.WorldLaws.{ViewsHeld, units_held_in_order, section_is, views_refused}
use Rattle.value_links.proofs.world.read_file_views.Goals as goal

pub read_view_runs-requires-clause-held : goal.read_view_runs-requires-clause-held
read_view_runs-requires-clause-held c = let file : List ℕ = c.args.file.now in (debug_info file, debug_abbrev file, units_held_in_order file c.args.parts.now c.requires.parts.2)

pub read_view_runs-requires-clause-parts : goal.read_view_runs-requires-clause-parts
read_view_runs-requires-clause-parts c = let order = c.requires.parts.2 in lists_held c.args.file.now order.r c.args.parts.now order.holds

pub read_view_runs-requires-clause-lists : goal.read_view_runs-requires-clause-lists
read_view_runs-requires-clause-lists c =
    let order = c.requires.parts.2 in
    let lists = (c.requires.lists order.r order.holds).1 in
    (c.args.file.now, order.r, lists.location_lists, order.holds, lists.are_locations, lists.hold_locations)

pub read_view_runs-requires-clause-room : goal.read_view_runs-requires-clause-room
read_view_runs-requires-clause-room c =
    let lists = c.lists_section-origin in
    let same : lists.result.bytes.now ≡ (lists_in c.args.parts.now Locations).section.now = lists.ensures.bytes ∙ sym (section_is c.args.file.now c.args.parts.now c.requires.parts.2 Locations) in
    subst (λ (z : List ℕ). lists.result.origin + length z < 2 ^ 64) same lists.ensures.room

pub returns-clause-views : goal.returns-clause-views
returns-clause-views c =
    let file : List ℕ = c.args.file.now in
    let parts = c.args.parts.now in
    let held : List HeldList = c.args.locations.now in
    IfOk-weaker c.read_view_runs.result (λ views. (file : List ℕ) (r : Linkable) (read : List ListRead) → HoldsParts file r parts → AreListsOf r Locations read → HoldLists r Locations read held → ViewsHeld r read views) (λ views. (r : Linkable) (read : List ListRead) → HoldsParts file r parts → AreListsOf r Locations read → HoldLists r Locations read held → ViewsHeld r read views) (λ views each r read holds are lists. each file r read holds are lists) c.read_view_runs.ensures.views

pub returns-clause-refused : goal.returns-clause-refused
returns-clause-refused c =
    let file : List ℕ = c.args.file.now in
    let parts = c.args.parts.now in
    let order = c.requires.parts.2 in
    let origin : ℕ = c.lists_section-origin.result.origin in
    IfErr-weaker c.read_view_runs.result (λ refusal. (file : List ℕ) (r : Linkable) → HoldsParts file r parts → IsRefusedFor (IsFaultOf (FaultOfViews r) origin) refusal) (λ refusal. NamesLaterFault file c.args.reach refusal) (λ refusal f. views_refused file parts order c.requires.sets.0 c.requires.sets.1 c.args.reach refusal c.requires.operations (subst (λ (o : ℕ). IsRefusedFor (IsFaultOf (FaultOfViews order.r) o) refusal) c.lists_section-origin.ensures.origin (f file order.r order.holds))) c.read_view_runs.ensures.fault
