use Rattle.std.proofs.Common.{◌≤◌, ◌<◌, ◌+◌, ◌^◌, ℕ, List, sym, subst}
use Rattle.std.specs.List.{All}
use Rattle.std.proofs.lemmas.Result.{IfOk-weaker, IfErr-weaker, err_from_is_err_and}
use Rattle.dw_base.specs.Refusals.{IsFaultOf, IsRefusedFor}
use Rattle.list_model.specs.declared.entry.ListKind.TheVariants.{Locations}
use Rattle.loc_lists.specs.Views.{view_limit}
use Rattle.value_links.specs.Reading.{Linkable, ListRead}
use Rattle.value_links.specs.Lists.{AreListsOf}
use Rattle.value_links.specs.ListFaults.{FaultOfViews}
use Rattle.value_links.specs.World.{HoldLists}
use Rattle.value_links.specs.Parts.{HoldsParts, section_held}
use Rattle.value_links.specs.inside.Views.{HaveLists, total_for, PassesWith, AreTurned, AreRunsRead, IsWanted, FaultWanted}
use Rattle.value_links.proofs.ListBytes.{refused_for}
use Rattle.value_links.proofs.ViewLists.{held_apart, have_lists, have_room}
use Rattle.value_links.proofs.ViewRuns.{all_wanted, wanted_fault, passes_fault, views_are}
use Rattle.value_links.proofs.views.read_view_runs.Goals as goal

pub check_total-requires-clause-apart : goal.check_total-requires-clause-apart
check_total-requires-clause-apart c = held_apart c.args.parts.now c.args.lists.now c.requires.lists

pub check_total-requires-clause-lists : goal.check_total-requires-clause-lists
check_total-requires-clause-lists c =
    let l = c.requires.lists in
    subst (λ (z : List (ℕ × ℕ)). HaveLists z c.args.lists.now) (sym c.deref.ensures.value) (have_lists c.args.parts.now c.args.lists.now l c.in_ok-viewings.viewings.items (c.in_ok-viewings.ensures.all l.0 l.1 l.3))

pub check_total-requires-clause-room : goal.check_total-requires-clause-room
check_total-requires-clause-room c =
    let l = c.requires.lists in
    subst (λ (z : List (ℕ × ℕ)). All (λ (y : ℕ × ℕ). c.args.origin + y.0 < 2 ^ 64) z) (sym c.deref.ensures.value) (have_room c.args.parts.now c.args.lists.now l c.in_ok-viewings.viewings.items (c.in_ok-viewings.ensures.all l.0 l.1 l.3) (c.requires.parts.tiled Locations) c.args.origin c.requires.room)

pub read_runs-requires-clause-tiled : goal.read_runs-requires-clause-tiled
read_runs-requires-clause-tiled c = record { tiled = c.requires.parts.tiled Locations; few = c.requires.parts.few Locations }

pub read_runs-requires-clause-apart : goal.read_runs-requires-clause-apart
read_runs-requires-clause-apart c = held_apart c.args.parts.now c.args.lists.now c.requires.lists

pub returns-in_err-check_total-clause-fault : goal.returns-in_err-check_total-clause-fault
returns-in_err-check_total-clause-fault c =
    let l = c.requires.lists in
    let viewings : List (ℕ × ℕ) = c.in_ok-viewings.viewings.items in
    let p = err_from_is_err_and c.from_residual-in_err-check_total.result c.from_residual-in_err-check_total.ensures.1 in
    let passes = subst (λ (z : List (ℕ × ℕ)). PassesWith z c.args.lists.now c.args.origin c.in_err-check_total.field-0.0) c.deref.ensures.value c.in_err-check_total.ensures.fault in
    rw (p.1, p.2) (λ (file : List ℕ) (r : Linkable) (holds : HoldsParts file r c.args.parts.now).
    passes_fault c.args.parts.now c.args.lists.now l viewings (c.in_ok-viewings.ensures.all l.0 l.1 l.3) (c.requires.parts.tiled Locations) file r holds (c.in_ok-viewings.ensures.all file r holds) c.in_ok-viewings.ensures.rising c.args.origin c.in_err-check_total.field-0.0 passes)

pub read_runs-requires-clause-lists : goal.read_runs-requires-clause-lists
read_runs-requires-clause-lists c =
    let l = c.requires.lists in
    let viewings : List (ℕ × ℕ) = c.in_ok-viewings.viewings.items in
    let turned : List (ℕ × ℕ) = c.in_ok-turned.turned.items in
    let within : total_for c.args.lists.now viewings ≤ view_limit = subst (λ (z : List (ℕ × ℕ)). total_for c.args.lists.now z ≤ view_limit) c.deref.ensures.value c.in_ok-check_total.ensures.few in
    let turns : AreTurned viewings turned = subst (λ (z : List (ℕ × ℕ)). AreTurned z turned) c.deref-2.ensures.value c.in_ok-turned.ensures in
    subst (λ (z : List (ℕ × ℕ)). All (IsWanted (section_held c.args.parts.now.locations) c.args.lists.now) z) (sym c.deref-3.ensures.value)
    (all_wanted c.args.parts.now c.args.lists.now l viewings (c.in_ok-viewings.ensures.all l.0 l.1 l.3) (c.requires.parts.tiled Locations) within turned turns)

pub returns-clause-views : goal.returns-clause-views
returns-clause-views c =
    let l = c.requires.lists in
    let viewings : List (ℕ × ℕ) = c.in_ok-viewings.viewings.items in
    let turned : List (ℕ × ℕ) = c.in_ok-turned.turned.items in
    let within : total_for c.args.lists.now viewings ≤ view_limit = subst (λ (z : List (ℕ × ℕ)). total_for c.args.lists.now z ≤ view_limit) c.deref.ensures.value c.in_ok-check_total.ensures.few in
    let turns : AreTurned viewings turned = subst (λ (z : List (ℕ × ℕ)). AreTurned z turned) c.deref-2.ensures.value c.in_ok-turned.ensures in
    IfOk-weaker c.read_runs.result _ _ (λ views all. λ (file : List ℕ) (r : Linkable) (lists : List ListRead) (holds : HoldsParts file r c.args.parts.now) (are : AreListsOf r Locations lists) (hold : HoldLists r Locations lists c.args.lists.now).
    views_are c.args.parts.now c.args.lists.now l viewings (c.in_ok-viewings.ensures.all l.0 l.1 l.3) (c.requires.parts.tiled Locations) file r holds (c.in_ok-viewings.ensures.all file r holds) c.in_ok-viewings.ensures.rising turned turns views
    (subst (λ (z : List (ℕ × ℕ)). AreRunsRead (section_held c.args.parts.now.locations) c.args.lists.now z views) c.deref-3.ensures.value all) within lists are hold) c.read_runs.ensures.read

pub returns-clause-fault : goal.returns-clause-fault
returns-clause-fault c =
    let l = c.requires.lists in
    let viewings : List (ℕ × ℕ) = c.in_ok-viewings.viewings.items in
    let turned : List (ℕ × ℕ) = c.in_ok-turned.turned.items in
    let turns : AreTurned viewings turned = subst (λ (z : List (ℕ × ℕ)). AreTurned z turned) c.deref-2.ensures.value c.in_ok-turned.ensures in
    IfErr-weaker c.read_runs.result _ _ (λ refusal refused. λ (file : List ℕ) (r : Linkable) (holds : HoldsParts file r c.args.parts.now).
    refused_for (FaultWanted (section_held c.args.parts.now.locations) c.args.lists.now turned) (FaultOfViews r) (λ kind place f.
    wanted_fault c.args.parts.now c.args.lists.now l viewings (c.in_ok-viewings.ensures.all l.0 l.1 l.3) (c.requires.parts.tiled Locations) file r holds (c.in_ok-viewings.ensures.all file r holds) turned turns kind place f) c.args.origin refusal
    (subst (λ (z : List (ℕ × ℕ)). IsRefusedFor (IsFaultOf (FaultWanted (section_held c.args.parts.now.locations) c.args.lists.now z) c.args.origin) refusal) c.deref-3.ensures.value refused)) c.read_runs.ensures.fault
