use Rattle.std.proofs.Common.{ℕ, List, get_or, sym, subst, refl}
use Rattle.std.proofs.lemmas.List.Elements.{Contains-get_or}
use Rattle.std.proofs.lemmas.Result.{err_from_is_err_and}
use Rattle.loc_lists.specs.declared.views.ViewPair.{ViewPair}
use Rattle.loc_lists.specs.Views.{FaultRun}
use Rattle.list_arena.specs.Held.{HeldList}
use Rattle.value_links.specs.Reading.{ListSection, part_at}
use Rattle.value_links.specs.Parts.{section_held}
use Rattle.value_links.specs.inside.Views.{raw_pairs, IsListFrom, IsRunRead, FaultWanted}
use Rattle.value_links.proofs.ListBytes.{refused_for}
use Rattle.value_links.proofs.ViewTotals.{no_list}
use Rattle.value_links.proofs.ViewRuns.{runs_push}
use Rattle.value_links.proofs.views.read_runs.Goals as goal

pub list_from-number-requires-clause-known : goal.list_from-number-requires-clause-known
list_from-number-requires-clause-known c = (c.requires.lists c.loop-list.list-index (0, 0) c.loop-list-test.true).known

pub read_run-requires-clause-stands : goal.read_run-requires-clause-stands
read_run-requires-clause-stands c = λ d. (c.requires.lists c.loop-list.list-index (0, 0) c.loop-list-test.true).stands (get_or c.args.lists.now c.list_from-number.result d) (c.list_from-number.ensures.from d)

pub read_run-requires-clause-few : goal.read_run-requires-clause-few
read_run-requires-clause-few c = λ d. (c.requires.lists c.loop-list.list-index (0, 0) c.loop-list-test.true).few (get_or c.args.lists.now c.list_from-number.result d) (c.list_from-number.ensures.from d)

pub returns-in_err-pairs-clause-fault : goal.returns-in_err-pairs-clause-fault
returns-in_err-pairs-clause-fault c =
    let section : ListSection = section_held c.args.contributions.now in
    let turned : List (ℕ × ℕ) = c.args.turned.now in
    let list : HeldList = get_or c.args.lists.now c.list_from-number.result no_list in
    let y : ℕ × ℕ = get_or turned c.loop-list.list-index (0, 0) in
    let p = err_from_is_err_and c.from_residual.result c.from_residual.ensures.1 in
    rw (p.1, p.2) (refused_for (FaultRun section.section (part_at section list.part) y.1 (raw_pairs list.raw)) (FaultWanted section c.args.lists.now turned) (λ kind place f.
    (y, Contains-get_or turned c.loop-list.list-index (0, 0) c.loop-list-test.true, list, c.list_from-number.ensures.from no_list, f)) c.args.origin c.in_err-pairs.field-0.0 (c.in_err-pairs.ensures.fault no_list))

pub loop-list-preserved : goal.loop-list-preserved
loop-list-preserved c =
    let section : ListSection = section_held c.args.contributions.now in
    let turned : List (ℕ × ℕ) = c.args.turned.now in
    let index : ℕ = c.loop-list.list-index in
    let y : ℕ × ℕ = get_or turned index (0, 0) in
    let list : HeldList = get_or c.args.lists.now c.list_from-number.result no_list in
    let from : IsListFrom c.args.lists.now y.0 list = c.list_from-number.ensures.from no_list in
    let pairs : List ViewPair = c.deref.result.now in
    let read : IsRunRead section list y.1 (record { list = y.0; at = y.1; pairs = pairs }) =
    subst (λ (z : List ViewPair). IsRunRead section list y.1 (record { list = y.0; at = y.1; pairs = z })) (sym c.deref.ensures.value)
    (subst (λ (n : ℕ). IsRunRead section list y.1 (record { list = n; at = y.1; pairs = c.in_ok-pairs.pairs.items })) from.1 (c.in_ok-pairs.ensures.read no_list)) in
    runs_push section c.args.lists.now turned index y.1 (0, 0) c.loop-list.views c.push.new.self (record { list = y.0; at = y.1; pairs = pairs }) list c.loop-list-test.true c.in_ok-push.ensures.pushed c.loop-list.invariant from read refl
