use Rattle.std.proofs.Common.{◌≡◌, ◌≤◌, ◌<◌, ◌+◌, ◌∙◌, ℕ, List, [], ◌∷◌, ◌++◌, length, sym, ap, subst, arith}
use Rattle.std.proofs.lemmas.Grind.{common_steps}
use Rattle.std.proofs.lemmas.List.{length_push}
use Rattle.value_links.specs.World.{lists_held}
use Rattle.tidy_lists.specs.declared.due.Place.{Place}
use Rattle.tidy_lists.specs.inside.Compared.{OfBoth}
use Rattle.tidy_lists.specs.inside.DuePlaces.{AreListsDue, AreDue}
use Rattle.tidy_lists.proofs.DueWorlds.{next_due, lists_so_far, due_step, all_lists, all_runs, run_total}
use Rattle.tidy_lists.proofs.due.due_places.Goals as goal

pub begin_of-begin-requires-clause-due : goal.begin_of-begin-requires-clause-due
begin_of-begin-requires-clause-due c =
    let a = c.args.before.now in
    let b = c.args.after.now in
    let so_far = lists_so_far a b c.args.kind c.loop-number.number c.loop-number.lists.items c.loop-number.runs.items c.loop-number.invariant.0 c.loop-number.invariant.2 in
    subst (λ (z : List Place). OfBoth a b (λ r s. AreListsDue c.args.kind r s c.loop-number.number z)) (sym c.deref.ensures.value) so_far

pub push_runs-requires-clause-due : goal.push_runs-requires-clause-due
push_runs-requires-clause-due c =
    let a = c.args.before.now in
    let inside : c.loop-number.number < length (lists_held a c.args.kind) = grind (arith, common_steps) in
    next_due a c.args.after.now c.args.kind c.loop-number.number c.loop-number.lists.items c.loop-number.runs.items c.begin_of-begin.result inside c.loop-number.invariant.0 c.loop-number.invariant.2 c.begin_of-begin.ensures

pub loop-number-preserved : goal.loop-number-preserved
loop-number-preserved c =
    let a = c.args.before.now in
    let b = c.args.after.now in
    let kind = c.args.kind in
    let number : ℕ = c.loop-number.number in
    let lists : List Place = c.loop-number.lists.items in
    let runs : List Place = c.push_runs.new.due.items in
    let next : Place = c.in_ok-next.next in
    let count : length lists ≡ number = c.loop-number.invariant.0 in
    let items : c.push.new.self.items ≡ lists ++ next ∷ [] = c.in_ok-push.ensures.items in
    let inside : number < length (lists_held a kind) = grind (arith, common_steps) in
    let due = due_step a b kind number lists c.loop-number.runs.items runs next inside count c.loop-number.invariant.2 c.in_ok-next.ensures.next c.in_ok-next.ensures.runs in (
      ap (λ (z : List Place). length z) items ∙ length_push lists next ∙ ap (λ (z : ℕ). z + 1) count,
      c.in_ok-next.ensures.runs.inside,
      subst (λ (z : List Place). OfBoth a b (λ r s. AreDue kind r s z runs)) (sym items) due,
    )

pub returns-clause-runs_long : goal.returns-clause-runs_long
returns-clause-runs_long c =
    let all : length (lists_held c.args.before.now c.args.kind) ≤ length c.loop-number.lists.items = grind (arith, common_steps) in
    run_total c.args.before.now c.args.after.now c.args.kind c.requires.before c.requires.after c.loop-number.lists.items c.loop-number.runs.items all c.loop-number.invariant.1 c.loop-number.invariant.2

pub returns-clause-lists : goal.returns-clause-lists
returns-clause-lists c =
    let all : length (lists_held c.args.before.now c.args.kind) ≤ length c.loop-number.lists.items = grind (arith, common_steps) in
    all_lists c.args.before.now c.args.after.now c.args.kind c.loop-number.lists.items c.loop-number.runs.items all c.loop-number.invariant.2

pub returns-clause-runs : goal.returns-clause-runs
returns-clause-runs c =
    let all : length (lists_held c.args.before.now c.args.kind) ≤ length c.loop-number.lists.items = grind (arith, common_steps) in
    all_runs c.args.before.now c.args.after.now c.args.kind c.loop-number.lists.items c.loop-number.runs.items all c.loop-number.invariant.2
