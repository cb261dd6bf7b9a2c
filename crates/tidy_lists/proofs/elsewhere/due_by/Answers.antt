use Rattle.std.proofs.Common.{◌<◌, ◌∙◌, ℕ, List, length, sym, ap, subst}
use Rattle.list_arena.specs.Held.{HeldList as ListRead}
use Rattle.tidy_lists.specs.inside.Compared.{OfBoth}
use Rattle.tidy_lists.specs.inside.DuePlaces.{AreFirstLists, AreFirstRuns}
use Rattle.tidy_lists.proofs.PairWorlds.{lists_inside, runs_inside, lists_first, runs_first}
use Rattle.tidy_lists.proofs.elsewhere.due_by.Goals as goal

pub first_followers-requires : goal.first_followers-requires
first_followers-requires c = λ k m there.
    subst (λ (n : ℕ). k < n) (sym (c.len.ensures ∙ ap (λ (z : List ListRead). length z) c.lists.ensures.lists)) (lists_inside c.args.before.now c.args.after.now c.requires.before c.requires.after c.args.kind c.args.lists.now c.requires.lists k m there).0

pub first_followers-requires-2 : goal.first_followers-requires-2
first_followers-requires-2 c = λ k m there.
    subst (λ (n : ℕ). k < n) (sym c.run_count.ensures) (runs_inside c.args.before.now c.args.after.now c.requires.before c.requires.after c.args.kind c.args.runs.now c.requires.runs k m there).0

pub due_places-requires-clause-first_lists : goal.due_places-requires-clause-first_lists
due_places-requires-clause-first_lists c =
    let a = c.args.before.now in
    let b = c.args.after.now in
    let first = lists_first a b c.requires.before c.requires.after c.args.kind c.args.lists.now c.in_ok-first_lists.first_lists.items c.requires.lists c.in_ok-first_lists.ensures.firsts in
    subst (λ (z : List ℕ). OfBoth a b (λ r s. AreFirstLists c.args.kind r s z)) (sym c.deref.ensures.value) first

pub due_places-requires-clause-first_runs : goal.due_places-requires-clause-first_runs
due_places-requires-clause-first_runs c =
    let a = c.args.before.now in
    let b = c.args.after.now in
    let first = runs_first a b c.requires.before c.requires.after c.args.kind c.args.runs.now c.in_ok-first_runs.first_runs.items c.requires.runs c.in_ok-first_runs.ensures.firsts in
    subst (λ (z : List ℕ). OfBoth a b (λ r s. AreFirstRuns c.args.kind r s z)) (sym c.deref-2.ensures.value) first
