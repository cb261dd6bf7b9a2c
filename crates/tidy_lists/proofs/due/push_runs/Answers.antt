use Rattle.std.proofs.Common.{◌≡◌, ◌<◌, ◌+◌, ◌∙◌, ℕ, List, [], ◌∷◌, ◌++◌, length, get_or, sym, ap, subst, arith}
use Rattle.std.proofs.lemmas.Grind.{common_steps}
use Rattle.std.proofs.lemmas.List.{length_push}
use Rattle.list_model.specs.declared.entry.ListKind.{ListKind}
use Rattle.list_arena.specs.Held.{HeldList as ListRead, HeldViews as ViewRead}
use Rattle.value_links.specs.Reading.{view_at}
use Rattle.value_links.specs.World.{World, lists_held}
use Rattle.tidy_lists.specs.declared.due.Place.{Place}
use Rattle.tidy_lists.specs.Followers.{RunHasLength}
use Rattle.tidy_lists.specs.inside.Compared.{OfBoth}
use Rattle.tidy_lists.specs.inside.DuePlaces.{runs_held, IsNextDue}
use Rattle.tidy_lists.proofs.HeldThings.{some_element, runs_all, AreRunsSwept}
use Rattle.tidy_lists.proofs.DueWorlds.{first_known, next_more, swept_more}
use Rattle.tidy_lists.proofs.due.push_runs.Goals as goal

-- with which list a run goes that is held
run_taken : (views : List ViewRead) (j again list : ℕ) (e : ViewRead) (world : World) (kind : ListKind) → j < length (runs_held world kind) → views ≡ world.views → again ≡ j → list ≡ (get_or views again e).list → list ≡ (get_or (runs_held world kind) j e).list
run_taken views j again list e world kind inside those same is =
    is ∙ ap (λ (n : ℕ). (get_or views n e).list) same ∙ ap (λ (z : List ViewRead). (get_or z j e).list) (those ∙ runs_all world kind j inside)

pub run_len-len-requires-clause-inside : goal.run_len-len-requires-clause-inside
run_len-len-requires-clause-inside c =
    let a = c.args.before.now in
    let firsts = c.args.firsts.now in
    let count : c.len-in-loop-due-2.result ≡ length c.loop-due.due.items = grind (arith, common_steps) in
    let same : c.len.result ≡ length c.loop-due.due.items = grind (arith, common_steps) in
    let inside : length c.loop-due.due.items < length (runs_held a c.args.kind) = omega (arith, same, c.loop-due-test.true, c.run_count-count.ensures) in
    let known = first_known a c.args.after.now c.args.kind c.requires.before c.requires.after firsts (length c.loop-due.due.items) c.requires.firsts inside in
    subst (λ (z : ℕ). get_or firsts z 0 < length c.args.after.now.views) (sym count) known

pub loop-due-preserved : goal.loop-due-preserved
loop-due-preserved c =
    let a = c.args.before.now in
    let b = c.args.after.now in
    let kind = c.args.kind in
    let number : ℕ = c.args.number in
    let firsts = c.args.firsts.now in
    let due : List Place = c.loop-due.due.items in
    let same : c.len.result ≡ length due = grind (arith, common_steps) in
    let again : c.len-in-loop-due.result ≡ length due = grind (arith, common_steps) in
    let third : c.len-in-loop-due-2.result ≡ length due = grind (arith, common_steps) in
    let inside : length due < length (runs_held a kind) = omega (arith, same, c.loop-due-test.true, c.run_count-count.ensures) in
    let d : ListRead = some_element (lists_held a kind) number c.requires.inside in
    let e : ViewRead = some_element (runs_held a kind) (length due) inside in
    let run = run_taken c.views-views.result.now (length due) c.len-in-loop-due.result c.list.result e a kind inside c.views-views.ensures again (c.list.ensures e) in
    let list : c.at-list.result ≡ (get_or (lists_held a kind) number d).at = c.at-list.ensures d ∙ ap (λ (z : List ListRead). (get_or z number d).at) c.lists.ensures.lists in
    let with : (get_or (runs_held a kind) (length due) e).list ≡ (get_or (lists_held a kind) number d).at = sym run ∙ c.if-list.true ∙ list in
    let has : OfBoth b b (λ r s. RunHasLength s (view_at s.views (get_or firsts (length due) 0)) c.run_len-len.result) = subst (λ (z : ℕ). OfBoth b b (λ r s. RunHasLength s (view_at s.views (get_or firsts z 0)) c.run_len-len.result)) third c.run_len-len.ensures.len in
    let items : c.push.new.self.items ≡ due ++ c.loop-due.next ∷ [] = c.in_ok-push.ensures.items in
    let next = next_more a b kind number firsts due d e c.loop-due.next c.run_len-len.result c.saturating_add.result c.requires.inside inside c.requires.firsts with has c.saturating_add.ensures c.loop-due.invariant.0 in
    let swept = swept_more a b kind number (length c.args.due.now.items) (length due) d e c.requires.inside inside with c.loop-due.invariant.1 in
    let long : length due + 1 ≡ length c.push.new.self.items = sym (ap (λ (z : List Place). length z) items ∙ length_push due c.loop-due.next) in
    (subst (λ (z : List Place). OfBoth a b (λ r s. IsNextDue kind r s number z (record { part = c.loop-due.next.part; at = c.saturating_add.result }))) (sym items) next, subst (AreRunsSwept a kind number (length c.args.due.now.items)) long swept)

pub returns-else-list-clause-runs : goal.returns-else-list-clause-runs
returns-else-list-clause-runs c =
    let a = c.args.before.now in
    let number : ℕ = c.args.number in
    let due : List Place = c.loop-due.due.items in
    let swept = c.loop-due.invariant.1 in
    let again : c.len-in-loop-due.result ≡ length due = grind (arith, common_steps) in
    record {
      more = swept.more;
      inside = swept.inside;
      own = swept.own;
      other = λ list run less same.
          let with = run_taken c.views-views.result.now (length due) c.len-in-loop-due.result c.list.result run a c.args.kind less c.views-views.ensures again (c.list.ensures run) in
          let at : c.at-list.result ≡ (get_or (lists_held a c.args.kind) number list).at = c.at-list.ensures list ∙ ap (λ (z : List ListRead). (get_or z number list).at) c.lists.ensures.lists in
          absurd (omega (arith, c.if-list.false, with, at, same));
    }
