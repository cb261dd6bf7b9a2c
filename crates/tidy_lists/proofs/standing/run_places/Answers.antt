use Rattle.std.proofs.Common.{◌≡◌, ◌<◌, ◌+◌, ◌∙◌, ℕ, List, [], ◌∷◌, ◌++◌, length, get_or, sym, ap, subst}
use Rattle.std.proofs.lemmas.List.{length_push}
use Rattle.list_arena.specs.Held.{HeldViews as ViewRead}
use Rattle.tidy_lists.specs.declared.due.Place.{Place}
use Rattle.tidy_lists.specs.inside.Compared.{OfBoth}
use Rattle.tidy_lists.specs.inside.DuePlaces.{runs_held, StandRuns}
use Rattle.tidy_lists.proofs.HeldThings.{some_element, runs_all, list_of_run}
use Rattle.tidy_lists.proofs.StandingLaws.{runs_more}
use Rattle.tidy_lists.proofs.standing.run_places.Goals as goal

pub part_of_list-part-requires-clause-there : goal.part_of_list-part-requires-clause-there
part_of_list-part-requires-clause-there c =
    let world = c.args.world.now in
    let i : ℕ = c.loop-number.number in
    let inside : i < length (runs_held world c.args.kind) = subst (λ (n : ℕ). i < n) c.run_count-number-end.ensures c.loop-number-test.true in
    let run : ViewRead = some_element (runs_held world c.args.kind) i inside in
    let same = c.views-views.ensures ∙ runs_all world c.args.kind i inside in
    list_of_run world c.requires c.args.kind i c.list.result run inside (c.list.ensures run ∙ ap (λ (z : List ViewRead). (get_or z i run).list) same)

pub loop-number-preserved : goal.loop-number-preserved
loop-number-preserved c =
    let world = c.args.world.now in
    let kind = c.args.kind in
    let i : ℕ = c.loop-number.number in
    let inside : i < length (runs_held world kind) = subst (λ (n : ℕ). i < n) c.run_count-number-end.ensures c.loop-number-test.true in
    let run : ViewRead = some_element (runs_held world kind) i inside in
    let same = c.views-views.ensures ∙ runs_all world kind i inside in
    let list : c.list.result ≡ (get_or (runs_held world kind) i run).list = c.list.ensures run ∙ ap (λ (z : List ViewRead). (get_or z i run).list) same in
    let at : c.at.result ≡ (get_or (runs_held world kind) i run).at = c.at.ensures run ∙ ap (λ (z : List ViewRead). (get_or z i run).at) same in
    let places : List Place = c.loop-number.places.items in
    let place : Place = record { part = c.part_of_list-part.result; at = c.at.result } in
    let items : c.push.new.self.items ≡ places ++ place ∷ [] = c.in_ok-push.ensures.items in
    let more = runs_more world kind i places place c.list.result run inside c.loop-number.invariant.0 list at c.part_of_list-part.ensures c.loop-number.invariant.1 in (
      ap (λ (z : List Place). length z) items ∙ length_push places place ∙ ap (λ (z : ℕ). z + 1) c.loop-number.invariant.0,
      subst (λ (z : List Place). OfBoth world world (λ r s. StandRuns kind s (i + 1) z)) (sym items) more,
    )

pub returns-clause-each : goal.returns-clause-each
returns-clause-each c =
    subst (λ (z : ℕ). OfBoth c.args.world.now c.args.world.now (λ r s. StandRuns c.args.kind s z c.loop-number.places.items)) (sym c.loop-number.invariant.0) c.loop-number.invariant.1
