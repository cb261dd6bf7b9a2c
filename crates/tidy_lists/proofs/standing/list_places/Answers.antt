use Rattle.std.proofs.Common.{◌≡◌, ◌<◌, ◌∙◌, ℕ, List, length, get_or, ap, subst}
use Rattle.list_arena.specs.Held.{HeldList}
use Rattle.value_links.specs.World.{lists_held}
use Rattle.tidy_lists.specs.declared.due.Place.{Place}
use Rattle.tidy_lists.proofs.HeldThings.{some_element}
use Rattle.tidy_lists.proofs.StandingLaws.{lists_more}
use Rattle.tidy_lists.proofs.standing.list_places.Goals as goal

pub loop-number-preserved : goal.loop-number-preserved
loop-number-preserved c =
    let lists = lists_held c.args.world.now c.args.kind in
    let i : ℕ = c.loop-number.number in
    let same = c.lists-lists.ensures.lists in
    let inside : i < length lists = subst (λ (z : List HeldList). i < length z) same (subst (λ (n : ℕ). i < n) c.len-number-end.ensures c.loop-number-test.true) in
    let d : HeldList = some_element lists i inside in
    let place : Place = record { part = c.part.result; at = c.at.result } in
    let part : c.part.result ≡ (get_or lists i d).part = c.part.ensures d ∙ ap (λ (z : List HeldList). (get_or z i d).part) same in
    let at : c.at.result ≡ (get_or lists i d).at = c.at.ensures d ∙ ap (λ (z : List HeldList). (get_or z i d).at) same in
    c.in_ok-push.ensures.items ∙ lists_more lists i c.loop-number.places.items place d inside c.loop-number.invariant part at
