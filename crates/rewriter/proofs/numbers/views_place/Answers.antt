use Rattle.std.proofs.Common.{rules, refl}
use Rattle.std.proofs.lemmas.List.Sorted.{answers_always}
use Rattle.value_links.proofs.FoundPairs.{pair_found, pair_not_found}
use Rattle.rewriter.proofs.numbers.views_place.Goals as goal

-- the closure gives both places
pub unreachable-requires : goal.unreachable-requires
unreachable-requires c =
    let parted = c.in-Err.ensures.position (λ views. (views.list, views.old)) (answers_always _ _ _ (λ f a r g called. search rules)) in
    let (new, moved) = c.requires.stands in
    pair_not_found (λ views. views.list) (λ views. views.old) c.args.moved.now (record { list = 0; old = 0; new = 0 }) c.requires.rising c.args.list c.args.old c.in-Err.field-0 parted moved.number moved.inside moved.with moved.from

pub returns : goal.returns
returns c =
    let at = c.in-Ok.ensures.position (λ views. (views.list, views.old)) (answers_always _ _ _ (λ f a r g called. search rules)) in
    let (with, from) = pair_found (λ views. views.list) (λ views. views.old) c.args.moved.now (record { list = 0; old = 0; new = 0 }) c.requires.rising c.args.list c.args.old c.in-Ok.run' at in
    record { number = c.in-Ok.run'; inside = c.in-Ok.ensures.bound; with = with; from = from; to = refl }
