use Rattle.std.proofs.Common.{◌≡◌, ◌∙◌, List, length, ap, arith}
use Rattle.std.proofs.lemmas.List.{length-map}
use Rattle.value_links.specs.World.{lists_held}
use Rattle.tidy_lists.specs.declared.due.Place.{Place}
use Rattle.tidy_lists.specs.inside.DuePlaces.{standing}
use Rattle.tidy_lists.proofs.PairWorlds.{lists_inside, lists_elsewhere}
use Rattle.tidy_lists.proofs.elsewhere.first_list_elsewhere.Goals as goal

pub first_displaced-requires : goal.first_displaced-requires
first_displaced-requires c = λ k m there.
    let b = c.args.after.now in
    let (old, new) = lists_inside c.args.before.now b c.requires.before c.requires.after c.args.kind c.args.pairs.now c.requires.pairs k m there in
    let count : length c.deref.result.now ≡ length (lists_held b c.args.kind) = ap (λ (z : List Place). length z) (c.deref.ensures.value ∙ c.in_ok-stands.ensures) ∙ length-map (lists_held b c.args.kind) standing in
    (omega (arith, old, c.requires.long), omega (arith, new, count))

pub returns : goal.returns
returns c =
    lists_elsewhere c.args.before.now c.args.after.now c.requires.before c.requires.after c.args.kind c.args.pairs.now c.deref.result.now c.args.due.now c.first_displaced.result c.requires.pairs (c.deref.ensures.value ∙ c.in_ok-stands.ensures) c.requires.due c.first_displaced.ensures
