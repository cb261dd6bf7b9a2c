use Rattle.std.proofs.Common.{◌∙◌, ap}
use Rattle.std.proofs.lemmas.List.Elements.{Contains-get_or}
use Rattle.list_arena.specs.Held.{HeldList}
use Rattle.value_links.proofs.views.list_from.Goals as goal

pub unreachable-requires : goal.unreachable-requires
unreachable-requires c =
    let (list, ((k, inside, is), here)) = c.requires.known in
    c.in-None.ensures k list inside (ap (λ (z : HeldList). z.at) is ∙ here)

pub returns-clause-from : goal.returns-clause-from
returns-clause-from c = λ d. (Contains-get_or c.args.lists.now c.in-Some.number d c.in-Some.ensures.0, c.in-Some.ensures.1 d)
