use Rattle.std.proofs.Common.{◌≡◌, ◌∙◌, List, sym, ap, subst}
use Rattle.std.specs.List.{Contains}
use Rattle.list_arena.specs.Held.{HeldList}
use Rattle.value_links.specs.World.{lists_held}
use Rattle.same_meaning.proofs.LinkComparisons.{if_ok}
use Rattle.same_meaning.proofs.lists.list_at.Goals as goal

-- a list that begins there is among those that are held
pub unreachable-requires : goal.unreachable-requires
unreachable-requires c =
    let lists : List HeldList = c.lists-lists.result.now in
    let (list, there, here) = c.requires.named in
    let (k, inside, same) : Contains lists list = subst (λ (z : List HeldList). Contains z list) (sym c.lists-lists.ensures.lists) there in
    c.in-None.ensures k list inside (ap (λ (z : HeldList). z.at) same ∙ here)

pub returns-clause-list : goal.returns-clause-list
returns-clause-list c =
    if_ok _ (λ list. Contains (lists_held c.args.world.now c.args.kind) list) c.list.result
    (λ list is. subst (λ (z : List HeldList). Contains z list) c.lists-lists.ensures.lists (c.in-Some.number, c.in-Some.ensures.0, sym (is list)))
    c.list.ensures

pub returns-clause-at : goal.returns-clause-at
returns-clause-at c =
    if_ok _ (λ list. list.at ≡ c.args.at) c.list.result (λ list is. ap (λ (z : HeldList). z.at) (is list) ∙ c.in-Some.ensures.1 list) c.list.ensures
