use Rattle.std.proofs.Common.{◌≡◌, ◌<◌, ◌∙◌, ℕ, List, length, get_or, sym, ap, subst}
use Rattle.list_arena.specs.Held.{HeldList as ListRead}
use Rattle.value_links.specs.World.{lists_held}
use Rattle.tidy_lists.proofs.HeldThings.{some_element, part_found}
use Rattle.tidy_lists.proofs.standing.part_of_list.Goals as goal

pub unreachable-requires : goal.unreachable-requires
unreachable-requires c =
    let same = c.lists-lists.ensures.lists in
    let (k, inside, here) = c.requires.there in
    let list : ListRead = some_element (lists_held c.args.world.now c.args.kind) k inside in
    c.in-None.ensures k list (subst (λ (z : List ListRead). k < length z) (sym same) inside) (ap (λ (z : List ListRead). (get_or z k list).at) same ∙ here list)

pub returns : goal.returns
returns c =
    let world = c.args.world.now in
    let kind = c.args.kind in
    let same = c.lists-lists.ensures.lists in
    let number : ℕ = c.in-Some.number in
    let (known, at) = c.in-Some.ensures in
    let inside : number < length (lists_held world kind) = subst (λ (z : List ListRead). number < length z) same known in
    let list : ListRead = some_element (lists_held world kind) number inside in
    let own : get_or c.lists-lists.result.now number list ≡ get_or (lists_held world kind) number list = ap (λ (z : List ListRead). get_or z number list) same in
    part_found world kind number c.args.at c.part.result list inside (ap (λ (z : ListRead). z.at) (sym own) ∙ at list) (c.part.ensures list ∙ ap (λ (z : ListRead). z.part) own)
