use Rattle.std.proofs.Common.{◌∙◌, List, sym, ap, subst}
use Rattle.std.specs.List.{Contains}
use Rattle.list_arena.specs.Held.{HeldList}
use Rattle.value_links.proofs.Followed.{dead_frozen}
use Rattle.value_links.proofs.world.World.is_frozen.Goals as goal

pub unreachable-requires : goal.unreachable-requires
unreachable-requires c =
    let lists = c.lists-lists.result.now in
    let (list, there, here) = c.requires in
    let (k, inside, is) : Contains lists list = subst (λ (z : List HeldList). Contains z list) (sym c.lists-lists.ensures.lists) there in
    c.in-None.ensures k list inside (ap (λ (z : HeldList). z.at) is ∙ here)

pub returns : goal.returns
returns c = λ file r list holds one at.
    let lists = c.lists-lists.result.now in
    let d : HeldList = c.requires.0 in
    let number = c.in-Some.number in
    let frozen = dead_frozen file c.args.self.now r holds c.args.kind lists c.lists-lists.ensures.lists c.lists-lists.ensures.rising list one number d c.in-Some.ensures.0 (c.in-Some.ensures.1 d ∙ sym at) in
    let told = c.is_frozen.ensures d in
    (λ yes. frozen.0 (told.0 yes), λ is. told.1 (frozen.1 is))
