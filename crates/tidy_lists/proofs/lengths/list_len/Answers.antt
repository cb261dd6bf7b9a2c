use Rattle.std.proofs.Common.{◌≡◌, ◌-◌, ◌∙◌, ℕ, List, get_or, ap, subst, refl, arith}
use Rattle.list_arena.specs.Held.{HeldList}
use Rattle.value_links.specs.Reading.{lists_of, list_at}
use Rattle.value_links.specs.World.{lists_held}
use Rattle.tidy_lists.specs.Followers.{HasLength}
use Rattle.tidy_lists.proofs.HeldThings.{some_element, part_inside}
use Rattle.tidy_lists.proofs.ListsUpTo.{list_stands}
use Rattle.tidy_lists.proofs.lengths.list_len.Goals as goal

pub bytes_to-bytes-requires-clause-inside : goal.bytes_to-bytes-requires-clause-inside
bytes_to-bytes-requires-clause-inside c =
    let d : HeldList = some_element (lists_held c.args.world.now c.args.kind) c.args.number c.requires.inside in
    let own : c.part.result ≡ (get_or (lists_held c.args.world.now c.args.kind) c.args.number d).part = c.part.ensures d ∙ ap (λ (z : List HeldList). (get_or z c.args.number d).part) c.lists-lists.ensures.lists in
    omega (arith, own, part_inside c.args.world.now c.requires.world c.args.kind c.args.number d c.requires.inside)

pub list_end-requires-clause-list : goal.list_end-requires-clause-list
list_end-requires-clause-list c = λ d.
    let (reach, known) = c.requires.world in
    let list : HeldList = get_or c.lists-lists.result.now c.args.number d in
    let stands = list_stands c.args.world.now known.r known.read known.holds c.args.kind c.lists-lists.result.now c.args.number d list c.part.result c.bytes_to-bytes.result.now c.lists-lists.ensures.lists c.requires.inside refl (c.part.ensures d) c.bytes_to-bytes.ensures.bytes in
    (stands.0, stands.1)

pub overflow_sub-result : goal.overflow_sub-result
overflow_sub-result c =
    let (reach, known) = c.requires.world in
    let d : HeldList = some_element (lists_held c.args.world.now c.args.kind) c.args.number c.requires.inside in
    let list : HeldList = get_or c.lists-lists.result.now c.args.number d in
    let stands = list_stands c.args.world.now known.r known.read known.holds c.args.kind c.lists-lists.result.now c.args.number d list c.part.result c.bytes_to-bytes.result.now c.lists-lists.ensures.lists c.requires.inside refl (c.part.ensures d) c.bytes_to-bytes.ensures.bytes in
    let same = c.list_end.ensures d stands.0 stands.1 in
    omega (arith, same, c.at.ensures d, stands.4)

pub returns-clause-len : goal.returns-clause-len
returns-clause-len c = λ r s first holds_first read holds.
    let d : HeldList = some_element (lists_held c.args.world.now c.args.kind) c.args.number c.requires.inside in
    let list : HeldList = get_or c.lists-lists.result.now c.args.number d in
    let stands = list_stands c.args.world.now s read holds c.args.kind c.lists-lists.result.now c.args.number d list c.part.result c.bytes_to-bytes.result.now c.lists-lists.ensures.lists c.requires.inside refl (c.part.ensures d) c.bytes_to-bytes.ensures.bytes in
    let same = c.list_end.ensures d stands.0 stands.1 in
    let len : stands.0 - list.at ≡ c.list_end.result - c.at.result = omega (arith, same, c.at.ensures d) in
    subst (λ (n : ℕ). HasLength c.args.kind s (list_at (lists_of s c.args.kind) c.args.number) n) len stands.2

pub returns-clause-within : goal.returns-clause-within
returns-clause-within c = λ r s first holds_first read holds.
    let d : HeldList = some_element (lists_held c.args.world.now c.args.kind) c.args.number c.requires.inside in
    let list : HeldList = get_or c.lists-lists.result.now c.args.number d in
    let stands = list_stands c.args.world.now s read holds c.args.kind c.lists-lists.result.now c.args.number d list c.part.result c.bytes_to-bytes.result.now c.lists-lists.ensures.lists c.requires.inside refl (c.part.ensures d) c.bytes_to-bytes.ensures.bytes in
    let same = c.list_end.ensures d stands.0 stands.1 in
    omega (arith, same, c.at.ensures d, stands.3, stands.4, stands.5)
