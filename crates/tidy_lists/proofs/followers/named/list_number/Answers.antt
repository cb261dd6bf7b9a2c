use Rattle.std.proofs.Common.{◌≡◌, ◌<◌, ◌∙◌, List, length, sym, ap, subst, arith}
use Rattle.list_arena.specs.Held.{HeldList as ListRead}
use Rattle.value_links.specs.Reading.{lists_of}
use Rattle.value_links.specs.World.{HoldLists}
use Rattle.tidy_lists.proofs.FewNumbers.{few_lists}
use Rattle.tidy_lists.proofs.HeldNumbers.{list_found, list_not_found}
use Rattle.tidy_lists.proofs.followers.named.list_number.Goals as goal

pub overflow_cast-result : goal.overflow_cast-result
overflow_cast-result c =
    let world = c.args.world.now in
    let (reach, is) = c.requires.world in
    let count : length c.lists.result.now ≡ length (lists_of is.r c.args.kind) = ap (λ (z : List ListRead). length z) c.lists.ensures.lists ∙ (is.holds.lists c.args.kind).count in
    let few = few_lists world.image reach is.r is.valid is.read c.args.kind c.in-Some.number in
    let inside : c.in-Some.number < length (lists_of is.r c.args.kind) = omega (arith, count, c.in-Some.ensures.0) in
    omega (arith, few inside)

pub unreachable-requires : goal.unreachable-requires
unreachable-requires c =
    let world = c.args.world.now in
    let (reach, is) = c.requires.world in
    let held : HoldLists is.r.links c.args.kind (lists_of is.r c.args.kind) c.lists.result.now = subst (HoldLists is.r.links c.args.kind (lists_of is.r c.args.kind)) (sym c.lists.ensures.lists) (is.holds.lists c.args.kind) in
    let (k, there) = c.requires.there is.r is.read is.holds in
    list_not_found world.image is.r is.read c.args.kind c.lists.result.now held c.args.place c.in-None.ensures k there

pub returns : goal.returns
returns c = λ r read holds.
    let held : HoldLists r.links c.args.kind (lists_of r c.args.kind) c.lists.result.now = subst (HoldLists r.links c.args.kind (lists_of r c.args.kind)) (sym c.lists.ensures.lists) (holds.lists c.args.kind) in
    list_found c.args.world.now.image r read c.args.kind c.lists.result.now held c.args.place c.in-Some.number c.in-Some.ensures
