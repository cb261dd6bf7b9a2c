use Rattle.std.proofs.Common.{◌≡◌, ◌≤◌, ◌+◌, ◌^◌, ◌∙◌, ℕ, List, length, get_or, sym, ap, refl, arith}
use Rattle.unit_write.specs.Slots.{IsListSlotFor}
use Rattle.list_arena.specs.Held.{HeldList}
use Rattle.rewriter.specs.inside.Placed.{unit_in}
use Rattle.rewriter.proofs.MovedSlots.{zip_counts}
use Rattle.rewriter.proofs.SlotsOfLists.{lists_none, lists_more, lists_all, aims_few}
use Rattle.rewriter.proofs.list_slots.list_slots.Goals as goal

pub loop-number-init : goal.loop-number-init
loop-number-init c = lists_none c.args.world.now (unit_in c.args.world.now.units c.args.unit) c.args.lists.now c.new-slots.result.items c.new-slots.ensures.items

-- the list of this turn
list_here : (all lent : List HeldList) (k : ℕ) (list : HeldList) → lent ≡ all → ((d : HeldList) → list ≡ get_or lent k d) → list ≡ get_or all k list
list_here all lent k list same is = is list ∙ ap (λ (z : List HeldList). get_or z k list) same

pub push_list-requires-clause-list : goal.push_list-requires-clause-list
push_list-requires-clause-list c =
    let i : ℕ = c.loop-number.number-index in
    let k : ℕ = get_or c.args.lists.now i 0 in
    let list = c.in_ok-list.list in
    (k, (c.requires.owned i 0 c.loop-number-test.true).0, sym (list_here c.args.world.now.locations c.lists-all.result.now k list c.lists-all.ensures.lists c.in_ok-list.ensures))

pub push_list-requires-clause-owned : goal.push_list-requires-clause-owned
push_list-requires-clause-owned c =
    let i : ℕ = c.loop-number.number-index in
    let k : ℕ = get_or c.args.lists.now i 0 in
    let list = c.in_ok-list.list in
    ap (λ (z : HeldList). z.owner) (list_here c.args.world.now.locations c.lists-all.result.now k list c.lists-all.ensures.lists c.in_ok-list.ensures) ∙ (c.requires.owned i 0 c.loop-number-test.true).1 list

pub loop-number-preserved : goal.loop-number-preserved
loop-number-preserved c =
    let world = c.args.world.now in
    let numbers : List ℕ = c.args.lists.now in
    let i : ℕ = c.loop-number.number-index in
    let k : ℕ = get_or numbers i 0 in
    let list = c.in_ok-list.list in
    let here : list ≡ get_or world.locations k list = list_here world.locations c.lists-all.result.now k list c.lists-all.ensures.lists c.in_ok-list.ensures in
    lists_more world (unit_in world.units c.args.unit) numbers i c.loop-number-test.true k refl list (c.requires.owned i 0 c.loop-number-test.true).0 here c.loop-number.slots.items c.push_list.new.slots.items c.loop-number.invariant c.in_ok-push_list.ensures

pub returns-clause-slots : goal.returns-clause-slots
returns-clause-slots c =
    let all = lists_all c.args.world.now (unit_in c.args.world.now.units c.args.unit) c.args.lists.now c.loop-number.number-index c.loop-number.slots.items c.loop-number-test.false c.loop-number.invariant in
    (all.more, all.told, all.are)

pub returns-clause-few : goal.returns-clause-few
returns-clause-few c =
    let world = c.args.world.now in
    let unit = unit_in world.units c.args.unit in
    let all = lists_all world unit c.args.lists.now c.loop-number.number-index c.loop-number.slots.items c.loop-number-test.false c.loop-number.invariant in
    let few : length all.more ≤ 2 ^ 24 + 2 ^ 26 = aims_few world c.requires.world c.args.lists.now c.requires.rising (λ i d inside. (c.requires.owned i d inside).0) c.slots_are_few.ensures.opcodes c.slots_are_few.ensures.few all.more all.told in
    let same : length all.more ≡ length c.loop-number.slots.items = zip_counts (IsListSlotFor unit.forest unit.head.at) all.more c.loop-number.slots.items all.are.each in
    omega (arith, few, same)
