use Rattle.tidy_lists.proofs.SlotLists.{slot_there, slot_named}
use Rattle.tidy_lists.proofs.followers.named.named_by_slot.Goals as goal

pub list_number-requires-clause-there : goal.list_number-requires-clause-there
list_number-requires-clause-there c = λ r read holds.
    slot_there c.args.world.now.image r read c.args.kind c.args.part c.args.slot c.told.result (c.told.ensures c.args.world.now.image r holds)

pub returns : goal.returns
returns c = λ r read holds.
    slot_named c.args.world.now.image r read c.args.kind c.args.part c.args.slot c.told.result (c.told.ensures c.args.world.now.image r holds) c.list_number.result (c.list_number.ensures r read holds)
