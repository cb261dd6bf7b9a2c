use Rattle.same_meaning.proofs.PartMeanings.{slot_held, slots_decide}
use Rattle.same_meaning.proofs.parts.mean_same_slot.Goals as goal

pub mean_same-requires-clause-first : goal.mean_same-requires-clause-first
mean_same-requires-clause-first c =
    let world = c.args.before.now in
    let (reach, is) = c.requires.before in
    slot_held world.image is.r is.read c.args.kind c.args.part c.args.slot c.told-first.result (c.told-first.ensures world.image is.r is.holds) world is.holds

pub mean_same-requires-clause-second : goal.mean_same-requires-clause-second
mean_same-requires-clause-second c =
    let world = c.args.after.now in
    let (reach, is) = c.requires.after in
    slot_held world.image is.r is.read c.args.kind c.args.part c.args.slot c.told-second.result (c.told-second.ensures world.image is.r is.holds) world is.holds

pub returns-clause-same : goal.returns-clause-same
returns-clause-same c =
    let a = c.args.before.now in
    let b = c.args.after.now in
    slots_decide a b c.args.kind c.args.part c.args.slot c.told-first.result c.told-second.result (c.told-first.ensures a.image) (c.told-second.ensures b.image) c.mean_same.result c.mean_same.ensures.same
