use Rattle.std.proofs.Common.{refl}
use Rattle.unit_write.proofs.ShortSpans.{short_of}
use Rattle.unit_write.proofs.slots.slots_of.Goals as goal

pub measure-requires-clause-short : goal.measure-requires-clause-short
measure-requires-clause-short c = short_of c.args.unit.now c.args.decls.now c.args.specs.now.items c.args.numbers.now.items c.requires.writable (c.if-not-has_room.ensures.room refl)
