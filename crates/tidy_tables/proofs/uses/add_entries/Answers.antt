use Rattle.tidy_tables.proofs.UseLaws.{room_for_one}
use Rattle.tidy_tables.proofs.uses.add_entries.Goals as goal

pub overflow_add-index_mut : goal.overflow_add-index_mut
overflow_add-index_mut c = record {
  fits = room_for_one c.args.entries.now c.args.counts.now.items c.loop-entry.counts.items c.loop-entry.entry-index _ c.index_mut.result.now c.loop-entry-test.true (c.requires.inside _ _ c.loop-entry-test.true) c.requires.room c.loop-entry.invariant c.index_mut.ensures.value;
}
